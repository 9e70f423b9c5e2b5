-- The start and a list of picks: a refusal and a run.
use mathlib.Core.Path.{◌≡◌, refl, ap, ap₂, fun_ext, ◌∙◌}
use mathlib.Core.List.{List}
use Prim.Native.Nat.{ℕ, zero, suc, ◌<◌}
use native.Mathlib.Omega.{arith}
use lib.ListN.{replicate}
use Rattle.semantics.specs.Base.{gives, unless, ◌leaves◌otherwise◌}
use Rattle.semantics.specs.Task.{check}
use Rattle.semantics.specs.System.{system}
use Rattle.semantics.specs.Run as Paper
use Rattle.semantics.specs.Run.{start, run_refusal}
use Rattle.semantics.specs.Dispatch as Dispatch
use Rattle.semantics.specs.Dispatch.{first, start_of, play_on}
use Rattle.refusal.specs.Number.{number, code}
use Rattle.refusal.specs.declared.Refusal.{Refusal}
use Rattle.refusal.proofs.Laws.{number-positive}
use Rattle.mask.specs.Number as mask
use Rattle.mask.specs.declared.Mask.{Mask}
use Rattle.task.specs.declared.Task.{Task}
use Rattle.run_pick.specs.Value.{run_of}
use Rattle.std.specs.Prelude.{None}
use Rattle.run_pick.specs.declared.Run.{Run}
use Rattle.run_pick.proofs.Laws.{zeros-at}
use Rattle.run_ticket.specs.Value.{numbered_of}
use Rattle.run_ticket.specs.declared.Numbered.{Numbered}
use Rattle.run_play.specs.Value.{play_from, PlayMeans}
use Rattle.run_play.specs.declared.Played.{Played}
use Rattle.run_dispatch.specs.Value.{empty_run, RunMeans}

-- ---- a refusal and a run

module _ (r : ℕ) (x before : Dispatch.Numbered ℕ) (run : Numbered) where
  told-refused : (e : Refusal) → number e ≡ r → numbered_of run ≡ before
      → RunMeans (unless r (gives x)) before (number e) run
  told-refused e k q = at (number e) k (number-positive e)
    where
      at : (n : ℕ) → n ≡ r → 0 < n → RunMeans (unless r (gives x)) before n run
      at zero k h = absurd (omega arith)
      at (suc n) k h = rw (← k) (record { answer = refl; after = q })

  told-given : 0 ≡ r → numbered_of run ≡ x → RunMeans (unless r (gives x)) before 0 run
  told-given k q = rw (← k) (record { answer = ap gives q; after = q })

-- ---- the start

abbrev run_at : Mask → Run
run_at m = record { shared = record { 0 = m }; places = replicate 8 0; closed = None }

module _ (t : List ℕ) where
  abbrev numbered : Paper.Run ℕ → Dispatch.Numbered ℕ
  numbered r = record { run = r; change = 0 }

  pub start-refused : (e : Refusal) → number e ≡ check t → (m : Mask) → mask.number m ≡ 0
      → RunMeans (start_of t) empty_run (number e) (record { run = run_at m; change = 0 })
  start-refused e k m q =
      told-refused (check t) (first t) empty_run (record { run = run_at m; change = 0 }) e k
      (ap numbered
      (ap₂ (λ (s : ℕ) (p : ℕ → ℕ). record { shared = s; places = p; closed = Paper.not_yet }) q (fun_ext (zeros-at 8))))

  pub start-given : 0 ≡ check t → (own : Task) → own.words.now ≡ t → (r : Run) → run_of r ≡ start (system own.words.now)
      → RunMeans (start_of t) empty_run 0 (record { run = r; change = 0 })
  start-given k own same r q =
      told-given (check t) (first t) empty_run (record { run = r; change = 0 }) k
      (ap numbered (q ∙ ap (λ (w : List ℕ). start (system w)) same))

-- ---- a list of picks

module _ (t plans ends picks before after : List ℕ) (run : Numbered) (p : Played) where
  pub play-means : PlayMeans t plans ends (run_refusal t plans ends (run_of run.run)) (numbered_of run) picks before p after
      → RunMeans (play_on t plans ends (numbered_of run) picks) (numbered_of run) (code p.answer) p.run
  unfolding play_on
  play-means m = at (run_refusal t plans ends (run_of run.run)) m.refusal m.run
    where
      at : (r : ℕ) → code p.answer ≡ r
          → numbered_of p.run ≡ (r leaves (λ k. numbered_of run) otherwise play_from t plans ends (numbered_of run) picks)
          → RunMeans (unless r (gives (play_from t plans ends (numbered_of run) picks))) (numbered_of run)
          (code p.answer) p.run
      at zero e q = rw e (record { answer = ap gives q; after = q })
      at (suc r) e q = rw e (record { answer = refl; after = q })
