-- The picks done one after another, with the answer of each written. Assumes nothing.
use mathlib.Core.Path.{◌≡◌, refl, sym, ap, ◌∙◌}
use mathlib.Core.List.{List, [], ◌∷◌, ◌++◌, append_assoc, append-nil}
use Prim.Native.Nat.{ℕ, zero, suc, ◌+◌, ◌≤◌, ◌<◌}
use native.Mathlib.Omega.{arith}
use native.Mathlib.Numerals.{add-one}
use lib.ListN.{length, get_or, drop, set, drop_of_length-le, length-append, length-set}
use lib.Seq.{drop-cons, set_out}
use borrow.Author.Tests.{lt-ltb, le-ltb}
use Rattle.semantics.specs.Base.{◌leaves◌otherwise◌}
use Rattle.semantics.specs.Run.{run_refusal}
use Rattle.semantics.specs.Dispatch.{play_numbered}
use Rattle.std.specs.Prelude.{Ok, Err}
use Rattle.refusal.specs.Number.{number}
use Rattle.refusal.specs.declared.Refusal.{Refusal}
use Rattle.refusal.specs.declared.Refusal.TheVariants as refusal
use Rattle.refusal.proofs.Laws.{number-positive}
use Rattle.run_plans.specs.Value.{Holds, of_plans}
use Rattle.run_plans.specs.declared.Plans.{Plans}
use Rattle.run_pick.specs.Value.{run_of, answer_of, replies}
use Rattle.run_ticket.specs.Value.{numbered_of, DispatchMeans}
use Rattle.run_ticket.specs.declared.Numbered.{Numbered}
use Rattle.run_ticket.specs.declared.Dispatched.{Dispatched}
use Rattle.run_play.specs.Value.{number_in, over, pick_from, play_from, told, play_refusal, answered, PlayMeans}
use Rattle.run_play.specs.Inner.Play.{AllMean}
use Rattle.run_play.specs.declared.Played.{Played}

-- ---- where a pick's number goes

pub put_past : (xs : List ℕ) (k v : ℕ) → length xs ≤ k → xs ≡ set xs k v
put_past xs k v h = sym (set_out xs k v h)

-- one answer more
over-more : (xs ys : List ℕ) (v : ℕ) → set (over xs ys) (length xs) v ≡ over (xs ++ (v ∷ [])) ys
unfolding over
over-more [] [] v = refl
over-more [] (y ∷ ys) v = refl
over-more (x ∷ xs) [] v = refl
over-more (x ∷ xs) (y ∷ ys) v = ap (λ (l : List ℕ). x ∷ l) (over-more xs ys v)

-- ---- all picks

-- k of the picks are done and answered
pub record Playing (t plans ends picks before : List ℕ) (first run : Numbered) (answers : List ℕ) (k : ℕ) : Type 0 where
  pub most : k ≤ length picks
  pub rest : play_from t plans ends (numbered_of first) picks ≡ play_from t plans ends (numbered_of run) (drop k picks)
  pub done : List ℕ
  pub many : length done ≡ k
  pub tells : told t plans ends (numbered_of first) picks ≡ done ++ told t plans ends (numbered_of run) (drop k picks)
  pub holds : answers ≡ over done before
  pub same : length answers ≡ length before

module _ (t plans ends picks before : List ℕ) (first : Numbered) where
  pub playing_starts : Playing t plans ends picks before first first before 0
  unfolding over
  playing_starts =
      record { most = omega arith; rest = refl; done = []; many = refl; tells = refl; holds = refl; same = refl }

  module _ (run : Numbered) (answers : List ℕ) (k : ℕ) (r : Playing t plans ends picks before first run answers k) where
    pub playing_picks : k < length picks → (p : Dispatched)
        → DispatchMeans (pick_from t plans ends (numbered_of run) (get_or picks k 0)) run p
        → (v : ℕ) → v ≡ number_in (answer_of p.answer) → (after : List ℕ) → after ≡ set answers k v
        → Playing t plans ends picks before first p.run after (k + 1)
    unfolding play_numbered told
    playing_picks h p m v e after put =
        let j = get_or picks k 0 in
        let next = told t plans ends (numbered_of p.run) (drop (suc k) picks) in
        let number : v ≡ number_in (replies (pick_from t plans ends (numbered_of run) j)) = e ∙ ap number_in m.answer in
        let step : told t plans ends (numbered_of run) (drop k picks) ≡ v ∷ next =
        rw (drop-cons picks k 0 h, m.after, number) in
        record {
          most = omega arith;
          rest = r.rest ∙ rw (drop-cons picks k 0 h, add-one k, m.after);
          done = r.done ++ (v ∷ []);
          many = length-append r.done (v ∷ []) ∙ omega (arith, r.many);
          tells =
              r.tells
              ∙ ap (λ (l : List ℕ). r.done ++ l) step
              ∙ sym (append_assoc r.done (v ∷ []) next)
              ∙ rw (add-one k);
          holds =
              put
              ∙ ap (λ (l : List ℕ). set l k v) r.holds
              ∙ ap (λ (n : ℕ). set (over r.done before) n v) (sym r.many)
              ∙ over-more r.done before v;
          same = ap length put ∙ length-set answers k v ∙ r.same;
        }

    pub playing_ends : length picks ≤ k → AllMean t plans ends (numbered_of first) picks before run answers
    unfolding play_numbered told
    playing_ends h =
        let none : drop k picks ≡ [] = drop_of_length-le picks h in
        let all : told t plans ends (numbered_of first) picks ≡ r.done =
        r.tells ∙ ap (λ (l : List ℕ). r.done ++ told t plans ends (numbered_of run) l) none ∙ append-nil r.done in
        record {
          played = sym (r.rest ∙ ap (play_from t plans ends (numbered_of run)) none);
          answers = r.holds ∙ ap (λ (l : List ℕ). over l before) (sym all);
        }

-- ---- the operations

pub leaves_none : {A : Type 0} (r : ℕ) (x y : A) → r ≡ 0 → y ≡ (r leaves (λ k. x) otherwise y)
leaves_none zero x y h = refl
leaves_none (suc r) x y h = absurd (omega arith)

pub leaves-some : {A : Type 0} (r : ℕ) (x y : A) → (r ≡ 0 → ⊥) → x ≡ (r leaves (λ k. x) otherwise y)
leaves-some zero x y h = absurd (h refl)
leaves-some (suc r) x y h = refl

module _ (t plans ends picks before : List ℕ) (run : Numbered) where
  abbrev Means : ℕ → Played → List ℕ → Type 0
  Means refuses p after = PlayMeans t plans ends refuses (numbered_of run) picks before p after

  as_it_was : (refuses : ℕ) (e : Refusal) → number e ≡ refuses
      → Means refuses (record { answer = Err e; run = run }) before
  as_it_was refuses e is =
      let some : refuses ≡ 0 → ⊥ = λ z. omega (arith, number-positive e) in
      record {
        refusal = is;
        run = leaves-some refuses (numbered_of run) (play_from t plans ends (numbered_of run) picks) some;
        answers = leaves-some refuses before (answered t plans ends (numbered_of run) picks before) some;
      }

  pub into-refused : (e : Refusal) → number e ≡ run_refusal t plans ends (run_of run.run)
      → Means (run_refusal t plans ends (run_of run.run)) (record { answer = Err e; run = run }) before
  into-refused e is = as_it_was (run_refusal t plans ends (run_of run.run)) e is

  pub into-given : 0 ≡ run_refusal t plans ends (run_of run.run) → (p : Plans) → Holds t plans ends p
      → (last : Numbered) (after : List ℕ) → of_plans AllMean p (numbered_of run) picks before last after
      → Means (run_refusal t plans ends (run_of run.run)) (record { answer = Ok tt; run = last }) after
  into-given z p s last after m =
      let refuses = run_refusal t plans ends (run_of run.run) in
      let its : AllMean t plans ends (numbered_of run) picks before last after = rw (← s.0, ← s.1, ← s.2) m in
      let played = play_from t plans ends (numbered_of run) picks in
      record {
        refusal = z;
        run = its.played ∙ leaves_none refuses (numbered_of run) played (sym z);
        answers =
            its.answers
            ∙ leaves_none refuses before (answered t plans ends (numbered_of run) picks before) (sym z);
      }

  pub play-short : length before < length picks
      → Means (play_refusal t plans ends (numbered_of run) picks before)
      (record { answer = Err refusal.Short; run = run }) before
  play-short h =
      as_it_was (play_refusal t plans ends (numbered_of run) picks before) refusal.Short
      (rw (lt-ltb (length before) (length picks) h))

  pub play-fits : length picks ≤ length before → (p : Played) (after : List ℕ)
      → Means (run_refusal t plans ends (run_of run.run)) p after
      → Means (play_refusal t plans ends (numbered_of run) picks before) p after
  play-fits h p after m = rw (le-ltb (length before) (length picks) h) m
