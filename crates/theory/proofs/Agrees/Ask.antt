-- An ask agrees with the model: its answer is what the scheduler's choice of the agent would meet.
use mathlib.Core.Path.{◌≡◌, sym, ap, subst, ◌∙◌}
use mathlib.Core.Logic.{inl, inr, ⊎_elim}
use mathlib.Core.List.{List}
use Prim.Native.Nat.{ℕ, ◌<◌}
use native.Mathlib.Omega.{arith}
use Rattle.semantics.specs.Base.{Answer, gives}
use Rattle.semantics.specs.Task.{members}
use Rattle.semantics.specs.System.{result_of, missing, system, waits}
use Rattle.semantics.specs.Step.{Decision}
use Rattle.semantics.specs.Run.{not_yet, stepped, plans_of, run_refusal}
use Rattle.semantics.specs.Dispatch.{Numbered, Asked, ticketed, next_step, ask_on}
use Rattle.semantics.specs.Model.{World, Acts, Collides, Lacks, Waiting}
use Rattle.semantics.specs.Demands.{facts_of, setting, world_in, RunFits, ticket_of, AskAgrees}
use Rattle.theory.proofs.Lists.{apart}
use Rattle.theory.proofs.Refusals.{refused-gives, gives_inj, unless-gives}
use Rattle.theory.proofs.Picks.{closed_open, Decided, decided, Next, next}
use Rattle.theory.proofs.Agrees.Pick.{its-acts, its-collides, its-lacks, its-waits, fits-passes, passes-fits}
use Rattle.theory.proofs.Agrees.Step.{same-facts}
use Rattle.theory.proofs.Agrees.Worlds.{moves_agent, moves-stays, waiting-left, acts-collides, acts_unique, lacks_unique}

module _ (t plans ends : List ℕ) (d : Numbered ℕ) (i : ℕ) where
  abbrev P : List (List ℕ)
  P = plans_of (members t) plans ends

  abbrev W : World (setting t)
  W = world_in t plans ends d.run

  abbrev its : Answer (Decision ℕ)
  its = next_step (system t) (waits t) P d.run i

  -- on a run that fits, the ask's answer is that of the next step, with the ticket
  pub fits_ask : RunFits t plans ends d.run
      → ask_on t plans ends d i ≡ ticketed (ticket_of d i) its
  unfolding ask_on
  fits_ask f = rw (fits-passes t plans ends d.run f)

  pub ask_fits : (a : Asked ℕ) → ask_on t plans ends d i ≡ gives a → RunFits t plans ends d.run
  unfolding ask_on
  ask_fits a e =
      passes-fits t plans ends d.run
      (unless-gives (run_refusal t plans ends d.run) (ticketed (ticket_of d i) its) e).0

  -- the ask gives this decision with its ticket
  abbrev Tells : Decision ℕ → Type 0
  Tells s = ask_on t plans ends d i ≡ gives (record { decision = s; ticket = ticket_of d i })

  tells-one : {s s' : Decision ℕ} → Tells s → Tells s' → s ≡ s'
  tells-one e q = ap (λ (x : Asked ℕ). x.decision) (gives_inj (sym e ∙ q))

  -- what an ask that answers go, wait or collision says, and one of a member that has ended, each both ways
  goes-told : (g : ℕ) → Tells (Decision.go g) → i < members t → d.run.closed ≡ not_yet
      → Acts (setting t) W i (world_in t plans ends (stepped d.run i g)) → AskAgrees t plans ends d i
  goes-told g e h c act =
      let moves = moves-stays (setting t) W i (inr (world_in t plans ends (stepped d.run i g), act)) in
      record {
        goes = λ g'. (
          λ q. let s : Decision.go g ≡ Decision.go g' = tells-one e q in
              let s : g ≡ g' = cc in
              (c, subst (λ (x : ℕ). Acts (setting t) W i (world_in t plans ends (stepped d.run i x))) s act),
          λ k.
              let s = same-facts g g'
              (ap (λ (w : World (setting t)). w.state) (acts_unique (setting t) W i act k.1)) in
              e ∙ ap (λ (x : ℕ). gives (record { decision = Decision.go x; ticket = ticket_of d i })) s,
        );
        waits = (λ q. let s = tells-one e q in absurd (apart (cc)), λ k. absurd (moves (inl k.2)));
        collides = λ m. (
          λ q. let s = tells-one e q in absurd (apart (cc)),
          λ k. absurd (acts-collides (setting t) W i act k.1),
        );
        nobody = (λ q. absurd (refused-gives (sym q ∙ e)), λ k. absurd (k h));
        impossible = (
          λ q. absurd (refused-gives (sym q ∙ e)),
          λ k. absurd (⊎_elim (λ b. closed_open b c) (λ b. moves (inr b)) k.1),
        );
      }

  waits-told : Tells Decision.wait → i < members t → d.run.closed ≡ not_yet → Waiting (setting t) W i
      → AskAgrees t plans ends d i
  waits-told e h c w =
      record {
        goes = λ g. (
          λ q. let s = tells-one e q in absurd (apart (cc)),
          λ k. absurd
              (moves-stays (setting t) W i (inr (world_in t plans ends (stepped d.run i g), k.1)) (inl w)),
        );
        waits = (λ q. (c, h, w), λ k. e);
        collides = λ m. (
          λ q. let s = tells-one e q in absurd (apart (cc)),
          λ k. absurd (moves-stays (setting t) W i (inl k.1) (inl w)),
        );
        nobody = (λ q. absurd (refused-gives (sym q ∙ e)), λ k. absurd (k h));
        impossible = (
          λ q. absurd (refused-gives (sym q ∙ e)),
          λ k. absurd (⊎_elim (λ b. closed_open b c) (waiting-left (setting t) W i w) k.1),
        );
      }

  collides-told : (m : ℕ) → Tells (Decision.collision m) → i < members t → d.run.closed ≡ not_yet
      → Collides (setting t) W i → Lacks (setting t) W i (facts_of m) → AskAgrees t plans ends d i
  collides-told m e h c crash lack =
      let moves = moves-stays (setting t) W i (inl crash) in
      record {
        goes = λ g. (
          λ q. let s = tells-one e q in absurd (apart (cc)),
          λ k. absurd (acts-collides (setting t) W i k.1 crash),
        );
        waits = (λ q. let s = tells-one e q in absurd (apart (cc)), λ k. absurd (moves (inl k.2)));
        collides = λ m'. (
          λ q. let s = tells-one e q in
              let s : m ≡ m' = cc in
              (c, crash, subst (λ (x : ℕ). Lacks (setting t) W i (facts_of x)) s lack),
          λ k. e ∙ ap (λ (x : ℕ). gives (record { decision = Decision.collision x; ticket = ticket_of d i }))
              (same-facts m m' (lacks_unique (setting t) W i lack k.2)),
        );
        nobody = (λ q. absurd (refused-gives (sym q ∙ e)), λ k. absurd (k h));
        impossible = (
          λ q. absurd (refused-gives (sym q ∙ e)),
          λ k. absurd (⊎_elim (λ b. closed_open b c) (λ b. moves (inr b)) k.1),
        );
      }

  told : {x : Answer (Decision ℕ)} → ask_on t plans ends d i ≡ ticketed (ticket_of d i) x
      → Next (system t) (waits t) P d.run i x → AskAgrees t plans ends d i
  told e (Next.nobody h) =
      let n : ¬ (i < members t) = λ l. omega arith in
      record {
        goes = λ g. (
          λ q. absurd (refused-gives (sym e ∙ q)),
          λ k. absurd (n (moves_agent (setting t) W i (inr (world_in t plans ends (stepped d.run i g), k.1)))),
        );
        waits = (λ q. absurd (refused-gives (sym e ∙ q)), λ k. absurd (n k.1));
        collides = λ m.
            (λ q. absurd (refused-gives (sym e ∙ q)), λ k. absurd (n (moves_agent (setting t) W i (inl k.1))));
        nobody = (λ q. n, λ k. e);
        impossible = (λ q. absurd (apart (cc)), λ k. absurd (n k.0));
      }
  told e (Next.closed h c) =
      record {
        goes = λ g. (λ q. absurd (refused-gives (sym e ∙ q)), λ k. absurd (closed_open c k.0));
        waits = (λ q. absurd (refused-gives (sym e ∙ q)), λ k. absurd (closed_open c k.0));
        collides = λ m. (λ q. absurd (refused-gives (sym e ∙ q)), λ k. absurd (closed_open c k.0));
        nobody = (λ q. absurd (apart (cc)), λ k. absurd (k h));
        impossible = (λ q. (h, inl c), λ k. e);
      }
  told e (Next.over h c left) =
      record {
        goes = λ g. (
          λ q. absurd (refused-gives (sym e ∙ q)),
          λ k. absurd
              (moves-stays (setting t) W i (inr (world_in t plans ends (stepped d.run i g), k.1)) (inr left)),
        );
        waits = (λ q. absurd (refused-gives (sym e ∙ q)), λ k. absurd (waiting-left (setting t) W i k.2 left));
        collides = λ m. (
          λ q. absurd (refused-gives (sym e ∙ q)),
          λ k. absurd (moves-stays (setting t) W i (inl k.1) (inr left)),
        );
        nobody = (λ q. absurd (apart (cc)), λ k. absurd (k h));
        impossible = (λ q. (h, inr left), λ k. e);
      }
  told e (Next.decides {a = a} h c left) = at e (decided (system t) (waits t) a d.run.shared)
    where
      at : {s : Decision ℕ} → Tells s → Decided (system t) (waits t) a d.run.shared s → AskAgrees t plans ends d i
      at e (Decided.waits w) = waits-told e h c (its-waits t P d.run c i h left w)
      at e (Decided.goes w b) =
          goes-told (result_of (system t) a d.run.shared) e h c (its-acts t P d.run c i h left w b)
      at e (Decided.collides w b) =
          collides-told (missing (system t) a d.run.shared) e h c (its-collides t P d.run c i h left w b)
          (its-lacks t P d.run c i h left b)

pub ask_agrees_lem : (t plans ends : List ℕ) (d : Numbered ℕ) (i : ℕ) → RunFits t plans ends d.run
    → AskAgrees t plans ends d i
ask_agrees_lem t plans ends d i f =
    told t plans ends d i (fits_ask t plans ends d i f)
    (next (system t) (waits t) (plans_of (members t) plans ends) d.run i)
