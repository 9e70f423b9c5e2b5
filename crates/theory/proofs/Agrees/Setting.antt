-- The finished runs are just the successes exactly when the task's setting is robust in the model: the worlds that
-- executions lead to are those that runs stand in. Assumes nothing.
use mathlib.Core.Path.{◌≡◌, refl, sym, ap, subst, fun_ext, ◌∙◌}
use mathlib.Core.Bool.{Bool, not, false≢true}
use mathlib.Core.Logic.{inl, inr, ◌↔◌}
use mathlib.Core.List.{List, [], ◌∷◌, ◌++◌}
use Prim.Native.Nat.{ℕ}
use lib.ListN.{get_or}
use Rattle.semantics.specs.Base.{Answer, refused, gives}
use Rattle.semantics.specs.System.{system, waits, Choice}
use Rattle.semantics.specs.Run.{Run, Fault, by as by-fault, Replied, Outcome, success, failure, still_open, is_success}
use Rattle.semantics.specs.Run.{is_open, pass_over, start, pick, outcome, play}
use Rattle.semantics.specs.Model.{World, Acts, Collides, Execution, unmoved, chosen, Faultless, Robust}
use Rattle.semantics.specs.Demands.{setting, world_of, world_at, OutcomeOf}
use Rattle.theory.proofs.Agrees.Joint.{start-going, start-world}
use Rattle.theory.proofs.Agrees.Outcome.{outcome-says}
use Rattle.theory.proofs.Agrees.Pick.{Going, Picked, picked}
use Rattle.theory.proofs.Agrees.Solo.{leads_solution, solution_leads}
use Rattle.theory.proofs.Agrees.Worlds.{moves_agent, moves-stays, acts-collides, acts_unique, waiting-left}
use Rattle.theory.proofs.Agrees.Worlds.{ended-goes, deadlock-goes}
use Rattle.theory.proofs.Complete.{closed-outcome}
use Rattle.theory.proofs.Robust.{RunsSucceed}

module _ (t : List ℕ) (plans : List (List ℕ)) where
  abbrev at : Run ℕ → World (setting t)
  at = world_at t plans

  abbrev played : Run ℕ → List ℕ → Run ℕ
  played = play (system t) (waits t) plans

  abbrev outcome_of : Run ℕ → Outcome
  outcome_of = outcome (system t) (waits t) plans

  -- ---- from executions to runs

  -- the pick of an agent that acts goes on to the same world
  act-picked : (r : Run ℕ) (i : ℕ) (w : World (setting t)) (x : Answer (Replied (Run ℕ))) → Picked t plans r i x
      → Acts (setting t) (at r) i w
      → Going (pass_over r x) × (w ≡ at (pass_over r x))
  act-picked r i w (gives p) (Picked.goes g act) a = (g, acts_unique (setting t) (at r) i a act)
  act-picked r i w (gives p) (Picked.collides c s k l) a = absurd (acts-collides (setting t) (at r) i a k)
  act-picked r i w (refused e) (Picked.impossible h) a =
      absurd (moves-stays (setting t) (at r) i (inr (w, a)) (h (moves_agent (setting t) (at r) i (inr (w, a)))))

  execution_plays : {w w' : World (setting t)} {is : List ℕ} → Execution (setting t) w is w' → (r : Run ℕ) → Going r
      → w ≡ at r
      → Going (played r is) × (w' ≡ at (played r is))
  unfolding play
  execution_plays unmoved r g e = (g, e)
  execution_plays (chosen {w' = w'} {i = i} a x) r g e =
      let n = act-picked r i w' (pick (system t) (waits t) plans r i) (picked t plans r g i)
      (subst (λ (v : World (setting t)). Acts (setting t) v i w') e a) in
      execution_plays x (pass_over r (pick (system t) (waits t) plans r i)) n.0 n.1

  play-snoc : (r : Run ℕ) (is : List ℕ) (i : ℕ)
      → played r (is ++ (i ∷ [])) ≡ pass_over (played r is) (pick (system t) (waits t) plans (played r is) i)
  unfolding play
  play-snoc r [] i = refl
  play-snoc r (j ∷ is) i = play-snoc (pass_over r (pick (system t) (waits t) plans r j)) is i

  -- the pick of an agent that collides closes the run
  crash-picked : (r : Run ℕ) (i : ℕ) (x : Answer (Replied (Run ℕ))) → Picked t plans r i x
      → Collides (setting t) (at r) i
      → (pass_over r x).closed ≡ by-fault Fault.collision
  crash-picked r i (gives p) (Picked.goes g act) k = absurd (acts-collides (setting t) (at r) i act k)
  crash-picked r i (gives p) (Picked.collides c s k' l) k = c
  crash-picked r i (refused e) (Picked.impossible h) k =
      absurd (moves-stays (setting t) (at r) i (inl k) (h (moves_agent (setting t) (at r) i (inl k))))

  module _ (succeeds : (is : List ℕ)
      → not (is_open (outcome_of (played (start (system t)) is)))
      ≡ is_success (outcome_of (played (start (system t)) is))) where
    never-fails : (is : List ℕ) (f : Fault) → outcome_of (played (start (system t)) is) ≡ failure f → ⊥
    never-fails is f e = false≢true (sym (ap (λ (o : Outcome). not (is_open o)) (sym e) ∙ succeeds is ∙ ap is_success e))

    execution_faultless : (is : List ℕ) (w : World (setting t)) → Execution (setting t) (world_of t plans) is w
        → Faultless (setting t) w
    execution_faultless is w x =
        let n = execution_plays x (start (system t)) (start-going t) (start-world t plans) in
        subst (Faultless (setting t)) (sym n.1) (faultless n.0)
      where
        r : Run ℕ
        r = played (start (system t)) is

        no-collision : Going r → (i : ℕ) → ¬ Collides (setting t) (at r) i
        no-collision g i k =
            let closed = crash-picked r i (pick (system t) (waits t) plans r i) (picked t plans r g i) k in
            never-fails (is ++ (i ∷ [])) Fault.collision
            (ap outcome_of (play-snoc (start (system t)) is i)
            ∙ closed-outcome (system t) (waits t) plans
            (pass_over r (pick (system t) (waits t) plans r i)) Fault.collision closed)

        faultless : Going r → Faultless (setting t) (at r)
        faultless g = by (outcome_of r) refl (outcome-says t plans r g)
          where
            by : (o : Outcome) → outcome_of r ≡ o → OutcomeOf t (at r) o → Faultless (setting t) (at r)
            by success e (ended, goals) =
                record {
                  no-collision = no-collision g;
                  no-deadlock = λ d. let (stay, i, l, w) = d in waiting-left (setting t) (at r) i w (ended i l);
                  no_miss = λ _. goals;
                }
            by still_open e on =
                record {
                  no-collision = no-collision g;
                  no-deadlock = λ d. deadlock-goes (setting t) (at r) d on;
                  no_miss = λ ended. absurd (ended-goes (setting t) (at r) ended on);
                }
            by (failure f) e o = absurd (never-fails is f e)

  -- ---- from runs to executions

  -- a run that picks from the start lead to: an execution leads to its world, or to one in which the last pick collided
  data Led (r : Run ℕ) : Type 0 where
    going : {is : List ℕ} → Going r → Execution (setting t) (world_of t plans) is (at r) → Led r
    crashed : {is : List ℕ} {i : ℕ} {w : World (setting t)} → Execution (setting t) (world_of t plans) is w
        → Collides (setting t) w i → Led r

  execution_snoc : {w w' w'' : World (setting t)} {is : List ℕ} {i : ℕ} → Execution (setting t) w is w'
      → Acts (setting t) w' i w''
      → Execution (setting t) w (is ++ (i ∷ [])) w''
  execution_snoc unmoved a = chosen a unmoved
  execution_snoc (chosen b x) a = chosen b (execution_snoc x a)

  pick-led : (r : Run ℕ) {is : List ℕ} → Going r → Execution (setting t) (world_of t plans) is (at r)
      → (i : ℕ) (x : Answer (Replied (Run ℕ))) → Picked t plans r i x
      → Led (pass_over r x)
  pick-led r g x i (gives p) (Picked.goes g' act) = going g' (execution_snoc x act)
  pick-led r g x i (gives p) (Picked.collides c s k l) = crashed x k
  pick-led r g x i (refused e) (Picked.impossible h) = going g x

  plays-led : (r : Run ℕ) → Led r → (js : List ℕ) → Led (played r js)
  unfolding play
  plays-led r l [] = l
  plays-led r (going g x) (j ∷ js) =
      plays-led (pass_over r (pick (system t) (waits t) plans r j))
      (pick-led r g x j (pick (system t) (waits t) plans r j) (picked t plans r g j)) js
  plays-led r (crashed x k) (j ∷ js) = plays-led (pass_over r (pick (system t) (waits t) plans r j)) (crashed x k) js

  faultless-runs : ((is : List ℕ) (w : World (setting t)) → Execution (setting t) (world_of t plans) is w
      → Faultless (setting t) w)
      → (js : List ℕ)
      → not (is_open (outcome_of (played (start (system t)) js)))
      ≡ is_success (outcome_of (played (start (system t)) js))
  faultless-runs none-fails js =
      ends (played (start (system t)) js)
      (plays-led (start (system t))
      (going (start-going t) (subst (Execution (setting t) (world_of t plans) []) (start-world t plans) unmoved)) js)
    where
      by : (r : Run ℕ) (o : Outcome) → OutcomeOf t (at r) o → Faultless (setting t) (at r)
          → not (is_open o) ≡ is_success o
      by r success s f = refl
      by r still_open s f = refl
      by r (failure Fault.deadlock) d f = absurd (f.no-deadlock d)
      by r (failure (Fault.missed i)) (ended, l, n, lower) f = absurd (n (f.no_miss ended i l))
      by r (failure Fault.collision) x f = absurd x

      ends : (r : Run ℕ) → Led r → not (is_open (outcome_of r)) ≡ is_success (outcome_of r)
      ends r (going {is = is} g x) = by r (outcome_of r) (outcome-says t plans r g) (none-fails is (at r) x)
      ends r (crashed {is = is} {i = i} {w = w} x k) = absurd ((none-fails is w x).no-collision i k)

pub runs-setting : (t : List ℕ) → RunsSucceed (system t) (waits t) ↔ Robust (setting t)
runs-setting t = (
  λ succeed plans s is w x.
      let c : Choice (system t) =
      record {
        plans = plans;
        many = s.many;
        solving =
            λ j l. solution_leads t j (get_or plans j []) (s.each j l);
      } in
      execution_faultless t plans
      (λ js. ap (λ (runs : Choice (system t) → List ℕ → Bool). runs c js) succeed) is w x,
  λ robust.
      fun_ext (λ c. fun_ext (λ picks.
      faultless-runs t c.plans
      (robust c.plans
      (record {
        many = c.many;
        each =
            λ i l. leads_solution t i (get_or c.plans i []) (c.solving i l);
      })) picks)),
)
