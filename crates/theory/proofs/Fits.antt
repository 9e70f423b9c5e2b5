-- Runs that fit their task and plans: a run from the start does, a pick keeps it so, and such a run is not refused for
-- what it holds. Assumes nothing.
use mathlib.Core.Path.{◌≡◌, sym, ap, subst}
use mathlib.Core.Bool.{cond}
use mathlib.Core.List.{List, ◌∷◌}
use Prim.Native.Nat.{ℕ, ◌+◌, ◌≤◌, ◌<◌, zero-le}
use native.Mathlib.Omega.{arith}
use native.Mathlib.Decide.{ℕ_discrete}
use lib.ListN.{length}
use lib.Dec.{eqb}
use borrow.Author.Tests.{eq-eqb, ne_eqb}
use Rattle.semantics.specs.Base.{Answer}
use Rattle.semantics.specs.Task.{members, facts, add, del}
use Rattle.semantics.specs.System.{system, waits}
use Rattle.semantics.specs.Run.{Run, Replied, rest, pass_over, start, pick, plan_of, plans_of, plans_refusal}
use Rattle.semantics.specs.Dispatch.{Numbered, counts, pick_numbered}
use Rattle.semantics.specs.Demands.{RunFits}
use Rattle.theory.proofs.Attempts.{result-after}
use Rattle.theory.proofs.Masks.{after-below}
use Rattle.theory.proofs.Accepted.{accepted}
use Rattle.theory.proofs.Plans.{checked-task, rest-length}
use Rattle.theory.proofs.Picks.{Picked, picked}
use Rattle.theory.proofs.Agrees.Pick.{fits-pick}

module _ (t plans ends : List ℕ) where
  abbrev P : List (List ℕ)
  P = plans_of (members t) plans ends

  abbrev pick_p : Run ℕ → ℕ → Answer (Replied (Run ℕ))
  pick_p r j = pick (system t) (waits t) P r j

  abbrev steps : ℕ → ℕ
  steps i = length (plan_of plans ends i)

  abbrev place : Run ℕ → ℕ → ℕ
  place r i = r.places i

  pub start_fits : plans_refusal t plans ends ≡ 0 → RunFits t plans ends (start (system t))
  unfolding start
  start_fits ok =
      let a = accepted t (checked-task t plans ends ok) in
      record {
        plans-fit = ok;
        shared-fits = a.initial-below;
        places-fit = λ i h. zero-le;
      }

  pub fits_keeps : (r : Run ℕ) → RunFits t plans ends r → (j : ℕ) → RunFits t plans ends (pass_over r (pick_p r j))
  fits_keeps r f j = at (picked (system t) (waits t) P r j)
    where
      moved : (a : ℕ) (p : List ℕ) → j < members t → rest P r j ≡ a ∷ p
          → (i : ℕ) → i < members t → cond (eqb i j) (place r i + 1) (place r i) ≤ steps i
      moved a p h e i l = which (ℕ_discrete i j)
        where
          room : place r j < steps j
          room = omega (arith, rest-length (members t) plans ends r j h, ap length e)

          which : Dec (i ≡ j) → cond (eqb i j) (place r i + 1) (place r i) ≤ steps i
          which (no ne) = rw (ne_eqb i j ne) (f.places-fit i l)
          which (yes q) = rw (eq-eqb i j q) (subst (λ (x : ℕ). place r x + 1 ≤ steps x) (sym q) (omega (arith, room)))

      at : {x : Answer (Replied (Run ℕ))} → Picked (system t) (waits t) P r j x → RunFits t plans ends (pass_over r x)
      at (Picked.nobody h) = f
      at (Picked.closed h c) = f
      at (Picked.over h c e) = f
      at (Picked.waits h c e w) = f
      at (Picked.goes {a = a} {p = p} h c e w b) =
          let s = (accepted t (checked-task t plans ends f.plans-fit)).action-fits a in
          record {
            plans-fit = f.plans-fit;
            shared-fits =
                rw (result-after t a r.shared b)
                (after-below (facts t) r.shared (add t a) (del t a) f.shared-fits s.add-below);
            places-fit = moved a p h e;
          }
      at (Picked.collides h c e w b) =
          record { plans-fit = f.plans-fit; shared-fits = f.shared-fits; places-fit = f.places-fit }

  pub fits-pick-numbered : (d : Numbered ℕ) → RunFits t plans ends d.run → (j : ℕ)
      → pick_numbered t plans ends d j ≡ counts d (pick_p d.run j)
  unfolding pick_numbered
  fits-pick-numbered d f j = ap (counts d) (fits-pick t plans ends d.run j f)
