-- The ways out of the routine and of the operation.
use mathlib.Core.Path.{◌≡◌, sym, ap, ◌∙◌}
use mathlib.Core.Bool.{Bool, true, false, not}
use mathlib.Core.List.{List}
use Prim.Native.Nat.{ℕ, zero, suc, ◌≤◌, ◌<◌}
use native.Mathlib.Omega.{arith}
use borrow.Author.Tests.{lt-ltb, le-ltb, not-true, not-false}
use Rattle.semantics.specs.Base.{refused, gives}
use Rattle.semantics.specs.Mask.{within, without, after, below}
use Rattle.semantics.specs.Task as Task
use Rattle.semantics.specs.Task.{check, facts, actions}
use Rattle.semantics.specs.System.{goes, lacks, result_of, system, waits}
use Rattle.semantics.specs.Step.{Decision, go, wait, collision, routine, step}
use Rattle.mask.specs.Number.{number, local_number}
use Rattle.mask.specs.declared.Mask.{Mask}
use Rattle.mask.specs.declared.Local.{Local}
use Rattle.std.specs.Prelude.{Result, Ok, Err}
use Rattle.std.specs.Result.{result_unwrap_or}
use Rattle.refusal.specs.Number as refusal
use Rattle.refusal.specs.declared.Refusal.{Refusal}
use Rattle.refusal.proofs.Laws.{number-positive}
use Rattle.step.specs.Value.{attempt_of}

-- ---- actions on a mask

module _ (t : List ℕ) (a m x : ℕ) where
  pub waits-is : x ≡ Task.wait t a → (b : Bool) → b ≡ within x m → not b ≡ waits t a m
  waits-is e b k = rw (← e, ← k)

  module _ (e : x ≡ Task.pre t a) (b : Bool) (k : b ≡ within x m) where
    pub act-lacks : not b ≡ true → (n : ℕ) → n ≡ without x m → lacks n ≡ (system t).act a m
    act-lacks h n k₁ = rw (← e, ← k, not-true b h, ← k₁)

    pub act-goes : not b ≡ false → (y z n : ℕ) → y ≡ Task.add t a → z ≡ Task.del t a → n ≡ after m y z
        → goes n ≡ (system t).act a m
    act-goes h y z n e₁ e₂ k₁ = rw (← e, ← k, not-false b h, ← e₁, ← e₂, ← k₁)

-- ---- an attempt on a local copy

module _ (t : List ℕ) (a s : ℕ) where
  -- the copy after the action, or s itself
  pub result-is : (r : Result Local Mask) → attempt_of local_number r ≡ (system t).act a s → (x : Local)
      → local_number x ≡ s
      → (y : Local)
      → y ≡ result_unwrap_or r x
      → local_number y ≡ result_of (system t) a s
  result-is (Ok z) is x e y q = rw q (rw (← is))
  result-is (Err m) is x e y q = rw q (rw (← is) e)

-- ---- the routine

module _ (t : List ℕ) (a g : ℕ) (b : Bool) (k : b ≡ waits t a g) where
  pub waits_there : b ≡ true → wait ≡ routine (system t) (waits t) a g
  unfolding routine
  waits_there h = rw (← k, h)

  module _ (h : b ≡ false) (r : Result Mask Mask) (is : attempt_of number r ≡ (system t).act a g) where
    pub goes-there : (m : Mask) → r ≡ Ok m → go (number m) ≡ routine (system t) (waits t) a g
    unfolding routine
    goes-there m e = let q : goes (number m) ≡ (system t).act a g = sym (ap (attempt_of number) e) ∙ is in rw (← k, h, ← q)

    pub collides-there : (m : Mask) → r ≡ Err m → collision (number m) ≡ routine (system t) (waits t) a g
    unfolding routine
    collides-there m e =
        let q : lacks (number m) ≡ (system t).act a g = sym (ap (attempt_of number) e) ∙ is in
        rw (← k, h, ← q)

-- ---- the operation

module _ (t : List ℕ) (a g : ℕ) where
  refused-first : (r : ℕ) → 0 < r → r ≡ check t → refused r ≡ step t a g
  unfolding step
  refused-first zero h e = absurd (omega arith)
  refused-first (suc r) h e = rw (← e)

  pub step-task : (e : Refusal) → refusal.number e ≡ check t → refused (refusal.number e) ≡ step t a g
  step-task e q = refused-first (refusal.number e) (number-positive e) q

  -- u are the words of the accepted task
  module _ (u : List ℕ) (same : u ≡ t) (h : check u ≡ 0) (m : ℕ) (e₁ : m ≡ actions u) where
    pub step-action : m ≤ a → refused 7 ≡ step t a g
    unfolding step
    step-action h₁ = let l : actions u ≤ a = omega arith in rw (← same, h, le-ltb a (actions u) l)

    module _ (h₁ : a < m) (F : ℕ) (e₂ : F ≡ facts u) (b : Bool) (k : b ≡ below F g) where
      pub step-shared : not b ≡ true → refused 4 ≡ step t a g
      unfolding step
      step-shared h₂ = let l : a < actions u =
          omega arith in rw (← same, h, lt-ltb a (actions u) l, ← e₂, ← k, not-true b h₂)

      pub step-decides : not b ≡ false → (d : Decision ℕ) → d ≡ routine (system u) (waits u) a g → gives d ≡ step t a g
      unfolding step
      step-decides h₂ d k₁ = let l : a < actions u =
          omega arith in rw (← same, h, lt-ltb a (actions u) l, ← e₂, ← k, not-false b h₂, ← k₁)
