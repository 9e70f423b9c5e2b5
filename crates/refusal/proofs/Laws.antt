-- Laws of refusals and of results that may be one.
use mathlib.Core.Path.{◌≡◌, refl, ap, ◌∙◌}
use Prim.Native.Nat.{ℕ, zero, suc, ◌<◌}
use native.Mathlib.Omega.{arith}
use Rattle.semantics.specs.Base.{◌else◌}
use Rattle.refusal.specs.Number.{number}
use Rattle.refusal.specs.declared.Refusal.{Refusal}
use Rattle.refusal.specs.declared.Refusal.TheVariants as refusal

-- the numbers begin with 1
pub number-positive : (e : Refusal) → 0 < number e
number-positive refusal.Length = omega arith
number-positive refusal.Range = omega arith
number-positive refusal.GoalRow = omega arith
number-positive refusal.Fact = omega arith
number-positive refusal.Owner = omega arith
number-positive refusal.Wait = omega arith
number-positive refusal.Action = omega arith
number-positive refusal.Member = omega arith
number-positive refusal.Full = omega arith
number-positive refusal.Others = omega arith
number-positive refusal.Ends = omega arith
number-positive refusal.NoSolution = omega arith
number-positive refusal.Pick = omega arith
number-positive refusal.Short = omega arith
number-positive refusal.Text = omega arith
number-positive refusal.Pddl = omega arith
number-positive refusal.Name = omega arith
number-positive refusal.Many = omega arith
number-positive refusal.Stale = omega arith
number-positive refusal.Changes = omega arith

-- the first of two refusals decides where it is one, else the second
else-first : (n s : ℕ) → 0 < n → n ≡ (n else s)
else-first zero s h = absurd (omega arith)
else-first (suc n) s h = refl

pub first-refuses : (e : Refusal) (g s : ℕ) → number e ≡ g → number e ≡ (g else s)
first-refuses e g s k = else-first (number e) s (number-positive e) ∙ ap (λ (n : ℕ). n else s) k

pub second-decides : (g s n : ℕ) → 0 ≡ g → n ≡ s → n ≡ (g else s)
second-decides g s n k q = q ∙ ap (λ (m : ℕ). m else s) k
