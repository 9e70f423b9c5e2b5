-- The first refusal of a list of tests, test by test: what a loop over them gives at each turn and at each way out.
use mathlib.Core.Path.{◌≡◌, sym}
use mathlib.Core.List.{List}
use Prim.Native.Nat.{ℕ, ◌+◌, ◌≤◌, ◌<◌}
use native.Mathlib.Omega.{arith}
use lib.ListN.{length, get_or, drop}
use Rattle.semantics.specs.Base.{up_to, first_refusal}
use Rattle.refusal.specs.Number.{number}
use Rattle.refusal.specs.declared.Refusal.{Refusal}
use Rattle.refusal.proofs.Laws.{first-refuses}
use Rattle.theory.proofs.Lists.{mem-get_d}
use Rattle.theory.proofs.Loops.{Rest, number-decides, number-onward, number-ends}
use Rattle.theory.proofs.Refusals.{mem-refusal}

-- where there is no refusal, no test refuses
pub accepted-at : (f : ℕ → ℕ) (xs : List ℕ) → first_refusal f xs ≡ 0 → (k : ℕ) → k < length xs → f (get_or xs k 0) ≡ 0
accepted-at f xs h k l = mem-refusal f xs h (mem-get_d xs k 0 l)

-- ---- the first refusal of all the numbers below n is that of those from i on, where N is n

module _ (f : ℕ → ℕ) (n N i : ℕ) (same : N ≡ n) (r : Rest (first_refusal f) (up_to n) i) where
  module _ (h : i < N) where
    pub onward_up_to : 0 ≡ f i → Rest (first_refusal f) (up_to n) (i + 1)
    unfolding first_refusal
    onward_up_to z = number-onward (first_refusal f) n i r (omega arith) (rw (← z))

    pub out_up_to : (e : Refusal) → number e ≡ f i → number e ≡ first_refusal f (up_to n)
    unfolding first_refusal
    out_up_to e q =
        sym (number-decides (first_refusal f) n i r (omega arith) (number e)
        (sym (first-refuses e (f i) (first_refusal f (drop (i + 1) (up_to n))) q)))

  pub end_up_to : N ≤ i → 0 ≡ first_refusal f (up_to n)
  unfolding first_refusal
  end_up_to h = sym (number-ends (first_refusal f) n i r (omega arith))
