-- Loops over a list of a text: from offset i on the same is left as from the first on, and the list is those before i
-- and those from i on.
use mathlib.Core.Path.{◌≡◌, refl, ◌∙◌}
use mathlib.Core.List.{List}
use Prim.Native.Nat.{ℕ, ◌≤◌, ◌<◌}
use native.Mathlib.Omega.{arith}
use Rattle.semantics.specs.Pddl.{Token, Parsed, outside, parsed, many}
use Rattle.pddl_theory.specs.Inner.Place.{rest, leaves}
use Rattle.pddl_theory.proofs.Shorter.{Reads}
use Rattle.pddl_theory.proofs.Chain.{leaves-on, leaves-out}

module _ {A : Type 0} (one : List Token → Parsed A) (reads : Reads one) (text : List ℕ) (at : ℕ) where
  pub record Walked (i : ℕ) : Type 0 where
    pub low : at ≤ i
    pub whole : leaves (many one (rest text at)) ≡ leaves (many one (rest text i))

  pub walked-begin : Walked at
  walked-begin = record { low = omega arith; whole = refl }

  module _ (i : ℕ) (g : Walked i) where
    pub walked_on : (a : A) (n : ℕ) → i < n → one (rest text i) ≡ parsed a (rest text n) → Walked n
    walked_on a n l e =
        record { low = omega (arith, g.low); whole = g.whole ∙ leaves-on one reads (rest text i) a (rest text n) e }

    pub walked_end : one (rest text i) ≡ outside → leaves (many one (rest text at)) ≡ parsed tt (rest text i)
    walked_end e = g.whole ∙ leaves-out one reads (rest text i) e
