-- Document 01, "The task" and "Step": masks and facts.
use Rattle.std.specs.Prelude.{Bool, List, ℕ, ◌-◌, ◌/◌, ◌%◌, ◌^◌, eqb, ltb}
use Rattle.std.specs.Int.Bits.{bit_and, bit_or}
use Rattle.semantics.specs.Base.{up_to, keep}

-- fact f stands in the mask x: bit f, of value 2^f, is set
unfoldable pub has : ℕ → ℕ → Bool
has f x = eqb (x / 2 ^ f % 2) 1

-- each fact of a stands in b
unfoldable pub within : ℕ → ℕ → Bool
within a b = eqb (bit_and a b) a

-- the facts of a that do not stand in b; at any width
abbrev pub without : ℕ → ℕ → ℕ
without a b = a - bit_and a b

-- the state s without del, then with add
unfoldable pub after : ℕ → ℕ → ℕ → ℕ
after s add del = bit_or (without s del) add

-- no bit of x at or above F
unfoldable pub below : ℕ → ℕ → Bool
below F x = ltb x (2 ^ F)

-- the facts below F that stand in x, rising
unfoldable pub standing : ℕ → ℕ → List ℕ
standing F x = keep (λ f. has f x) (up_to F)
