-- The words that a table of parts gives, and what a look into it says.
use Rattle.std.specs.Prelude.{◌≡◌, true, false, List, map, ℕ, ◌^◌, ◌≤◌, ◌<◌, length, Option, Some, None}
use Rattle.std.specs.List.{All}
use Rattle.semantics.specs.Pddl.{is_in, bit_from}
use Rattle.pddl_theory.specs.Inner.Place.{span}
use Rattle.pddl_name.specs.declared.Span.{Span}

-- the words of a table
abbrev pub names_in : List ℕ → List Span → List (List ℕ)
names_in text spans = map (λ p. span text p.first p.end) spans

-- every part of a table lies in the text
pub record Spans (most : ℕ) (spans : List Span) : Type 0 where
  pub below : All (λ p. p.end ≤ most) spans

-- the word's bit, and whether it is there
pub record Here (names : List (List ℕ)) (w : List ℕ) (k : ℕ) : Type 0 where
  pub in_range : k < length names
  pub bit : bit_from 1 names w ≡ 2 ^ k
  pub there : is_in names w ≡ true

pub record NotHere (names : List (List ℕ)) (w : List ℕ) : Type 0 where
  pub no-bit : bit_from 1 names w ≡ 0
  pub not_there : is_in names w ≡ false

abbrev pub Looked : List (List ℕ) → List ℕ → Option ℕ → Type 0
Looked names w (Some k) = Here names w k
Looked names w None = NotHere names w
