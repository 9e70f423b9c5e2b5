-- Words that are put into a table, some behind others.
use Rattle.std.specs.Prelude.{◌≡◌, List, [], ◌∷◌, ◌++◌, ℕ, ◌+◌, length, take}

abbrev pub row : ℕ → ℕ → ℕ → ℕ → ℕ → List ℕ
row a b c d e = a ∷ b ∷ c ∷ d ∷ e ∷ []

-- the words stand in the table from `at` on, and before that it is as it was
pub record Appended (before : List ℕ) (at : ℕ) (words after : List ℕ) : Type 0 where
  pub kept : length after ≡ length before
  pub front : take (at + length words) after ≡ take at before ++ words
