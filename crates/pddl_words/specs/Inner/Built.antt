-- Rows that are put into a table.
use Rattle.std.specs.Prelude.{◌≡◌, List, [], ◌∷◌, ◌++◌, ℕ, ◌<◌, length}
use Rattle.semantics.specs.Words.{words_of, states_in, state_at}
use Rattle.semantics.specs.Pddl.{wait_mask}
use Rattle.pddl_theory.specs.Inner.Appended.{Appended}

-- the words of row 0
abbrev pub head_words : ℕ → ℕ → ℕ → ℕ → List ℕ
head_words facts members actions initial =
    facts ∷ members ∷ actions ∷ (words_of initial ++ (0 ∷ 0 ∷ 0 ∷ 0 ∷ []))

-- the table has each action's wait mask
pub record Waits (waits table : List ℕ) : Type 0 where
  pub each : (a : ℕ) → a < states_in (length table) → state_at table a ≡ wait_mask a waits

-- the rows that the wait masks of a table make, for whichever waits have these masks
pub record Rows (masks before : List ℕ) (at : ℕ) (rows : List ℕ → List ℕ) (after : List ℕ) : Type 0 where
  pub each : (waits : List ℕ) → Waits waits masks → Appended before at (rows waits) after
