-- Masks that stand in a slice of words, one after the other, each in its words (`words_of`).
use Rattle.std.specs.Prelude.{List, ℕ, ◌+◌, ◌/◌, ◌%◌, ◌^◌, set}
use Rattle.semantics.specs.Words.{words_for, state_at, first_states}

-- mask k
abbrev pub mask_at : List ℕ → ℕ → ℕ
mask_at words k = state_at words k

-- the first n masks
abbrev pub first_masks : List ℕ → ℕ → List ℕ
first_masks words n = first_states words n

-- the words with x as mask k
abbrev pub with_mask : List ℕ → ℕ → ℕ → List ℕ
with_mask words k x = set (set words (words_for k) (x % 2 ^ 64)) (words_for k + 1) (x / 2 ^ 64)
