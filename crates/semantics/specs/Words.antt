-- How masks, and so states, stand in slices of words of 64 bits: each in two, the low word first (document 02, F-5).
use mathlib.Core.List.{List, [], ◌∷◌, ◌++◌, map, flatten}
use Rattle.std.specs.Prelude.{ℕ, ◌+◌, ◌*◌, ◌/◌, ◌%◌, ◌^◌, get_or}
use Rattle.semantics.specs.Base.{up_to, padded}

-- the mask that two words hold: its bit f is bit f mod 64 of word f / 64
abbrev pub of_words : ℕ → ℕ → ℕ
of_words low high = high * 2 ^ 64 + low

-- the words of a state
abbrev pub words_of : ℕ → List ℕ
words_of s = s % 2 ^ 64 ∷ s / 2 ^ 64 ∷ []

-- the words of a task's row: a number, then four masks
abbrev pub row_words : ℕ → ℕ → ℕ → ℕ → ℕ → List ℕ
row_words number a b c d = number ∷ (words_of a ++ (words_of b ++ (words_of c ++ words_of d)))

-- how many words a state has
abbrev pub state_width : ℕ
state_width = 2

-- how many states have room in so many words
abbrev pub states_in : ℕ → ℕ
states_in words = words / state_width

-- how many words so many states take
abbrev pub words_for : ℕ → ℕ
words_for states = states * state_width

-- state k of those that stand in the words, one after the other
abbrev pub state_at : List ℕ → ℕ → ℕ
state_at words k = of_words (get_or words (words_for k) 0) (get_or words (words_for k + 1) 0)

-- the first n of them
abbrev pub first_states : List ℕ → ℕ → List ℕ
first_states words n = map (state_at words) (up_to n)

-- the words of these states, one after the other
abbrev pub in_words : List ℕ → List ℕ
in_words states = flatten (map words_of states)

-- a slice of n words that holds these states from its start on, zeros after them
abbrev pub holding : ℕ → List ℕ → List ℕ
holding n states = padded n (in_words states)
