-- A run as twelve words: whether it is closed, eight places, the two words of the shared copy, the change number.
use Rattle.std.specs.Prelude.{Bool, ◌||◌, List, [], ◌∷◌, ◌++◌, map, ℕ, zero, suc, length, get_or, ltb}
use Rattle.std.proofs.Math.Seq.{slice}
use Rattle.semantics.specs.Base.{up_to, Answer, refused, gives, front}
use Rattle.semantics.specs.Words.{of_words, words_of}
use Rattle.semantics.specs.Run.{Fault, Closed, not_yet, by, Run, Replied}
use Rattle.semantics.specs.Dispatch.{Numbered, last_change}

abbrev pub run_words : ℕ
run_words = 12

-- the words hold no run: they are too few, or the change number is of more than 32 bits
abbrev pub no_run : List ℕ → Bool
no_run words = ltb (length words) run_words || ltb last_change (get_or words 11 0)

-- the first word: 0 is not closed, any other is closed by a collision; written as 1
abbrev pub closed_in : ℕ → Closed
closed_in zero = not_yet
closed_in (suc w) = by Fault.collision

abbrev pub closed_word : Closed → ℕ
closed_word not_yet = 0
closed_word (by f) = 1

-- the run without its change number
abbrev pub open_in : List ℕ → Run ℕ
open_in words =
    record {
      shared = of_words (get_or words 9 0) (get_or words 10 0);
      places = λ j. get_or (slice 1 9 words) j 0;
      closed = closed_in (get_or words 0 0);
    }

abbrev pub run_in : List ℕ → Numbered ℕ
run_in words = record { run = open_in words; change = get_or words 11 0 }

abbrev pub words_of_run : Numbered ℕ → List ℕ
words_of_run d =
    closed_word d.run.closed ∷ (map d.run.places (up_to 8) ++ (words_of d.run.shared ++ (d.change ∷ [])))

-- the words after a pick: the run after it at their front, or as they were where the pick is refused
abbrev pub after : List ℕ → Answer (Replied (Numbered ℕ)) → List ℕ
after words (refused k) = words
after words (gives p) = front (words_of_run p.run) words
