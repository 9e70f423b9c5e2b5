-- What the writers of lines ask.
use Rattle.std.specs.Prelude.{cond, List, [], ◌++◌, ℕ, ◌+◌, ◌*◌, ◌≤◌, ◌<◌, length, get_or, take}
use Rattle.semantics.specs.Base.{Answer, refused, gives}
use Rattle.semantics.specs.Mask.{has}
use Rattle.semantics.specs.Run.{beginning}
use Rattle.semantics.specs.Verdict.{Verdict, unsolvable, not_robust, robust, Failing, conflict_picks}
use Rattle.report.specs.File.{word, line, missing_lines, conflict_lines}

-- the bytes of the longest line: a word of ten letters, a comma, 20 digits, CR LF
abbrev pub most_line : ℕ
most_line = 33

-- the bytes of the longest file with so many lines after the first: 16 for the line of column names
abbrev pub most_file : ℕ → ℕ
most_file n = 16 + most_line * n

-- there is room for the bytes from the place `at` on
pub record Room (out : List ℕ) (at : ℕ) (bytes : List ℕ) : Type 0 where
  pub fits : at + length bytes ≤ length out

-- each member's plan lies in the plan slice
pub record Inside (n : ℕ) (plans ends : List ℕ) : Type 0 where
  pub enough : n ≤ length ends
  pub ordered : (j : ℕ) → j < n → beginning ends j ≤ get_or ends j 0
  pub within : (j : ℕ) → j < n → get_or ends j 0 ≤ length plans

-- the slices hold a conflict, if the answer comes with one
abbrev pub Holds : Answer (Verdict Failing) → ℕ → List ℕ → List ℕ → List ℕ → Type 0
Holds (refused k) n plans ends picks = Unit {0}
Holds (gives (unsolvable i)) n plans ends picks = Unit {0}
Holds (gives (robust c)) n plans ends picks = Unit {0}
Holds (gives (not_robust f)) n plans ends picks =
    Inside n plans ends × (conflict_picks f.fault f.picked ≤ length picks)

-- the most facts of a mask
abbrev pub most_facts : ℕ
most_facts = 128

-- the line of fact f, if it stands in the mask
abbrev pub missing_line : ℕ → ℕ → List ℕ
missing_line m f = cond (has f m) (line (word "missing") f) []

-- the lines of what is missing and of the conflict, if the answer comes with one
abbrev pub conflict_of : Answer (Verdict Failing) → ℕ → List ℕ → List ℕ → List ℕ → List ℕ
conflict_of (refused k) n plans ends picks = []
conflict_of (gives (unsolvable i)) n plans ends picks = []
conflict_of (gives (robust c)) n plans ends picks = []
conflict_of (gives (not_robust f)) n plans ends picks =
    missing_lines f.missing ++ conflict_lines n plans ends (take (conflict_picks f.fault f.picked) picks)
