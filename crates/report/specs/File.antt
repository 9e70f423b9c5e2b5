-- Document 01, "Text and verdict program": the verdict file, line by line.
use mathlib.Core.List.{List, [], ◌∷◌, ◌++◌, map, flatten}
use Rattle.std.specs.Prelude.{ℕ, take}
use Prim.Native.Char.{code}
use Prim.Native.String.{String, len, char_at}
use Rattle.semantics.specs.Base.{up_to, Answer, refused, gives}
use Rattle.semantics.specs.Mask.{standing}
use Rattle.semantics.specs.Text.{comma, cr, lf, digits}
use Rattle.semantics.specs.Run.{Fault, plan_of}
use Rattle.semantics.specs.Verdict.{Verdict, unsolvable, not_robust, robust, Failing, conflict_picks}

-- the bytes of a word of ASCII letters
unfoldable pub word : String → List ℕ
word s = map (λ i. code (char_at s i)) (up_to (len s))

abbrev pub line_end : List ℕ
line_end = cr ∷ lf ∷ []

-- a word, a number in base ten, CR LF
abbrev pub line : List ℕ → ℕ → List ℕ
line w v = w ++ (comma ∷ (digits v ++ line_end))

-- the same word with each of the numbers
unfoldable pub lines : List ℕ → List ℕ → List ℕ
lines w vs = flatten (map (line w) vs)

-- the line of column names
abbrev pub header : List ℕ
header = word "verdict" ++ (comma ∷ (word "number" ++ line_end))

-- a member's plan
abbrev pub plan_lines : List ℕ → List ℕ → ℕ → List ℕ
plan_lines plans ends i = line (word "plan") i ++ lines (word "action") (plan_of plans ends i)

-- the plans of n members
unfoldable pub plans_lines : ℕ → List ℕ → List ℕ → List ℕ
plans_lines n plans ends = flatten (map (plan_lines plans ends) (up_to n))

-- the plans of n members, then the picks
abbrev pub conflict_lines : ℕ → List ℕ → List ℕ → List ℕ → List ℕ
conflict_lines n plans ends picks = plans_lines n plans ends ++ lines (word "pick") picks

-- the fault's line: the member for missed, else the picks done before the fault
abbrev pub fault_line : Fault → ℕ → List ℕ
fault_line Fault.collision k = line (word "collision") k
fault_line Fault.deadlock k = line (word "deadlock") k
fault_line (Fault.missed i) k = line (word "missed") i

-- a line for each fact of the mask, rising (F-6); a task has at most 128
unfoldable pub missing_lines : ℕ → List ℕ
missing_lines m = lines (word "missing") (standing 128 m)

-- the verdict's answer on a task of n members, and the slices that hold its conflict
abbrev pub body : Answer (Verdict Failing) → ℕ → List ℕ → List ℕ → List ℕ → List ℕ
body (refused k) n plans ends picks = line (word "refused") k
body (gives (unsolvable i)) n plans ends picks = line (word "unsolvable") i
body (gives (robust c)) n plans ends picks = line (word "robust") c
body (gives (not_robust f)) n plans ends picks =
    fault_line f.fault f.picked
    ++ (missing_lines f.missing
    ++ conflict_lines n plans ends (take (conflict_picks f.fault f.picked) picks))

abbrev pub file : Answer (Verdict Failing) → ℕ → List ℕ → List ℕ → List ℕ → List ℕ
file answer n plans ends picks = header ++ body answer n plans ends picks
