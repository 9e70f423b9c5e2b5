-- The numbers that each answer writes to `out`; a number that an answer does not have is 0.
use Rattle.std.specs.Prelude.{List, [], ◌∷◌, ◌++◌, ℕ}
use Rattle.semantics.specs.Base.{◌if◌}
use Rattle.semantics.specs.Words.{words_of}
use Rattle.semantics.specs.Step.{Decision}
use Rattle.semantics.specs.Solo.{Solo, solves, breaks, short, Searched}
use Rattle.semantics.specs.PddlWrite.{Lengths}
use Rattle.semantics.specs.Run.{Fault, Reply, Replied, Outcome, success, failure, still_open, Replay}
use Rattle.semantics.specs.Dispatch.{Numbered, Asked}
use Rattle.semantics.specs.Verdict.{Verdict, unsolvable, not_robust, robust, Failing}

-- 0 go, 1 wait, 2 collision; the words of the new shared copy; those of what is missing
abbrev pub decision : Decision ℕ → List ℕ
decision (Decision.go g) = 0 ∷ (words_of g ++ (0 ∷ 0 ∷ []))
decision Decision.wait = 1 ∷ 0 ∷ 0 ∷ 0 ∷ 0 ∷ []
decision (Decision.collision m) = 2 ∷ 0 ∷ 0 ∷ words_of m

-- 0 solves, 1 breaks, 2 short; the index
abbrev pub solo : Solo → List ℕ
solo solves = 0 ∷ 0 ∷ []
solo (breaks k) = 1 ∷ k ∷ []
solo short = 2 ∷ 0 ∷ []

-- the count; 1 where I is live
abbrev pub searched : Searched → List ℕ
searched s = s.count ∷ (1 if s.live) ∷ s.marked ∷ []

-- 0 success, 1 collision, 2 deadlock, 3 missed, 4 open; member; picks done; the words of the shared copy; those of what
-- is missing
abbrev pub replayed : Outcome → ℕ → ℕ → ℕ → List ℕ
replayed success k g m = 0 ∷ 0 ∷ k ∷ (words_of g ++ words_of m)
replayed (failure Fault.collision) k g m = 1 ∷ 0 ∷ k ∷ (words_of g ++ words_of m)
replayed (failure Fault.deadlock) k g m = 2 ∷ 0 ∷ k ∷ (words_of g ++ words_of m)
replayed (failure (Fault.missed j)) k g m = 3 ∷ j ∷ k ∷ (words_of g ++ words_of m)
replayed still_open k g m = 4 ∷ 0 ∷ k ∷ (words_of g ++ words_of m)

abbrev pub replay : Replay ℕ → List ℕ
replay r = replayed r.outcome r.picked r.shared r.missing

-- 0 go, 1 collision; the words of what is missing
abbrev pub reply : Reply → List ℕ
reply Reply.goes = 0 ∷ 0 ∷ 0 ∷ []
reply (Reply.collides m) = 1 ∷ words_of m

abbrev pub picked : Replied (Numbered ℕ) → List ℕ
picked p = reply p.reply

-- as a step's decision; the ticket's member; the ticket's change number
abbrev pub asked : Asked ℕ → List ℕ
asked a = decision a.decision ++ (a.ticket.member ∷ a.ticket.change ∷ [])

-- 0 robust, 1 unsolvable, 2 collision, 3 deadlock, 4 missed; member; number; the words of what is missing
abbrev pub failing : Fault → ℕ → ℕ → List ℕ
failing Fault.collision k m = 2 ∷ 0 ∷ k ∷ words_of m
failing Fault.deadlock k m = 3 ∷ 0 ∷ k ∷ words_of m
failing (Fault.missed j) k m = 4 ∷ j ∷ k ∷ words_of m

abbrev pub verdict : Verdict Failing → List ℕ
verdict (robust c) = 0 ∷ 0 ∷ c ∷ 0 ∷ 0 ∷ []
verdict (unsolvable i) = 1 ∷ i ∷ 0 ∷ 0 ∷ 0 ∷ []
verdict (not_robust told) = failing told.fault told.picked told.missing

-- records
abbrev pub records : ℕ → List ℕ
records n = n ∷ []

-- the lengths of the two texts of a law in PDDL
abbrev pub lengths : Lengths → List ℕ
lengths l = l.of_text ∷ l.of_waits ∷ []
