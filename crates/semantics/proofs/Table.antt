-- Document 01, "Laws to try": L1 to L12 and what it says of them, as rows of one table.
use mathlib.Core.Path.{◌≡◌}
use mathlib.Core.Bool.{Bool, true, false}
use mathlib.Core.List.{List, [], ◌∷◌, ◌++◌}
use Prim.Native.Nat.{ℕ, ◌+◌, ◌*◌, ◌^◌}
use lib.ListN.{get_or, set, replicate}
use Rattle.semantics.specs.Base.{Answer, refused, gives}
use Rattle.semantics.specs.Words.{words_of, row_words}
use Rattle.semantics.specs.Task.{row_width, members, check}
use Rattle.semantics.specs.Step.{Decision, go, wait, step}
use Rattle.semantics.specs.Solo.{SoloSearch, refused_with, solo_search}
use Rattle.semantics.specs.Run.{Fault, collision, deadlock, missed, Outcome, success, failure, still_open, Replay}
use Rattle.semantics.specs.Run.{Closed, not_yet, by, Reply, goes, collides, Replied, joint_replay}
use Rattle.semantics.specs.Dispatch.{Numbered, last_change, Ticket, Asked, pick_numbered, ask_on, commit_on}
use Rattle.semantics.specs.Verdict.{Verdict, unsolvable, not_robust, robust, Conflict, Room, lent_of, local_rows}
use Rattle.semantics.specs.Verdict.{configuration_rows, verdict, listed_in}

-- a law with word k of row r changed
abbrev pub with : ℕ → ℕ → ℕ → List ℕ → List ℕ
with r k w t = set t (row_width * r + k) w

-- row 0
abbrev pub start : ℕ → ℕ → ℕ → ℕ → List ℕ
start F n m I = F ∷ n ∷ m ∷ (words_of I ++ (0 ∷ 0 ∷ 0 ∷ 0 ∷ []))

abbrev pub l1 : List ℕ
l1 =
    (5 ∷ 2 ∷ 4 ∷ 1 ∷ 0 ∷ 0 ∷ 0 ∷ 0 ∷ 0 ∷ [])
    ++ (0 ∷ 5 ∷ 0 ∷ 0 ∷ 0 ∷ 0 ∷ 0 ∷ 0 ∷ 0 ∷ [])
    ++ (1 ∷ 17 ∷ 0 ∷ 0 ∷ 0 ∷ 0 ∷ 0 ∷ 0 ∷ 0 ∷ [])
    ++ (0 ∷ 1 ∷ 0 ∷ 1 ∷ 0 ∷ 2 ∷ 0 ∷ 1 ∷ 0 ∷ [])
    ++ (0 ∷ 2 ∷ 0 ∷ 0 ∷ 0 ∷ 5 ∷ 0 ∷ 2 ∷ 0 ∷ [])
    ++ (1 ∷ 1 ∷ 0 ∷ 1 ∷ 0 ∷ 8 ∷ 0 ∷ 1 ∷ 0 ∷ [])
    ++ (1 ∷ 8 ∷ 0 ∷ 0 ∷ 0 ∷ 17 ∷ 0 ∷ 8 ∷ 0 ∷ [])

-- all wait words 0
abbrev pub l2 : List ℕ
l2 = with 3 3 0 (with 5 3 0 l1)

-- goals 4 and 16
abbrev pub l3 : List ℕ
l3 = with 1 1 4 (with 2 1 16 l1)

-- member 1's goal 2
abbrev pub l4 : List ℕ
l4 = with 2 1 2 l1

abbrev pub l5 : List ℕ
l5 = start 1 1 0 1 ++ row_words 0 1 0 0 0

-- I = 0
abbrev pub l6 : List ℕ
l6 = with 0 3 0 l5

abbrev pub l7 : List ℕ
l7 =
    start 2 2 2 0
    ++ row_words 0 1 0 0 0
    ++ row_words 1 2 0 0 0
    ++ row_words 0 0 0 1 0
    ++ row_words 1 0 0 2 1

abbrev pub l8 : List ℕ
l8 =
    start 2 2 2 1
    ++ row_words 0 1 0 0 0
    ++ row_words 1 1 0 0 0
    ++ row_words 0 0 0 2 1
    ++ row_words 1 1 0 1 0

-- goal 32
abbrev pub l11 : List ℕ
l11 = with 1 1 32 l1

-- the last action replaced
abbrev pub l12 : List ℕ
l12 = with 6 0 0 (with 6 1 1 (with 6 3 2 (with 6 5 0 (with 6 7 0 l1))))

-- ---- laws for the first conflict (document 02, F-2)

-- After action 2 actions 1 and 3 of member 0 collide, and action 0 waits, so that there is a deadlock too. Member 0 has
-- three ways on from action 1 to its goal: 4 and 5, 6, or 7.
abbrev pub collision_first : List ℕ
collision_first =
    start 6 2 8 3
    ++ row_words 0 20 0 0 0
    ++ row_words 1 8 0 0 0
    ++ row_words 0 1 1 4 0
    ++ row_words 0 2 0 4 0
    ++ row_words 1 0 0 8 3
    ++ row_words 0 2 0 4 0
    ++ row_words 0 4 0 32 0
    ++ row_words 0 32 0 16 0
    ++ row_words 0 4 0 16 0
    ++ row_words 0 4 0 16 0

-- After actions 0 and 2, in either order, member 0 has its goal and can wait in action 1, and member 1 lacks its goal
-- and can wait in actions 3 and 4.
abbrev pub ended_waits : List ℕ
ended_waits =
    start 6 2 5 3
    ++ row_words 0 4 0 0 0
    ++ row_words 1 8 0 0 0
    ++ row_words 0 0 0 4 2
    ++ row_words 0 5 1 16 0
    ++ row_words 1 1 0 32 1
    ++ row_words 1 34 2 8 0
    ++ row_words 1 34 2 8 0

-- the same with goals that both members have there
abbrev pub all_ended : List ℕ
all_ended = with 2 1 32 ended_waits

-- ---- what the paper says of them

-- L1's plans, and those of the laws that are L1 with words changed
abbrev pub plans_of_l1 : List ℕ
plans_of_l1 = 0 ∷ 1 ∷ 2 ∷ 3 ∷ []

abbrev pub ends_of_l1 : List ℕ
ends_of_l1 = 2 ∷ 4 ∷ []

-- of a pick or a commit: its reply, and the shared copy and the change number after it
pub record Told : Type 0 where
  pub reply : Reply
  pub shared : ℕ
  pub change : ℕ

abbrev pub told_of : Answer (Replied (Numbered ℕ)) → Answer Told
told_of (refused k) = refused k
told_of (gives p) = gives (record { reply = p.reply; shared = p.run.run.shared; change = p.run.change })

-- a row of the table: a law's verdict with so many local and configuration words, the other slices as long as asked; a
-- replay's answer; the configurations that are listed; the task check's refusal; a step's answer; solo search in a
-- table of so many words, with so many marks; an ask, a pick and a commit on a run with L1's plans
pub data Claim : Type 0 where
  verdict_of : List ℕ → ℕ → ℕ → Answer (Verdict Conflict) → Claim
  replay_of : List ℕ → List ℕ → List ℕ → List ℕ → Answer (Replay ℕ) → Claim
  listed_of : List ℕ → List (List ℕ) → Claim
  check_of : List ℕ → ℕ → Claim
  step_of : List ℕ → ℕ → ℕ → Answer (Decision ℕ) → Claim
  search_of : List ℕ → ℕ → ℕ → ℕ → SoloSearch → Claim
  ask_of : List ℕ → Numbered ℕ → ℕ → Answer (Asked ℕ) → Claim
  pick_of : List ℕ → Numbered ℕ → ℕ → Answer Told → Claim
  commit_of : List ℕ → Numbered ℕ → Ticket → Answer Told → Claim

-- the lengths asked for
abbrev pub room_for : List ℕ → ℕ → ℕ → Room
room_for t local_words words =
    let K = local_rows t local_words in
    let C = configuration_rows t words in
    lent_of local_words (members t * K) words (2 * C) (C + members t * K) (members t) C

-- room enough for each of these laws: 8 local copies a member, 16 configurations
abbrev pub plenty : ℕ
plenty = 96

abbrev pub Holds : Claim → Type 0
Holds (verdict_of t local_words words v) = verdict t (room_for t local_words words) ≡ v
Holds (replay_of t plans ends picks r) = joint_replay t plans ends picks ≡ r
Holds (listed_of t rows) = listed_in t (room_for t plenty plenty) ≡ rows
Holds (check_of t k) = check t ≡ k
Holds (step_of t a g d) = step t a g ≡ d
Holds (search_of t i n m s) = solo_search t i (replicate n 7) (replicate m 7) ≡ s
Holds (ask_of t d j a) = ask_on t plans_of_l1 ends_of_l1 d j ≡ a
Holds (pick_of t d j a) = told_of (pick_numbered t plans_of_l1 ends_of_l1 d j) ≡ a
Holds (commit_of t d k a) = told_of (commit_on t plans_of_l1 ends_of_l1 d k) ≡ a

abbrev pub AllHold : List Claim → Type 0
AllHold [] = Unit {0}
AllHold (c ∷ cs) = Holds c × AllHold cs

abbrev pub ends : Outcome → ℕ → ℕ → ℕ → Answer (Replay ℕ)
ends o g k m = gives (record { outcome = o; shared = g; picked = k; missing = m })

-- not robust, with this conflict
abbrev pub conflict : Fault → ℕ → ℕ → List (List ℕ) → List ℕ → Answer (Verdict Conflict)
conflict f k m plans picks =
    gives (not_robust (record { told = record { fault = f; picked = k; missing = m }; plans = plans; picks = picks }))

-- the rows that are found, so many of them live, I or not
abbrev pub finds : ℕ → Bool → ℕ → List ℕ → List ℕ → SoloSearch
finds count live marked table marks =
    record {
      answer = gives (record { count = count; live = live; marked = marked });
      table = table;
      marks = marks;
    }

abbrev pub table : List Claim
table =
    verdict_of l1 plenty plenty (gives (robust 12))
    ∷ verdict_of l2 plenty plenty (conflict collision 1 1 ((0 ∷ 1 ∷ []) ∷ (2 ∷ 3 ∷ []) ∷ []) (0 ∷ 1 ∷ []))
    ∷ replay_of l2 (0 ∷ 1 ∷ 2 ∷ 3 ∷ []) (2 ∷ 4 ∷ []) (0 ∷ 1 ∷ []) (ends (failure collision) 2 1 1)
    ∷ verdict_of l3 plenty plenty (conflict deadlock 3 0 ((0 ∷ 1 ∷ 0 ∷ []) ∷ (2 ∷ 3 ∷ []) ∷ []) (0 ∷ 0 ∷ 0 ∷ []))
    ∷ replay_of l3 (0 ∷ 1 ∷ 0 ∷ 2 ∷ 3 ∷ []) (3 ∷ 5 ∷ []) (0 ∷ 0 ∷ 0 ∷ []) (ends (failure deadlock) 6 3 0)
    ∷ verdict_of l4 plenty plenty (gives (unsolvable 1))
    ∷ verdict_of l5 plenty plenty (gives (robust 1))
    ∷ verdict_of l6 plenty plenty (gives (unsolvable 0))
    ∷ verdict_of l7 plenty plenty (conflict (missed 0) 2 0 ((0 ∷ []) ∷ (1 ∷ []) ∷ []) (0 ∷ 1 ∷ []))
    ∷ replay_of l7 (0 ∷ 1 ∷ []) (1 ∷ 2 ∷ []) (0 ∷ 1 ∷ []) (ends (failure (missed 0)) 2 2 0)
    ∷ replay_of l7 (0 ∷ 1 ∷ []) (1 ∷ 2 ∷ []) (1 ∷ 0 ∷ []) (ends success 3 2 0)
    ∷ listed_of l7 ((0 ∷ 0 ∷ 0 ∷ []) ∷ (1 ∷ 0 ∷ 1 ∷ []) ∷ (0 ∷ 2 ∷ 2 ∷ []) ∷ (1 ∷ 2 ∷ 2 ∷ []) ∷ (1 ∷ 2 ∷ 3 ∷ []) ∷ [])
    ∷ verdict_of l8 plenty plenty (gives (robust 1))
    ∷ verdict_of l1 plenty 71 (refused 9)
    ∷ verdict_of l1 plenty 72 (gives (robust 12))
    ∷ verdict_of l1 15 plenty (refused 9)
    ∷ verdict_of l1 16 plenty (gives (robust 12))
    ∷ verdict_of l11 plenty plenty (refused 4)
    ∷ verdict_of l12 plenty plenty (refused 6)
    ∷ []

-- further rows: steps, which of two refusals stands first, and which conflict is the first
abbrev pub further : List Claim
further =
    step_of l1 0 1 (gives (go 2))
    ∷ step_of l1 0 0 (gives wait)
    ∷ step_of l2 0 0 (gives (Decision.collision 1))
    -- a fact in both add and del ends true
    ∷ step_of (with 3 5 3 l1) 0 1 (gives (go 3))
    ∷ step_of l1 4 32 (refused 7)
    ∷ step_of l1 0 32 (refused 4)
    ∷ check_of (5 ∷ 2 ∷ 4 ∷ 1 ∷ []) 1
    ∷ check_of (with 0 0 129 l1 ++ (0 ∷ [])) 2
    ∷ check_of (with 0 3 32 l1 ++ (0 ∷ [])) 1
    ∷ check_of (with 0 3 32 (with 1 0 9 l1)) 4
    ∷ check_of (with 1 0 9 (with 1 1 32 l1)) 3
    ∷ check_of (with 1 1 32 (with 2 0 9 l1)) 4
    ∷ check_of (with 2 1 32 (with 3 0 2 l1)) 4
    ∷ check_of (with 3 0 2 (with 3 1 32 l1)) 5
    ∷ check_of (with 3 3 32 l1) 4
    ∷ check_of (with 3 3 2 (with 4 0 2 l1)) 6
    -- collision, by the lowest action, before deadlock; then the shortest way on, by the lowest action
    ∷ verdict_of collision_first plenty plenty (conflict collision 1 2 ((1 ∷ 6 ∷ []) ∷ (2 ∷ []) ∷ []) (1 ∷ 0 ∷ []))
    -- by the moves that first listed the row; who has its goal ends
    ∷ verdict_of ended_waits plenty plenty (conflict deadlock 2 0 ((0 ∷ []) ∷ (2 ∷ 3 ∷ []) ∷ []) (0 ∷ 1 ∷ []))
    -- all have theirs: the lowest member that can wait goes on
    ∷ verdict_of all_ended plenty plenty (conflict deadlock 2 0 ((0 ∷ 1 ∷ []) ∷ (2 ∷ []) ∷ []) (0 ∷ 1 ∷ []))
    ∷ replay_of l1 (9 ∷ []) (1 ∷ []) [] (refused 11)
    ∷ replay_of l1 (9 ∷ []) (0 ∷ 1 ∷ []) [] (refused 12)
    ∷ replay_of l1 (0 ∷ 9 ∷ 2 ∷ []) (2 ∷ 3 ∷ []) [] (refused 7)
    ∷ replay_of l1 (2 ∷ 9 ∷ []) (2 ∷ 2 ∷ []) [] (refused 10)
    ∷ replay_of l1 (0 ∷ 1 ∷ 2 ∷ 3 ∷ []) (2 ∷ 4 ∷ []) (2 ∷ 0 ∷ []) (refused 8)
    ∷ replay_of l1 (0 ∷ 1 ∷ 2 ∷ 3 ∷ []) (2 ∷ 4 ∷ []) (0 ∷ 1 ∷ 2 ∷ []) (refused 13)
    ∷ replay_of l1 (0 ∷ 1 ∷ 2 ∷ 3 ∷ []) (2 ∷ 4 ∷ []) (0 ∷ []) (ends still_open 2 1 0)
    ∷ []

-- solo searches: all live, with an odd word and a mark to spare; one live and one dead; none live; one row too few;
-- and a table whose rows are as many as the marks
abbrev pub searches : List Claim
searches =
    search_of l1 0 11 6 (finds 4 true 4 (1 ∷ 0 ∷ 2 ∷ 0 ∷ 5 ∷ 0 ∷ 6 ∷ 0 ∷ 0 ∷ 0 ∷ 0 ∷ []) (1 ∷ 1 ∷ 1 ∷ 1 ∷ 0 ∷ 0 ∷ []))
    ∷ search_of l8 0 8 4 (finds 2 true 1 (1 ∷ 0 ∷ 2 ∷ 0 ∷ 0 ∷ 0 ∷ 0 ∷ 0 ∷ []) (1 ∷ 0 ∷ 0 ∷ 0 ∷ []))
    ∷ search_of l4 1 8 4 (finds 4 false 0 (1 ∷ 0 ∷ 8 ∷ 0 ∷ 17 ∷ 0 ∷ 24 ∷ 0 ∷ []) (0 ∷ 0 ∷ 0 ∷ 0 ∷ []))
    ∷ search_of l1 0 7 3 (refused_with (0 ∷ 0 ∷ 0 ∷ 0 ∷ 0 ∷ 0 ∷ 0 ∷ []) (0 ∷ 0 ∷ 0 ∷ []) 9)
    ∷ search_of l1 0 8 3 (refused_with (replicate 8 7) (replicate 3 7) 14)
    ∷ []

-- ---- laws of more than 64 facts (document 02, F-5)

-- L1 with each fact higher by 61, so that facts 0 to 2 stand in the low words and 3 and 4 in the high ones
abbrev pub across_words : List ℕ
across_words =
    let up : ℕ → ℕ = λ x. 2 ^ 61 * x in
    start 66 2 4 (up 1)
    ++ row_words 0 (up 5) 0 0 0
    ++ row_words 1 (up 17) 0 0 0
    ++ row_words 0 (up 1) (up 1) (up 2) (up 1)
    ++ row_words 0 (up 2) 0 (up 5) (up 2)
    ++ row_words 1 (up 1) (up 1) (up 8) (up 1)
    ++ row_words 1 (up 8) 0 (up 17) (up 8)

-- L7 in fact 0 and fact 127
abbrev pub far_apart : List ℕ
far_apart =
    (128 ∷ 2 ∷ 2 ∷ 0 ∷ 0 ∷ 0 ∷ 0 ∷ 0 ∷ 0 ∷ [])
    ++ (0 ∷ 0 ∷ 9223372036854775808 ∷ 0 ∷ 0 ∷ 0 ∷ 0 ∷ 0 ∷ 0 ∷ [])
    ++ (1 ∷ 1 ∷ 0 ∷ 0 ∷ 0 ∷ 0 ∷ 0 ∷ 0 ∷ 0 ∷ [])
    ++ (0 ∷ 0 ∷ 0 ∷ 0 ∷ 0 ∷ 0 ∷ 9223372036854775808 ∷ 0 ∷ 0 ∷ [])
    ++ (1 ∷ 0 ∷ 0 ∷ 0 ∷ 0 ∷ 1 ∷ 0 ∷ 0 ∷ 9223372036854775808 ∷ [])

-- their answers, and what the check says of the words that the wider rows have more
abbrev pub wider : List Claim
wider =
    verdict_of across_words plenty plenty (gives (robust 12))
    -- nobody waits: the colliding step lacks a fact of the low word
    ∷ verdict_of (with 3 3 0 (with 5 3 0 across_words)) plenty plenty
    (conflict collision 1 (2 ^ 61) ((0 ∷ 1 ∷ []) ∷ (2 ∷ 3 ∷ []) ∷ []) (0 ∷ 1 ∷ []))
    ∷ search_of across_words 1 8 4
    (finds 4 true 4 (2 ^ 61 ∷ 0 ∷ 0 ∷ 1 ∷ 2 ^ 61 ∷ 2 ∷ 0 ∷ 3 ∷ []) (1 ∷ 1 ∷ 1 ∷ 1 ∷ []))
    ∷ verdict_of far_apart plenty plenty (conflict (missed 0) 2 0 ((0 ∷ []) ∷ (1 ∷ []) ∷ []) (0 ∷ 1 ∷ []))
    ∷ replay_of far_apart (0 ∷ 1 ∷ []) (1 ∷ 2 ∷ []) (1 ∷ 0 ∷ []) (ends success (2 ^ 127 + 1) 2 0)
    ∷ step_of far_apart 0 0 (gives (go (2 ^ 127)))
    ∷ step_of far_apart 0 (2 ^ 128) (refused 4)
    -- eight words are too few; F goes to 128; words 5 to 8 of row 0 are zero, words 3 to 8 of a goal row
    ∷ check_of (5 ∷ 2 ∷ 4 ∷ 1 ∷ 0 ∷ 0 ∷ 0 ∷ 0 ∷ []) 1
    ∷ check_of (with 0 0 128 l1) 0
    ∷ check_of (with 0 0 129 l1) 2
    ∷ check_of (with 0 5 1 l1) 2
    ∷ check_of (with 0 8 1 l1) 2
    ∷ check_of (with 1 3 1 l1) 3
    ∷ check_of (with 1 8 1 l1) 3
    -- a bit of a high word at or above F, and just below it
    ∷ check_of (with 0 4 1 l1) 4
    ∷ check_of (with 0 0 65 (with 0 4 1 l1)) 0
    ∷ check_of (with 0 0 65 (with 2 2 2 l1)) 4
    ∷ check_of (with 3 4 1 l1) 4
    ∷ check_of (with 3 6 1 l1) 4
    ∷ check_of (with 3 8 1 l1) 4
    -- a fact of a high word that is waited for and is no precondition
    ∷ check_of (with 0 0 65 (with 3 4 1 l1)) 6
    ∷ []

-- ---- runs with their change number (document 02, F-4)

-- the shared copy, the places of two members, what has closed the run, the change number
abbrev pub at : ℕ → ℕ → ℕ → Closed → ℕ → Numbered ℕ
at g i j c n = record { run = record { shared = g; places = λ k. get_or (i ∷ j ∷ []) k 0; closed = c }; change = n }

abbrev pub ticket : ℕ → ℕ → Ticket
ticket j n = record { member = j; change = n }

abbrev pub asked : Decision ℕ → Ticket → Answer (Asked ℕ)
asked s k = gives (record { decision = s; ticket = k })

abbrev pub tells : Reply → ℕ → ℕ → Answer Told
tells r g n = gives (record { reply = r; shared = g; change = n })

-- member 0 asked at the start; then member 1 waits in L1 and collides in L2
abbrev pub asks : List Claim
asks =
    ask_of l1 (at 1 0 0 not_yet 0) 0 (asked (go 2) (ticket 0 0))
    ∷ ask_of l1 (at 2 1 0 not_yet 1) 1 (asked wait (ticket 1 1))
    ∷ ask_of l2 (at 2 1 0 not_yet 1) 1 (asked (Decision.collision 1) (ticket 1 1))
    -- no refusal at the last change number, nor for waiting
    ∷ ask_of l1 (at 1 0 0 not_yet last_change) 0 (asked (go 2) (ticket 0 last_change))
    ∷ ask_of l1 (at 2 1 0 not_yet last_change) 1 (asked wait (ticket 1 last_change))
    ∷ ask_of l1 (at 32 3 0 (by collision) 0) 2 (refused 4)
    ∷ ask_of l1 (at 2 3 0 (by collision) 0) 2 (refused 11)
    ∷ ask_of l1 (at 2 2 0 (by collision) 0) 2 (refused 8)
    ∷ ask_of l1 (at 1 0 0 (by collision) 0) 0 (refused 13)
    ∷ ask_of l1 (at 2 2 0 not_yet 0) 0 (refused 13)
    ∷ []

-- picks and commits: what counts, and which refusal stands first
abbrev pub commits : List Claim
commits =
    pick_of l1 (at 1 0 0 not_yet 4294967294) 0 (tells goes 2 last_change)
    ∷ pick_of l1 (at 1 0 0 not_yet last_change) 0 (refused 20)
    ∷ pick_of l2 (at 2 1 0 not_yet last_change) 1 (refused 20)
    ∷ pick_of l1 (at 2 1 0 not_yet last_change) 1 (refused 13)
    ∷ commit_of l1 (at 1 0 0 not_yet 0) (ticket 0 0) (tells goes 2 1)
    ∷ commit_of l2 (at 2 1 0 not_yet 1) (ticket 1 1) (tells (collides 1) 2 2)
    ∷ commit_of l1 (at 2 1 0 not_yet 1) (ticket 0 0) (refused 19)
    ∷ commit_of l1 (at 2 1 0 not_yet 1) (ticket 0 1) (tells goes 5 2)
    ∷ commit_of l1 (at 2 3 0 not_yet 1) (ticket 2 0) (refused 11)
    ∷ commit_of l1 (at 2 1 0 not_yet 1) (ticket 2 0) (refused 8)
    ∷ commit_of l1 (at 2 1 0 (by collision) 1) (ticket 0 0) (refused 19)
    ∷ commit_of l1 (at 2 1 0 not_yet 1) (ticket 1 0) (refused 19)
    ∷ commit_of l1 (at 2 1 0 not_yet last_change) (ticket 1 last_change) (refused 13)
    ∷ commit_of l1 (at 1 0 0 not_yet last_change) (ticket 0 last_change) (refused 20)
    ∷ []

-- ---- what was missing (document 02, F-6)

-- L2 with more preconditions of member 1's first step: facts 0, 1 and 2; and those with fact 1 waited for
abbrev pub needs_more : List ℕ
needs_more = with 5 1 7 l2

abbrev pub waits_for_one : List ℕ
waits_for_one = with 5 3 2 needs_more

-- L1 across the words without waiting, its last step with preconditions in both words
abbrev pub needs_both : List ℕ
needs_both = with 6 1 (2 ^ 61) (with 3 3 0 (with 5 3 0 across_words))

-- all that is missing and nothing that holds; no fact that is waited for, since those hold; facts of either word and of
-- both; a deadlock, a goal missed, a success and a run that is open lack nothing
abbrev pub lacks : List Claim
lacks =
    step_of needs_more 2 0 (gives (Decision.collision 7))
    ∷ step_of needs_more 2 2 (gives (Decision.collision 5))
    ∷ step_of needs_more 2 29 (gives (Decision.collision 2))
    ∷ step_of needs_more 2 7 (gives (go 14))
    ∷ step_of waits_for_one 2 5 (gives wait)
    ∷ step_of waits_for_one 2 2 (gives (Decision.collision 5))
    ∷ step_of needs_both 3 0 (gives (Decision.collision (2 ^ 61 + 2 ^ 64)))
    ∷ step_of needs_both 3 (2 ^ 61) (gives (Decision.collision (2 ^ 64)))
    ∷ step_of needs_both 3 (2 ^ 64) (gives (Decision.collision (2 ^ 61)))
    ∷ pick_of l2 (at 2 1 0 not_yet 1) 1 (tells (collides 1) 2 2)
    ∷ pick_of l2 (at 2 1 0 not_yet 1) 0 (tells goes 5 2)
    ∷ replay_of l2 plans_of_l1 ends_of_l1 (0 ∷ []) (ends still_open 2 1 0)
    ∷ replay_of l2 plans_of_l1 ends_of_l1 (1 ∷ 0 ∷ []) (ends (failure collision) 8 1 1)
    ∷ []
