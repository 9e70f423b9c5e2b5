-- Document 01, "Runs": the plans' check, picks, outcomes, joint replay, and a pick on a run.
use Rattle.std.specs.Prelude.{Bool, true, false, cond, not, ◌&&◌, List, [], ◌∷◌, map, ℕ, ◌+◌, length, get_or, drop, eqb, ltb, leb}
use Rattle.std.proofs.Math.Seq.{slice}
use Rattle.semantics.specs.Base.{up_to, any_of, all_of, ◌if◌, ◌else◌, first_refusal, Answer, refused, gives, unless}
use Rattle.semantics.specs.Mask.{below}
use Rattle.semantics.specs.Task.{check, members, facts}
use Rattle.semantics.specs.System.{System, Waits, system, waits}
use Rattle.semantics.specs.Step.{Decision, routine}
use Rattle.semantics.specs.Solo.{Solo, solves, breaks, short, solo_from, entry}

-- how a run can fail; missed with the lowest member whose goal is missing
pub data Fault : Type 0 where
  collision : Fault
  deadlock : Fault
  missed : ℕ → Fault

-- what has closed a run
pub data Closed : Type 0 where
  not_yet : Closed
  by : Fault → Closed

abbrev pub is_closed : Closed → Bool
is_closed not_yet = false
is_closed (by f) = true

-- a run, beside its plans: the shared copy, each member's place in its plan, and what has closed it
pub record Run (State : Type 0) : Type 0 where
  pub shared : State
  pub places : ℕ → ℕ
  pub closed : Closed

-- what a pick that is not refused replies; a collision with the mask of the preconditions that are missing
pub data Reply : Type 0 where
  goes : Reply
  collides : ℕ → Reply

-- its reply, and the run after it, a run of whatever type R
pub record Replied (R : Type 0) : Type 0 where
  pub reply : Reply
  pub run : R

pub data Outcome : Type 0 where
  success : Outcome
  failure : Fault → Outcome
  still_open : Outcome

-- a closed run failed by what closed it
abbrev pub closing : Closed → Outcome → Outcome
closing not_yet o = o
closing (by f) o = failure f

abbrev pub is_success : Outcome → Bool
is_success success = true
is_success (failure f) = false
is_success still_open = false

abbrev pub is_open : Outcome → Bool
is_open success = false
is_open (failure f) = false
is_open still_open = true

module _ {State : Type 0} where
  -- member j's remaining steps
  unfoldable pub rest : List (List ℕ) → Run State → ℕ → List ℕ
  rest plans r j = drop (r.places j) (get_or plans j [])

  -- the run with the shared copy g and member j's place moved by one
  abbrev pub stepped : Run State → ℕ → State → Run State
  stepped r j g = record { shared = g; places = λ i. cond (eqb i j) (r.places i + 1) (r.places i); closed = not_yet }

  -- the run as it was, but closed
  abbrev pub closed_by : Run State → Fault → Run State
  closed_by r f = record { shared = r.shared; places = r.places; closed = by f }

  -- what the routine's answer makes of the run; waiting is no possible pick
  abbrev pub advance : Run State → ℕ → Decision State → Answer (Replied (Run State))
  advance r j (Decision.go g) = gives (record { reply = goes; run = stepped r j g })
  advance r j Decision.wait = refused 13
  advance r j (Decision.collision m) = gives (record { reply = collides m; run = closed_by r collision })

module _ {R : Type 0} where
  abbrev pub given : Answer (Replied R) → Bool
  given (refused k) = false
  given (gives p) = true

  -- an impossible pick is passed over and changes nothing
  abbrev pub pass_over : R → Answer (Replied R) → R
  pass_over r (refused k) = r
  pass_over r (gives p) = p.run

  -- the run after a pick, or the pick's refusal
  abbrev pub run_after : Answer (Replied R) → Answer R
  run_after (refused k) = refused k
  run_after (gives p) = gives p.run

-- k picks done, and one more where it goes
abbrev pub counted : ℕ → Reply → ℕ
counted k goes = k + 1
counted k (collides m) = k

abbrev pub tally : {R : Type 0} → ℕ → Answer (Replied R) → ℕ
tally k (refused e) = k
tally k (gives p) = counted k p.reply

-- the mask of what a pick lacks, 0 unless it collides
abbrev pub lacked_by : Reply → ℕ
lacked_by goes = 0
lacked_by (collides m) = m

abbrev pub lacked : {R : Type 0} → Answer (Replied R) → ℕ
lacked (refused e) = 0
lacked (gives p) = lacked_by p.reply

module _ (S : System) where
  unfoldable pub start : Run S.State
  start = record { shared = S.init; places = λ j. 0; closed = not_yet }

  -- the lowest of the members whose goal is not within g, or success
  unfoldable pub missed_in : S.State → List ℕ → Outcome
  missed_in g [] = success
  missed_in g (j ∷ js) = cond (S.goal j g) (missed_in g js) (failure (missed j))

-- joint replay's answer
pub record Replay (State : Type 0) : Type 0 where
  pub outcome : Outcome
  pub shared : State
  -- picks done, a collision pick not counted
  pub picked : ℕ
  -- the mask of what the colliding pick lacks, 0 where there is none
  pub missing : ℕ

module _ (S : System) (waits : Waits S) (plans : List (List ℕ)) where
  -- a pick of member j with these steps left
  unfoldable pub pick_step : Run S.State → ℕ → List ℕ → Answer (Replied (Run S.State))
  pick_step r j [] = refused 13
  pick_step r j (a ∷ p) = advance r j (routine S waits a r.shared)

  -- a pick: its reply and the run after it; or 8 no member, 13 no possible pick
  unfoldable pub pick : Run S.State → ℕ → Answer (Replied (Run S.State))
  pick r j = unless ((8 if not (ltb j S.members)) else (13 if is_closed r.closed)) (pick_step r j (rest plans r j))

  -- some member can be picked
  unfoldable pub pickable : Run S.State → Bool
  pickable r = any_of (λ j. given (pick r j)) (up_to S.members)

  -- some member has steps left
  unfoldable pub steps_left : Run S.State → Bool
  steps_left r = any_of (λ j. ltb 0 (length (rest plans r j))) (up_to S.members)

  -- a run is finished when it is closed or no member can be picked
  unfoldable pub outcome : Run S.State → Outcome
  outcome r =
      closing r.closed
      (cond (pickable r) still_open
      (cond (steps_left r) (failure deadlock) (missed_in S r.shared (up_to S.members))))

  -- a list of picks, each meeting the run as the last one left it
  unfoldable pub play : Run S.State → List ℕ → Run S.State
  play r [] = r
  play r (j ∷ js) = play (pass_over r (pick r j)) js

  -- joint replay from a run on, k picks being done, of which the last lacked m: the first bad pick is refused
  unfoldable pub replay_on : Answer (Run S.State) → ℕ → ℕ → List ℕ → Answer (Replay S.State)
  replay_on (refused e) k m [] = refused e
  replay_on (refused e) k m (j ∷ js) = refused e
  replay_on (gives r) k m [] = gives (record { outcome = outcome r; shared = r.shared; picked = k; missing = m })
  replay_on (gives r) k m (j ∷ js) = replay_on (run_after (pick r j)) (tally k (pick r j)) (lacked (pick r j)) js

  unfoldable pub replay : List ℕ → Answer (Replay S.State)
  replay picks = replay_on (gives (start S)) 0 0 picks

-- ---- the plan slice and the ends of the plans in it

-- where member j's plan begins
abbrev pub beginning : List ℕ → ℕ → ℕ
beginning ends j = get_or (0 ∷ ends) j 0

abbrev pub plan_of : List ℕ → List ℕ → ℕ → List ℕ
plan_of plans ends j = slice (beginning ends j) (get_or ends j 0) plans

abbrev pub plans_of : ℕ → List ℕ → List ℕ → List (List ℕ)
plans_of n plans ends = map (plan_of plans ends) (up_to n)

-- the ends of plans laid end to end, the first beginning at k
unfoldable pub ends_from : ℕ → List (List ℕ) → List ℕ
ends_from k [] = []
ends_from k (p ∷ ps) = (k + length p) ∷ ends_from (k + length p) ps

-- n ends, none before the one before it, the last at the plan slice's end
unfoldable pub ends_fit : ℕ → List ℕ → List ℕ → Bool
ends_fit n plans ends =
    eqb (length ends) n
    && all_of (λ j. leb (beginning ends j) (get_or ends j 0)) (up_to n)
    && eqb (beginning ends n) (length plans)

abbrev pub is_solves : Solo → Bool
is_solves solves = true
is_solves (breaks k) = false
is_solves short = false

-- member j's plan: 7 or 10 at its first bad entry, 12 it does not solve
abbrev pub plan_refusal : List ℕ → ℕ → List ℕ → ℕ
plan_refusal t j plan =
    first_refusal (entry t j) plan else (12 if not (is_solves (solo_from (system t) j 0 (system t).init plan)))

-- the plans' check, after the task check
unfoldable pub plans_refusal : List ℕ → List ℕ → List ℕ → ℕ
plans_refusal t plans ends =
    check t
    else (11 if not (ends_fit (members t) plans ends))
    else first_refusal (λ j. plan_refusal t j (plan_of plans ends j)) (up_to (members t))

-- the operation
unfoldable pub joint_replay : List ℕ → List ℕ → List ℕ → List ℕ → Answer (Replay ℕ)
joint_replay t plans ends picks =
    unless (plans_refusal t plans ends) (replay (system t) (waits t) (plans_of (members t) plans ends) picks)

-- ---- a run that is handed in, any run

-- some member's place is past its plan's end
abbrev pub past_end : List ℕ → List ℕ → List ℕ → Run ℕ → Bool
past_end t plans ends r = any_of (λ i. ltb (length (plan_of plans ends i)) (r.places i)) (up_to (members t))

-- the run's check, after the plans' check: 4 shared bits, 11 a place past its plan's end
abbrev pub run_refusal : List ℕ → List ℕ → List ℕ → Run ℕ → ℕ
run_refusal t plans ends r =
    plans_refusal t plans ends else (4 if not (below (facts t) r.shared)) else (11 if past_end t plans ends r)

-- a pick on a run
unfoldable pub pick_on : List ℕ → List ℕ → List ℕ → Run ℕ → ℕ → Answer (Replied (Run ℕ))
pick_on t plans ends r j =
    unless (run_refusal t plans ends r) (pick (system t) (waits t) (plans_of (members t) plans ends) r j)
