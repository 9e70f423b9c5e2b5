-- The three demands of the settlement runner's owner. Each is proved: 1 as the contracts of the public functions, 2 and
-- 3 in `theory`.
--
-- Demand 1, total. Every input within the written limits gets its defined answer, and the work ends; every other input
-- gets the refusal that stands first in the written order; afterwards every lent slice holds what is written. A public
-- function has no `requires`, and its contract equates its answer and its lent slices at exit, for all inputs, with a
-- meaning:
--
--   task check              `check`              task::check
--   step                    `step`               step::step
--   solo replay             `solo_replay`         solo_replay::solo_replay
--   solo search             `solo_search`         solo_search::solo_search
--   joint replay            `joint_replay`        run_replay::joint_replay
--   pick on a run           `pick_numbered`       run_ticket::pick; the run lent: run_dispatch::pick, run_dispatch::once
--   ask                     `ask_on`              run_ticket::ask
--   commit                  `commit_on`           run_ticket::commit; the run lent: run_dispatch::commit and ::commit_once
--   picks on a run          `play_on`             run_dispatch::play; with the answers: run_play::play
--   the dispatcher's start  `start_of`            run_dispatch::start
--   verdict                 `VerdictMeans`       verdict::verdict; with `Demand3Answer`
--   text reader             `read_text`           text::read
--   verdict program         `printed` of program program::verdict_file
--
-- The C interface (capi) gives these meanings as numbers.
--
-- Demand 2, the model. Step, solo replay, joint replay, solo search, and a pick and an ask on a run agree with the
-- execution model of social laws in MA-STRIPS (Model), yes where it says yes and no where it says no: `Demand2`.
--
-- Demand 3, robustness. For an accepted task that fits the slices and in which each member has a solving plan: over all
-- choices of solving plans and all lists of picks, the finished runs are just the successes exactly when the verdict is
-- robust; and the verdict is robust exactly when the task's setting is robust in the model. A verdict of not robust
-- carries plans and picks whose joint replay ends as the verdict says, and no run that fails has fewer picks that go:
-- `Demand3`, and of the verdict's own answer `Demand3Answer`. That it is the same with whatever room: `OneVerdict`. What
-- the verdict's search lists, and when it refuses: `VerdictSearch`.
--
-- What a collision tells (request F-6) are just the preconditions that are missing, and there are some: `MissingNamed`.
use Rattle.std.specs.Prelude.{◌≡◌, Bool, true, false, cond, not, ◌↔◌, ◌⊎◌, ℕ, ◌+◌, ◌≤◌, ◌<◌, length, get_or, take, drop, eqb}
use mathlib.Core.List.{List, [], ◌∷◌, ◌++◌, map, flatten, Memᴰ}
use Rattle.semantics.specs.Base.{Answer, refused, gives, padded}
use Rattle.semantics.specs.Mask.{has, below}
use Rattle.semantics.specs.Words.{states_in, first_states}
use Rattle.semantics.specs.Task as Task
use Rattle.semantics.specs.Task.{check, facts, members, actions, owner}
use Rattle.semantics.specs.System.{System, Waits, result_of, system, waits, Choice}
use Rattle.semantics.specs.Listing.{add_all}
use Rattle.semantics.specs.Step.{Decision, step_refusal, step}
use Rattle.semantics.specs.Solo.{Solo, solo_refusal, solo_replay, solo_next, Searched, search_refusal, solo_search}
use Rattle.semantics.specs.Run.{Run, Fault, not_yet, is_closed, Reply, Replied, Outcome, success, failure}
use Rattle.semantics.specs.Run.{still_open, is_success, is_open, Replay, rest, stepped, closed_by, pass_over, start}
use Rattle.semantics.specs.Run.{outcome, play, beginning, plan_of, plans_of, plans_refusal, joint_replay, advance}
use Rattle.semantics.specs.Run.{tally, given, pick, ends_from, pick_on}
use Rattle.semantics.specs.Dispatch.{Numbered, last_change, counts, Ticket, Asked, start_of, pick_numbered, play_on}
use Rattle.semantics.specs.Dispatch.{first, ask_on, commit_on}
use Rattle.semantics.specs.Verdict.{Room, local_rows, configuration_rows, too_short, Verdict, unsolvable, not_robust}
use Rattle.semantics.specs.Verdict.{robust, Failing, Conflict, same_row, local_copy, shared_copy, start_row, moved}
use Rattle.semantics.specs.Verdict.{moves, conflict_picks, verdict, Slices, room, live_for, listed_in, listed_for}
use Rattle.semantics.specs.Model.{FactSet, ◌⊆◌, Setting, apply, Executes, Solution, World, Acts, Collides, unmet}
use Rattle.semantics.specs.Model.{Lacks, Waiting, Execution, Deadlock, Success, Missed, GoesOn, begin, Robust}

-- ---- demand 2: the operations agree with the execution model of social laws in MA-STRIPS

-- the facts of a mask
abbrev pub facts_of : ℕ → FactSet
facts_of x f = has f x

-- a task as a setting of MA-STRIPS
abbrev pub setting : List ℕ → Setting
setting t =
    record {
      agents = members t;
      ActionOf = λ i a. (a < actions t) × (owner t a ≡ i);
      init = facts_of (Task.initial t);
      goal = λ i. facts_of (Task.goal t i);
      pre = λ a. facts_of (Task.pre t a);
      waitfor = λ a. facts_of (Task.wait t a);
      add = λ a. facts_of (Task.add t a);
      del = λ a. facts_of (Task.del t a);
    }

pub record StepAgrees (t : List ℕ) (a g : ℕ) : Type 0 where
  pub goes : (s : ℕ)
      → (step t a g ≡ gives (Decision.go s))
      ↔ (((setting t).waitfor a ⊆ facts_of g) × ((setting t).pre a ⊆ facts_of g)
      × (facts_of s ≡ apply (setting t) a (facts_of g)))
  pub waits : (step t a g ≡ gives Decision.wait) ↔ ¬ ((setting t).waitfor a ⊆ facts_of g)
  pub collides : (m : ℕ)
      → (step t a g ≡ gives (Decision.collision m))
      ↔ (((setting t).waitfor a ⊆ facts_of g) × (¬ ((setting t).pre a ⊆ facts_of g))
      × (facts_of m ≡ unmet (setting t) a (facts_of g)))

pub record SoloReplayAgrees (t : List ℕ) (i : ℕ) (plan : List ℕ) : Type 0 where
  pub solves : (solo_replay t i plan ≡ gives Solo.solves) ↔ Solution (setting t) i plan
  pub breaks : (k : ℕ)
      → (solo_replay t i plan ≡ gives (Solo.breaks k))
      ↔ ((s : FactSet)
      × Executes (setting t) i (setting t).init (take k plan) s
      × (a : ℕ)
      × (π : List ℕ)
      × (drop k plan ≡ a ∷ π)
      × ¬ ((setting t).pre a ⊆ s))
  pub short : (solo_replay t i plan ≡ gives Solo.short)
      ↔ ((s : FactSet) × Executes (setting t) i (setting t).init plan s × ¬ ((setting t).goal i ⊆ s))

-- the world at the start, with these plans
abbrev pub world_of : (t : List ℕ) → List (List ℕ) → World (setting t)
world_of t plans = begin (setting t) plans

-- what an outcome says of the world that the picks led to
abbrev pub OutcomeOf : (t : List ℕ) → World (setting t) → Outcome → Type 0
OutcomeOf t w success = Success (setting t) w
OutcomeOf t w still_open = GoesOn (setting t) w
OutcomeOf t w (failure Fault.deadlock) = Deadlock (setting t) w
OutcomeOf t w (failure (Fault.missed i)) = Missed (setting t) w i
OutcomeOf t w (failure Fault.collision) = ⊥

-- the picks, all executed, lead to a world with the facts of g and this outcome; or all but the last, which collides
-- and lacks the facts of the last number
pub data Ends (t : List ℕ) (plans : List (List ℕ)) : List ℕ → Outcome → ℕ → ℕ → ℕ → Type 0 where
  ends : {picks : List ℕ} {o : Outcome} {g : ℕ} {w : World (setting t)}
      → Execution (setting t) (world_of t plans) picks w → OutcomeOf t w o → w.state ≡ facts_of g
      → Ends t plans picks o g (length picks) 0
  collided : {picks : List ℕ} {i g m : ℕ} {w : World (setting t)}
      → Execution (setting t) (world_of t plans) picks w → Collides (setting t) w i → Lacks (setting t) w i (facts_of m)
      → w.state ≡ facts_of g
      → Ends t plans (picks ++ (i ∷ [])) (failure Fault.collision) g (length picks) m

-- the task check passes, the ends fit the plan slice, and each plan is an individual solution
pub record SolvingPlans (t plans ends : List ℕ) : Type 0 where
  pub accepted : check t ≡ 0
  pub many : length ends ≡ members t
  pub rising : (j : ℕ) → j < members t → beginning ends j ≤ get_or ends j 0
  pub whole : beginning ends (members t) ≡ length plans
  pub solutions : (j : ℕ) → j < members t → Solution (setting t) j (plan_of plans ends j)

pub record JointReplayAgrees (t plans ends : List ℕ) : Type 0 where
  -- the plans are accepted exactly when they are solving plans; then some answer is given, and only then
  pub accepts : (plans_refusal t plans ends ≡ 0) ↔ SolvingPlans t plans ends
  pub begins : plans_refusal t plans ends ≡ 0 → (a : Replay ℕ) × (joint_replay t plans ends [] ≡ gives a)
  pub answers : (picks : List ℕ) (a : Replay ℕ) → joint_replay t plans ends picks ≡ gives a
      → plans_refusal t plans ends ≡ 0
  pub replays : plans_refusal t plans ends ≡ 0 → (picks : List ℕ) (o : Outcome) (g k m : ℕ)
      → (joint_replay t plans ends picks ≡ gives (record { outcome = o; shared = g; picked = k; missing = m }))
      ↔ Ends t (plans_of (members t) plans ends) picks o g k m

-- ---- a pick on a run

-- the plans are accepted, the shared copy has no bit at or above F, and no place is past its plan's end
pub record RunFits (t plans ends : List ℕ) (r : Run ℕ) : Type 0 where
  pub plans-fit : plans_refusal t plans ends ≡ 0
  pub shared-fits : below (facts t) r.shared ≡ true
  pub places-fit : (j : ℕ) → j < members t → r.places j ≤ length (plan_of plans ends j)

-- the world that a run stands in
abbrev pub world_at : (t : List ℕ) → List (List ℕ) → Run ℕ → World (setting t)
world_at t plans r = record { state = facts_of r.shared; left = λ j. rest plans r j }

abbrev pub world_in : (t plans ends : List ℕ) → Run ℕ → World (setting t)
world_in t plans bounds r = world_at t (plans_of (members t) plans bounds) r

-- agent i waits or has ended
abbrev pub Stays : (Π : Setting) → World Π → ℕ → Type 0
Stays Π w i = Waiting Π w i ⊎ (w.left i ≡ [])

-- Each answer of a pick, both ways: the run moves by just the one step that the scheduler's choice executes; a
-- collision closes it, changes nothing else and tells what is lacking; 8 for no agent; 13 for an agent that waits or has
-- ended, and for every agent of a run that is closed.
pub record PickAgrees (t plans ends : List ℕ) (r : Run ℕ) (i : ℕ) : Type 0 where
  pub goes : (g : ℕ)
      → (pick_on t plans ends r i ≡ gives (record { reply = Reply.goes; run = stepped r i g }))
      ↔ ((r.closed ≡ not_yet) × Acts (setting t) (world_in t plans ends r) i (world_in t plans ends (stepped r i g)))
  pub collides : (m : ℕ)
      → (pick_on t plans ends r i ≡ gives (record { reply = Reply.collides m; run = closed_by r Fault.collision }))
      ↔ ((r.closed ≡ not_yet)
      × Collides (setting t) (world_in t plans ends r) i
      × Lacks (setting t) (world_in t plans ends r) i (facts_of m))
  pub nobody : (pick_on t plans ends r i ≡ refused 8) ↔ ¬ (i < members t)
  pub impossible : (pick_on t plans ends r i ≡ refused 13)
      ↔ ((i < members t) × ((is_closed r.closed ≡ true) ⊎ Stays (setting t) (world_in t plans ends r) i))

-- ---- an ask on a run

-- the ticket for member i's pick on a run with this change number
abbrev pub ticket_of : Numbered ℕ → ℕ → Ticket
ticket_of d i = record { member = i; change = d.change }

-- Each answer of an ask, both ways: what the scheduler's choice of agent i would meet, with the ticket for it; 8 for no
-- agent; 13 for an agent that has ended, and for every agent of a run that is closed.
pub record AskAgrees (t plans ends : List ℕ) (d : Numbered ℕ) (i : ℕ) : Type 0 where
  pub goes : (g : ℕ)
      → (ask_on t plans ends d i ≡ gives (record { decision = Decision.go g; ticket = ticket_of d i }))
      ↔ ((d.run.closed ≡ not_yet)
      × Acts (setting t) (world_in t plans ends d.run) i (world_in t plans ends (stepped d.run i g)))
  pub waits : (ask_on t plans ends d i ≡ gives (record { decision = Decision.wait; ticket = ticket_of d i }))
      ↔ ((d.run.closed ≡ not_yet) × (i < members t) × Waiting (setting t) (world_in t plans ends d.run) i)
  pub collides : (m : ℕ)
      → (ask_on t plans ends d i ≡ gives (record { decision = Decision.collision m; ticket = ticket_of d i }))
      ↔ ((d.run.closed ≡ not_yet)
      × Collides (setting t) (world_in t plans ends d.run) i
      × Lacks (setting t) (world_in t plans ends d.run) i (facts_of m))
  pub nobody : (ask_on t plans ends d i ≡ refused 8) ↔ ¬ (i < members t)
  pub impossible : (ask_on t plans ends d i ≡ refused 13)
      ↔ ((i < members t)
      × ((is_closed d.run.closed ≡ true) ⊎ ((world_in t plans ends d.run).left i ≡ [])))

-- ---- solo search

-- agent i alone can bring about s; and can go on from s to its goal
abbrev pub Reachable : List ℕ → ℕ → ℕ → Type 0
Reachable t i s = (π : List ℕ) × Executes (setting t) i (setting t).init π (facts_of s)

abbrev pub Completable : List ℕ → ℕ → ℕ → Type 0
Completable t i s = (π : List ℕ) × (s' : FactSet) × Executes (setting t) i (facts_of s) π s' × ((setting t).goal i ⊆ s')

-- agent i has an individual solution
abbrev pub Solvable : List ℕ → ℕ → Type 0
Solvable t i = (π : List ℕ) × Solution (setting t) i π

-- the entries of a list are all different
abbrev pub Distinct : {A : Type 0} → A → List A → Type 0
Distinct d xs = (i j : ℕ) → i < length xs → j < length xs → get_or xs i d ≡ get_or xs j d → i ≡ j

-- the list has just the x that pass, each once
pub record Lists {A : Type 0} (d : A) (P : A → Type 0) (xs : List A) : Type 0 where
  pub distinct : Distinct d xs
  pub just : (x : A) → Memᴰ x xs ↔ P x

-- more than k different x pass
pub record Exceed {A : Type 0} (d : A) (P : A → Type 0) (k : ℕ) : Type 0 where
  pub some : List A
  pub distinct : Distinct d some
  pub each : (x : A) → Memᴰ x some → P x
  pub more : k < length some

-- breadth order: the first row, then for each row in turn those that it leads to, each new one once, at the end
abbrev pub Breadth : {A : Type 0} → (A → A → Bool) → (A → List A) → A → List A → Type 0
Breadth same next first rows = rows ≡ add_all same (first ∷ []) (flatten (map next rows))

-- the table's rows after an answer, and their marks: 1 says live
pub record SearchedRows (t : List ℕ) (i : ℕ) (rows marks : List ℕ) : Type 0 where
  pub listed : Lists 0 (Reachable t i) rows
  pub breadth : Breadth eqb (solo_next (system t) i) (Task.initial t) rows
  pub marked : (k : ℕ) → k < length rows → (get_or marks k 0 ≡ 1) ↔ Completable t i (get_or rows k 0)

pub record SoloSearchAgrees (t : List ℕ) (i : ℕ) (table marks : List ℕ) : Type 0 where
  -- 9 exactly when the reachable copies exceed the table
  pub full : ((solo_search t i table marks).answer ≡ refused 9) ↔ Exceed 0 (Reachable t i) (states_in (length table))
  -- else an answer: the number of reachable copies, at most as many as the table takes, whether I is live, and the
  -- number of those copies from which the agent can go on to its goal
  pub counted : (c : Searched) → ((solo_search t i table marks).answer ≡ gives c)
      ↔ ((c.count ≤ states_in (length table))
      × ((xs : List ℕ) × Lists 0 (Reachable t i) xs × (length xs ≡ c.count))
      × ((c.live ≡ true) ↔ Solvable t i)
      × ((xs : List ℕ) × Lists 0 (λ s. Reachable t i s × Completable t i s) xs × (length xs ≡ c.marked)))
  -- and the rows that stand in the table, of which so many are marked 1
  pub rows : (c : Searched) → (solo_search t i table marks).answer ≡ gives c
      → SearchedRows t i (first_states (solo_search t i table marks).table c.count)
      (solo_search t i table marks).marks

pub record Demand2 : Type 0 where
  pub step_agrees : (t : List ℕ) (a g : ℕ) → step_refusal t a g ≡ 0 → StepAgrees t a g
  pub solo_replay_agrees : (t : List ℕ) (i : ℕ) (plan : List ℕ) → solo_refusal t i plan ≡ 0 → SoloReplayAgrees t i plan
  pub joint_replay_agrees : (t plans ends : List ℕ) → JointReplayAgrees t plans ends
  pub pick_agrees : (t plans ends : List ℕ) (r : Run ℕ) (i : ℕ) → RunFits t plans ends r → PickAgrees t plans ends r i
  pub pick_answers : (t plans ends : List ℕ) (r : Run ℕ) (i : ℕ) (p : Replied (Run ℕ)) → pick_on t plans ends r i ≡ gives p
      → RunFits t plans ends r
  pub ask_agrees : (t plans ends : List ℕ) (d : Numbered ℕ) (i : ℕ) → RunFits t plans ends d.run
      → AskAgrees t plans ends d i
  pub ask_answers : (t plans ends : List ℕ) (d : Numbered ℕ) (i : ℕ) (a : Asked ℕ) → ask_on t plans ends d i ≡ gives a
      → RunFits t plans ends d.run
  pub solo_search_agrees : (t : List ℕ) (i : ℕ) (table marks : List ℕ)
      → search_refusal t i (states_in (length table)) (length marks) ≡ 0 → SoloSearchAgrees t i table marks

-- ---- demand 3: robustness

module _ (S : System) (waits : Waits S) where
  -- the run that a choice of plans and a list of picks make, impossible picks passed over: its outcome
  abbrev pub run_outcome : Choice S → List ℕ → Outcome
  run_outcome c picks = outcome S waits c.plans (play S waits c.plans (start S) picks)

  -- the set of finished runs, and the set of those that are successes: a run stands in it with its plans and its list
  -- of picks
  abbrev pub finished_runs : Choice S → List ℕ → Bool
  finished_runs c picks = not (is_open (run_outcome c picks))

  abbrev pub successes : Choice S → List ℕ → Bool
  successes c picks = is_success (run_outcome c picks)

  -- the picks that go, k before these being done: a run of these plans goes on from r with these picks
  unfoldable pub go_picks : List (List ℕ) → Run S.State → ℕ → List ℕ → ℕ
  go_picks plans r k [] = k
  go_picks plans r k (j ∷ js) =
      let x = pick S waits plans r j in go_picks plans (pass_over r x) (tally k x) js

-- joint replay of a conflict's plans and picks, no more than the listed configurations, ends as is told
pub record Replays (t : List ℕ) (listed : ℕ) (c : Conflict) : Type 0 where
  pub pick_count : length c.picks ≡ conflict_picks c.told.fault c.told.picked
  pub few : length c.picks ≤ listed
  pub shared : ℕ
  pub replays : joint_replay t (flatten c.plans) (ends_from 0 c.plans) c.picks
      ≡ gives
      (record {
        outcome = failure c.told.fault;
        shared = shared;
        picked = c.told.picked;
        missing = c.told.missing;
      })

-- no run that fails, over all choices of solving plans and all lists of picks, has fewer than k picks that go
abbrev pub Fewest : List ℕ → ℕ → Type 0
Fewest t k =
    (c : Choice (system t)) (picks : List ℕ) (f : Fault) → run_outcome (system t) (waits t) c picks ≡ failure f
    → k ≤ go_picks (system t) (waits t) c.plans (start (system t)) 0 picks

-- For a task that is not refused, in which each member has a solving plan: the verdict is robust exactly when the
-- finished runs are just the successes, and exactly when the task's setting is robust. The conflict of a verdict of not
-- robust replays, and no run that fails has fewer picks that go.
pub record Demand3 (t : List ℕ) (room : Room) : Type 0 where
  pub robust : Choice (system t) → (v : Verdict Conflict) → verdict t room ≡ gives v
      → ((count : ℕ) × (v ≡ robust count)) ↔ (finished_runs (system t) (waits t) ≡ successes (system t) (waits t))
  pub robust_setting : ((j : ℕ) → j < members t → Solvable t j) → (v : Verdict Conflict) → verdict t room ≡ gives v
      → ((count : ℕ) × (v ≡ Verdict.robust count)) ↔ Robust (setting t)
  pub not_robust : (c : Conflict) → verdict t room ≡ gives (not_robust c)
      → Replays t (length (listed_in t room)) c
  pub fewest : (c : Conflict) → verdict t room ≡ gives (Verdict.not_robust c) → Fewest t c.told.picked

-- the slices hold the conflict c, zeros after it, of which so much is told
pub record Carries (told : Failing) (c : Conflict) (before after : Slices) : Type 0 where
  pub is_told : told ≡ c.told
  pub plans : after.plans ≡ padded (length before.plans) (flatten c.plans)
  pub ends : after.ends ≡ padded (length before.ends) (ends_from 0 c.plans)
  pub picks : after.picks ≡ padded (length before.picks) c.picks

-- The same of a verdict's own answer, and of the slices that hold its conflict.
pub record Demand3Answer (t : List ℕ) (before after : Slices) (answer : Answer (Verdict Failing)) : Type 0 where
  pub robust : Choice (system t) → (v : Verdict Failing) → answer ≡ gives v
      → ((count : ℕ) × (v ≡ Verdict.robust count))
      ↔ (finished_runs (system t) (waits t) ≡ successes (system t) (waits t))
  pub robust_setting : ((j : ℕ) → j < members t → Solvable t j) → (v : Verdict Failing) → answer ≡ gives v
      → ((count : ℕ) × (v ≡ Verdict.robust count)) ↔ Robust (setting t)
  pub not_robust : (told : Failing) → answer ≡ gives (not_robust told)
      → (c : Conflict)
      × (verdict t (room before) ≡ gives (Verdict.not_robust c))
      × Carries told c before after
      × Replays t (length (listed_for t before)) c
  pub fewest : (told : Failing) → answer ≡ gives (Verdict.not_robust told) → Fewest t told.picked

-- A task has one verdict, its conflict too: where two are given, by slices of whatever lengths, they are equal.
abbrev pub OneVerdict : List ℕ → Type 0
OneVerdict t =
    (room room' : Room) (v v' : Verdict Conflict) → verdict t room ≡ gives v → verdict t room' ≡ gives v' → v ≡ v'

-- ---- what the verdict's search lists, and when it refuses

-- a configuration that can be reached: the start, or what a move makes of one. A move is an action whose preconditions
-- hold in its agent's local copy and in the shared copy, and after which the agent alone can go on to its goal.
pub data Configured (t : List ℕ) : List ℕ → Type 0 where
  at-start : Configured t (start_row (system t))
  by_move : {c : List ℕ} {i a : ℕ} → Configured t c → (setting t).ActionOf i a
      → (setting t).pre a ⊆ facts_of (local_copy (system t) c i)
      → (setting t).pre a ⊆ facts_of (shared_copy (system t) c)
      → Completable t i (result_of (system t) a (local_copy (system t) c i))
      → Configured t (moved (system t) c a)

-- the listed configurations are those that can be reached, each once, in breadth order, by moves with a right test of
-- liveness
pub record ListedRows (t : List ℕ) (live : ℕ → ℕ → Bool) (rows : List (List ℕ)) : Type 0 where
  pub listed : Lists [] (Configured t) rows
  pub breadth : Breadth (same_row eqb) (moves (system t) live) (start_row (system t)) rows
  pub live_right : (i s : ℕ) → i < members t → Reachable t i s → (live i s ≡ true) ↔ Completable t i s

-- some agent's copies exceed K
abbrev pub CopiesExceed : List ℕ → ℕ → Type 0
CopiesExceed t K = (i : ℕ) × (i < members t) × Exceed 0 (Reachable t i) K

-- of an accepted task with slices as long as asked
pub record VerdictSearch (t : List ℕ) (room : Room) : Type 0 where
  -- 9 exactly when an agent's copies exceed K or, each agent having a solution, the configurations exceed C; and no
  -- other refusal
  pub full : (verdict t room ≡ refused 9)
      ↔ (CopiesExceed t (local_rows t room.local_table)
      ⊎ (((j : ℕ) → j < members t → Solvable t j)
      × Exceed [] (Configured t) (configuration_rows t room.configuration_table)))
  pub no_other : (k : ℕ) → verdict t room ≡ refused k → k ≡ 9
  -- unsolvable with the lowest agent that has no individual solution
  pub unsolvable : (i : ℕ)
      → (verdict t room ≡ gives (unsolvable i))
      ↔ ((¬ CopiesExceed t (local_rows t room.local_table))
      × (i < members t)
      × (¬ Solvable t i)
      × ((j : ℕ) → j < i → Solvable t j))
  -- else the configurations are listed, and robust has their number
  pub listed : (v : Verdict Conflict) → verdict t room ≡ gives v → ((j : ℕ) → j < members t → Solvable t j)
      → ListedRows t (live_for (system t) (local_rows t room.local_table)) (listed_in t room)
  pub counted : (n : ℕ) → verdict t room ≡ gives (robust n) → n ≡ length (listed_in t room)

abbrev pub Searches : Type 0
Searches = (t : List ℕ) (room : Room) → check t ≡ 0 → too_short t room ≡ false → VerdictSearch t room

-- ---- what was missing (request F-6)

-- The mask m of a collision of action a at the shared copy g is never empty; each of its facts is a precondition of the
-- action and is not in the shared copy; each precondition that is not there is in it. None is waited for.
pub record Missing (t : List ℕ) (a g m : ℕ) : Type 0 where
  pub some : (f : ℕ) × (has f m ≡ true)
  pub needed : (f : ℕ) → has f m ≡ true → has f (Task.pre t a) ≡ true
  pub absent : (f : ℕ) → has f m ≡ true → has f g ≡ false
  pub all : (f : ℕ) → has f (Task.pre t a) ≡ true → has f g ≡ false → has f m ≡ true
  pub unwaited : (f : ℕ) → has f m ≡ true → has f (Task.wait t a) ≡ false

-- the same of agent j's pending action in the world w, which has the facts of g
abbrev pub PendingMisses : (t : List ℕ) → World (setting t) → ℕ → ℕ → ℕ → Type 0
PendingMisses t w j g m = (a : ℕ) × (π : List ℕ) × (w.left j ≡ a ∷ π) × (w.state ≡ facts_of g) × Missing t a g m

-- what joint replay tells: where it ends by a collision, what the last pick lacks after all others are executed; else 0
pub record ReplayMisses (t plans ends picks : List ℕ) (a : Replay ℕ) : Type 0 where
  pub collision : a.outcome ≡ failure Fault.collision
      → (js : List ℕ)
      × (j : ℕ)
      × (w : World (setting t))
      × (picks ≡ js ++ (j ∷ []))
      × Execution (setting t) (world_of t (plans_of (members t) plans ends)) js w
      × PendingMisses t w j a.shared a.missing
  pub other : ¬ (a.outcome ≡ failure Fault.collision) → a.missing ≡ 0

-- each operation that answers a collision, and the conflict, whose replay it is
pub record MissingNamed (t : List ℕ) : Type 0 where
  pub in_step : (a g m : ℕ) → step t a g ≡ gives (Decision.collision m) → Missing t a g m
  pub in_ask : (plans ends : List ℕ) (d : Numbered ℕ) (j m : ℕ) (k : Ticket)
      → ask_on t plans ends d j ≡ gives (record { decision = Decision.collision m; ticket = k })
      → PendingMisses t (world_in t plans ends d.run) j d.run.shared m
  pub in_pick : (plans ends : List ℕ) (d e : Numbered ℕ) (j m : ℕ)
      → pick_numbered t plans ends d j ≡ gives (record { reply = Reply.collides m; run = e })
      → PendingMisses t (world_in t plans ends d.run) j d.run.shared m
  pub in_commit : (plans ends : List ℕ) (d e : Numbered ℕ) (k : Ticket) (m : ℕ)
      → commit_on t plans ends d k ≡ gives (record { reply = Reply.collides m; run = e })
      → PendingMisses t (world_in t plans ends d.run) k.member d.run.shared m
  pub in_replay : (plans ends picks : List ℕ) (a : Replay ℕ) → joint_replay t plans ends picks ≡ gives a
      → ReplayMisses t plans ends picks a
  pub in_conflict : (room : Room) (c : Conflict) → verdict t room ≡ gives (not_robust c)
      → (g : ℕ)
      × ReplayMisses t (flatten c.plans) (ends_from 0 c.plans) c.picks
      (record {
        outcome = failure c.told.fault;
        shared = g;
        picked = c.told.picked;
        missing = c.told.missing;
      })

-- ---- the dispatcher: ask, then commit (request F-4); its picks make the runs of demand 3
--
-- Demand 1 of it is the contracts of its operations, equal to `start_of`, `pick_numbered`, `play_on`, `ask_on`, `commit_on`.

-- what a runner calls on one run
pub data Call : Type 0 where
  asks : ℕ → Call
  picks : ℕ → Call
  commits : Ticket → Call

-- whose step a call is about
abbrev pub member_of : Call → ℕ
member_of (asks j) = j
member_of (picks j) = j
member_of (commits k) = k.member

-- what a pick of member j does where its step answers so: 13 for a wait, then 20
abbrev pub does : Numbered ℕ → ℕ → Decision ℕ → Answer (Replied (Numbered ℕ))
does d j s = counts d (advance d.run j s)

module _ (t plans ends : List ℕ) where
  -- the run after a call: an ask and what is refused change nothing
  abbrev pub called : Numbered ℕ → Call → Numbered ℕ
  called d (asks j) = d
  called d (picks j) = pass_over d (pick_numbered t plans ends d j)
  called d (commits k) = pass_over d (commit_on t plans ends d k)

  -- the call does a pick
  abbrev pub is_done : Numbered ℕ → Call → Bool
  is_done d (asks j) = false
  is_done d (picks j) = given (pick_numbered t plans ends d j)
  is_done d (commits k) = given (commit_on t plans ends d k)

  -- the run after the calls, each meeting it as the last one left it
  unfoldable pub calls : Numbered ℕ → List Call → Numbered ℕ
  calls d [] = d
  calls d (c ∷ cs) = calls (called d c) cs

  -- those of the calls that do a pick where they are met
  unfoldable pub doing : Numbered ℕ → List Call → List Call
  doing d [] = []
  doing d (c ∷ cs) = cond (is_done d c) (c ∷ doing (called d c) cs) (doing (called d c) cs)

  -- A list of calls, asks among them, leaves what those alone leave that do a pick; alone each of them does it too. The
  -- change number counts them, and the run is that of their picks.
  pub record CallsAlone (d : Numbered ℕ) (cs : List Call) : Type 0 where
    pub leaves : calls d cs ≡ calls d (doing d cs)
    pub still_done : doing d (doing d cs) ≡ doing d cs
    pub counted : (calls d cs).change ≡ d.change + length (doing d cs)
    pub plays : (calls d cs).run
        ≡ play (system t) (waits t) (plans_of (members t) plans ends) d.run (map member_of (doing d cs))

  -- A ticket is good for the run at which it was asked and for no later one. While no call has done a pick the run is
  -- that one, and the commit does what the ask answered; afterwards it is refused with 19.
  pub record TicketGood (d : Numbered ℕ) (a : Asked ℕ) (cs : List Call) : Type 0 where
    pub fresh : doing d cs ≡ [] → calls d cs ≡ d
    pub committed : commit_on t plans ends d a.ticket ≡ does d a.ticket.member a.decision
    pub stale : ¬ (doing d cs ≡ []) → commit_on t plans ends (calls d cs) a.ticket ≡ refused 19

  pub record Tickets (d : Numbered ℕ) : Type 0 where
    pub alone : (cs : List Call) → CallsAlone d cs
    pub good : (j : ℕ) (a : Asked ℕ) → ask_on t plans ends d j ≡ gives a → (cs : List Call) → TicketGood d a cs
    -- a commit that is not refused does what an ask of its member answers there, and the ask gives its ticket
    pub answers : (k : Ticket) (p : Replied (Numbered ℕ)) → commit_on t plans ends d k ≡ gives p
        → (s : Decision ℕ)
        × (ask_on t plans ends d k.member ≡ gives (record { decision = s; ticket = k }))
        × (does d k.member s ≡ gives p)
    -- with the run's change number it is a pick
    pub is_pick : (j : ℕ) → commit_on t plans ends d (ticket_of d j) ≡ pick_numbered t plans ends d j

  -- plans in slices, as the dispatcher takes them, are the choice c
  abbrev pub InSlices : Choice (system t) → Type 0
  InSlices c = (plans_refusal t plans ends ≡ 0) × (plans_of (members t) plans ends ≡ c.plans)

-- the run of demand 3
abbrev pub made_run : (t : List ℕ) → Choice (system t) → List ℕ → Run ℕ
made_run t c js = play (system t) (waits t) c.plans (start (system t)) js

pub record PickedRuns (t plans ends : List ℕ) (c : Choice (system t)) : Type 0 where
  -- whatever is called from the start on, the run is one of demand 3: that of the picks done, of which there are no more
  -- than the plans have steps
  pub made : (cs : List Call)
      → (calls t plans ends (first t) cs).run ≡ made_run t c (map member_of (doing t plans ends (first t) cs))
  pub few : (cs : List Call) → (calls t plans ends (first t) cs).change ≤ length (flatten c.plans)
  -- the public pick done for each of the picks makes the run of all of them, while the change number is not the last
  pub each : (js : List ℕ) → (calls t plans ends (first t) (map picks js)).change < last_change
      → (calls t plans ends (first t) (map picks js)).run ≡ made_run t c js
  -- no pick is refused but an impossible one, and any at the last change number
  pub impossible : (cs : List Call) (j k : ℕ) → pick_numbered t plans ends (calls t plans ends (first t) cs) j ≡ refused k
      → (k ≡ 8) ⊎ (k ≡ 13) ⊎ ((k ≡ 20) × ((calls t plans ends (first t) cs).change ≡ last_change))
  -- the list of picks at once is the picks one by one
  pub at_once : (js : List ℕ) → play_on t plans ends (first t) js ≡ gives (calls t plans ends (first t) (map picks js))

-- For a task that is not refused: the start is given; plans that are not refused are a choice, and each choice can be
-- laid in slices; the dispatcher's picks make the choice's runs.
pub record Dispatcher (t : List ℕ) : Type 0 where
  pub starts : start_of t ≡ gives (first t)
  pub chosen : (plans ends : List ℕ) → plans_refusal t plans ends ≡ 0 → (c : Choice (system t)) × InSlices t plans ends c
  pub laid : (c : Choice (system t)) → (plans : List ℕ) × (ends : List ℕ) × InSlices t plans ends c
  pub runs : (plans ends : List ℕ) (c : Choice (system t)) → InSlices t plans ends c → PickedRuns t plans ends c
