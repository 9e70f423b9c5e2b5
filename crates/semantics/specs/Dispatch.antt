-- The dispatcher: a run with its change number (request F-4). A pick on it, a list of picks, ask and commit.
use Rattle.std.specs.Prelude.{not, List, [], ◌∷◌, ℕ, ◌+◌, eqb, ltb}
use Rattle.semantics.specs.Base.{◌if◌, ◌else◌, Answer, refused, gives, unless}
use Rattle.semantics.specs.Task.{check, members}
use Rattle.semantics.specs.System.{System, Waits, system, waits}
use Rattle.semantics.specs.Step.{Decision, routine}
use Rattle.semantics.specs.Run.{Run, is_closed, Replied, rest, pass_over, start, pick, plans_of, run_refusal, pick_on}

-- a run with its change number: how many picks were done on it, a colliding one too
pub record Numbered (State : Type 0) : Type 0 where
  pub run : Run State
  pub change : ℕ

-- the last change number, of 32 bits: no pick is done on a run that has it
abbrev pub last_change : ℕ
last_change = 4294967295

-- what a pick's answer makes of the run: 20 at the last change number, else one more pick is done
abbrev pub counts : {State : Type 0} → Numbered State → Answer (Replied (Run State))
    → Answer (Replied (Numbered State))
counts d (refused k) = refused k
counts d (gives p) =
    unless (20 if eqb d.change last_change)
    (gives (record { reply = p.reply; run = record { run = p.run; change = d.change + 1 } }))

-- the asked pick: the member, and the change number of the run at which it was asked
pub record Ticket : Type 0 where
  pub member : ℕ
  pub change : ℕ

-- the step's answer, and the ticket for it
pub record Asked (State : Type 0) : Type 0 where
  pub decision : Decision State
  pub ticket : Ticket

abbrev pub ticketed : {State : Type 0} → Ticket → Answer (Decision State) → Answer (Asked State)
ticketed k (refused e) = refused e
ticketed k (gives d) = gives (record { decision = d; ticket = k })

module _ (S : System) (waits : Waits S) (plans : List (List ℕ)) where
  -- the answer of the first of these steps; 13 where there is none
  abbrev pub decided : S.State → List ℕ → Answer (Decision S.State)
  decided g [] = refused 13
  decided g (a ∷ p) = gives (routine S waits a g)

  -- the answer of member j's next step; or 8 no member, 13 the run is closed or no step is left
  unfoldable pub next_step : Run S.State → ℕ → Answer (Decision S.State)
  next_step r j =
      unless ((8 if not (ltb j S.members)) else (13 if is_closed r.closed)) (decided r.shared (rest plans r j))

  -- a list of picks, each meeting the run as the last one left it; a refused one is passed over
  unfoldable pub play_numbered : Numbered S.State → List ℕ → Numbered S.State
  play_numbered d [] = d
  play_numbered d (j ∷ js) = play_numbered (pass_over d (counts d (pick S waits plans d.run j))) js

-- ---- the operations: the run is handed in, any run

-- the run at the start
abbrev pub first : List ℕ → Numbered ℕ
first t = record { run = start (system t); change = 0 }

abbrev pub start_of : List ℕ → Answer (Numbered ℕ)
start_of t = unless (check t) (gives (first t))

module _ (t plans ends : List ℕ) where
  -- a pick: 20 after all that a run without a change number is refused for
  unfoldable pub pick_numbered : Numbered ℕ → ℕ → Answer (Replied (Numbered ℕ))
  pick_numbered d j = counts d (pick_on t plans ends d.run j)

  -- a list of picks
  unfoldable pub play_on : Numbered ℕ → List ℕ → Answer (Numbered ℕ)
  play_on d picks =
      unless (run_refusal t plans ends d.run)
      (gives (play_numbered (system t) (waits t) (plans_of (members t) plans ends) d picks))

  -- ask: what a pick of member j would meet, which may be a wait, and a ticket for it; nothing is changed
  unfoldable pub ask_on : Numbered ℕ → ℕ → Answer (Asked ℕ)
  ask_on d j =
      unless (run_refusal t plans ends d.run)
      (ticketed (record { member = j; change = d.change })
      (next_step (system t) (waits t) (plans_of (members t) plans ends) d.run j))

  -- commit: the ticket's pick, with 19 just after 8 for a ticket whose change number is not the run's
  unfoldable pub commit_on : Numbered ℕ → Ticket → Answer (Replied (Numbered ℕ))
  commit_on d k =
      unless
      (run_refusal t plans ends d.run
      else (8 if not (ltb k.member (members t)))
      else (19 if not (eqb k.change d.change)))
      (pick_numbered d k.member)
