-- `run_outcome::outcome_of` meets its contract: one law for each way out. Assumes nothing.
use Rattle.run_outcome.proofs.Laws.{out-closed, out_open, out-deadlock, out-rest}
use Rattle.run_outcome.proofs.outcome_of.Goals as goal

pub returns-in-Some : goal.returns-in-Some
returns-in-Some c = search out-closed

pub returns-then-pickable : goal.returns-then-pickable
returns-then-pickable c = search out_open

pub returns-then-steps_left : goal.returns-then-steps_left
returns-then-steps_left c = search out-deadlock

pub returns : goal.returns
returns c = search out-rest
