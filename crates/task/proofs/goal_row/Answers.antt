-- `task::goal_row` meets its contract: one law for each way out. Assumes nothing.
use Rattle.task.proofs.Laws.{wrong_member, wrong_zeros, goal_above, goal-right}
use Rattle.task.proofs.goal_row.Goals as goal

pub returns-then-word-i : goal.returns-then-word-i
returns-then-word-i c = search wrong_member

pub returns-then-not-zeros : goal.returns-then-not-zeros
returns-then-not-zeros c = search wrong_zeros

pub returns-then-not-below : goal.returns-then-not-below
returns-then-not-below c = search goal_above

pub returns : goal.returns
returns c = search goal-right
