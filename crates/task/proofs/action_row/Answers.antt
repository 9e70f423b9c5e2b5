-- `task::action_row` meets its contract: one law for each way out. Assumes nothing.
use Rattle.task.proofs.Laws.{no-owner, masks_above, wait-outside, action-right}
use Rattle.task.proofs.action_row.Goals as goal

pub returns-then-n-o : goal.returns-then-n-o
returns-then-n-o c = search no-owner

pub returns-then-not-masks_below : goal.returns-then-not-masks_below
returns-then-not-masks_below c = search masks_above

pub returns-then-not-wait_in_pre : goal.returns-then-not-wait_in_pre
returns-then-not-wait_in_pre c = search wait-outside

pub returns : goal.returns
returns c = search action-right
