-- `task::masks_below` meets its contract: one law for each way out. Assumes nothing.
use Rattle.task.proofs.Laws.{pre_above, wait_above, add_above, masks-last}
use Rattle.task.proofs.masks_below.Goals as goal

pub returns-then-not-action_below : goal.returns-then-not-action_below
returns-then-not-action_below c = search pre_above

pub returns-then-not-action_below-2 : goal.returns-then-not-action_below-2
returns-then-not-action_below-2 c = search wait_above

pub returns-then-not-action_below-3 : goal.returns-then-not-action_below-3
returns-then-not-action_below-3 c = search add_above

pub returns : goal.returns
returns c = search masks-last
