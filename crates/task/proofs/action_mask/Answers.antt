-- `task::action_mask` meets its contract. Assumes nothing.
use Rattle.task.proofs.Laws.{mask-row}
use Rattle.task.proofs.action_mask.Goals as goal

pub returns : goal.returns
returns c = search mask-row
