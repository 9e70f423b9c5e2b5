-- `task::action_below` meets its contract. Assumes nothing.
use Rattle.task.proofs.Laws.{fits-row}
use Rattle.task.proofs.action_below.Goals as goal

pub returns : goal.returns
returns c = search fits-row
