-- `task::wait_in_pre` meets its contract. Assumes nothing.
use Rattle.task.proofs.Laws.{within-is}
use Rattle.task.proofs.wait_in_pre.Goals as goal

pub returns : goal.returns
returns c = search within-is
