-- `step::waits` meets its contract. Assumes nothing.
use Rattle.step.proofs.Laws.{waits-is}
use Rattle.step.proofs.waits.Goals as goal

pub returns : goal.returns
returns c = search waits-is
