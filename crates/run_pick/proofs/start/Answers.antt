-- `run_pick::start` meets its contract. Assumes nothing.
use Rattle.run_pick.proofs.Laws.{starts}
use Rattle.run_pick.proofs.start.Goals as goal

pub returns : goal.returns
returns c = search starts
