-- `run_dispatch::start` meets its contract: one law for each way out. Assumes nothing.
use Rattle.run_dispatch.proofs.Laws.{start-refused, start-given}
use Rattle.run_dispatch.proofs.start.Goals as goal

pub returns-in-Err : goal.returns-in-Err
returns-in-Err c = let q = c.in-Err.ensures in search start-refused

pub returns-in-Ok : goal.returns-in-Ok
returns-in-Ok c = let q = c.in-Ok.ensures in search start-given
