-- `run_play::play_into` meets its contract: one law for each way out. Assumes nothing.
use Rattle.run_play.proofs.Laws.{into-refused, into-given}
use Rattle.run_play.proofs.play_into.Goals as goal

pub returns-in-Err : goal.returns-in-Err
returns-in-Err c = let q = c.in-Err.ensures in search into-refused

pub returns-in-Ok : goal.returns-in-Ok
returns-in-Ok c = let q = c.in-Ok.ensures in search into-given
