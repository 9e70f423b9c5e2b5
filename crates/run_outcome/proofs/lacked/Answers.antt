-- `run_outcome::lacked` meets its contract: one law for each reply. Assumes nothing.
use Rattle.run_outcome.proofs.Laws.{lacked-go, lacked-collision}
use Rattle.run_outcome.proofs.lacked.Goals as goal

pub returns-in-Go : goal.returns-in-Go
returns-in-Go c = search lacked-go

pub returns-in-Collision : goal.returns-in-Collision
returns-in-Collision c = search lacked-collision
