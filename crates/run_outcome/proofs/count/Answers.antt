-- `run_outcome::count` meets its contract: one law for each reply. Assumes nothing.
use Rattle.run_outcome.proofs.Laws.{count-go, count-collision}
use Rattle.run_outcome.proofs.count.Goals as goal

pub returns-in-Go : goal.returns-in-Go
returns-in-Go c = search count-go

pub returns-in-Collision : goal.returns-in-Collision
returns-in-Collision c = search count-collision
