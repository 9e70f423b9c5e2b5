-- `step::decide` meets its contract: one law for each way out. Assumes nothing.
use Rattle.step.proofs.Laws.{waits_there, goes-there, collides-there}
use Rattle.step.proofs.decide.Goals as goal

pub returns-then-waits : goal.returns-then-waits
returns-then-waits c = search waits_there

pub returns-in-Ok : goal.returns-in-Ok
returns-in-Ok c = search goes-there

pub returns-in-Err : goal.returns-in-Err
returns-in-Err c = search collides-there
