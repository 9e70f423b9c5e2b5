-- `report::put_fault` meets its contract. Assumes nothing.
use Rattle.semantics.specs.Base.{numbers_from}
use Rattle.report.specs.File.{word}
use Rattle.report.proofs.put_fault.Goals as goal

pub returns-in-Collision-clause-laid : goal.returns-in-Collision-clause-laid
unfolding word numbers_from
returns-in-Collision-clause-laid c = rw c.in-Collision.is c.put_short.ensures.laid

pub returns-in-Deadlock-clause-laid : goal.returns-in-Deadlock-clause-laid
unfolding word numbers_from
returns-in-Deadlock-clause-laid c = rw c.in-Deadlock.is c.put_short-in-Deadlock.ensures.laid

pub returns-in-Missed-clause-laid : goal.returns-in-Missed-clause-laid
unfolding word numbers_from
returns-in-Missed-clause-laid c = rw c.in-Missed.is c.put_short-in-Missed.ensures.laid
