-- `report::put_body` meets its contract. Assumes nothing.
use Rattle.semantics.specs.Base.{numbers_from}
use Rattle.report.specs.File.{word}
use Rattle.report.proofs.put_body.Goals as goal

pub returns-in-Err : goal.returns-in-Err
unfolding word numbers_from
returns-in-Err c = rw c.in-Err.is c.put_short.ensures.laid
