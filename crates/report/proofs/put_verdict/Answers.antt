-- `report::put_verdict` meets its contract. Assumes nothing.
use Rattle.semantics.specs.Base.{numbers_from}
use Rattle.report.specs.File.{word}
use Rattle.report.proofs.put_verdict.Goals as goal

pub returns-in-Unsolvable : goal.returns-in-Unsolvable
unfolding word numbers_from
returns-in-Unsolvable c = rw c.in-Unsolvable.is c.put_short.ensures.laid

pub returns-in-Robust : goal.returns-in-Robust
unfolding word numbers_from
returns-in-Robust c = rw c.in-Robust.is c.put_short-in-Robust.ensures.laid
