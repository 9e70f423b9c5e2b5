-- `report::put_fact` meets its contract: one law for each way out. Assumes nothing.
use Rattle.semantics.specs.Base.{numbers_from}
use Rattle.report.specs.File.{word}
use Rattle.report.proofs.Laws.{fact-room, fact-put}
use Rattle.report.proofs.put_fact.Goals as goal

pub put_line-requires : goal.put_line-requires
unfolding word numbers_from
put_line-requires c = search fact-room

pub returns-then-has : goal.returns-then-has
unfolding word numbers_from
returns-then-has c = search fact-put
