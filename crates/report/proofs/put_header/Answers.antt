-- `report::put_header` meets its contract. Assumes nothing.
use borrow.Author.Rules.{rules}
use Rattle.semantics.specs.Base.{numbers_from}
use Rattle.report.specs.File.{word}
use Rattle.report.proofs.put_header.Goals as goal

pub put-requires : goal.put-requires
unfolding word numbers_from
put-requires c = search rules

pub returns : goal.returns
unfolding word numbers_from
returns c = search rules
