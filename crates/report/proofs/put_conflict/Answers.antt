-- `report::put_conflict` meets its contract. Assumes nothing.
use Rattle.semantics.specs.Base.{numbers_from}
use Rattle.theory.proofs.Laid.{laid-append}
use Rattle.report.specs.File.{word}
use Rattle.report.proofs.Laws.{room-then, same_values}
use Rattle.report.proofs.put_conflict.Goals as goal

pub put_lines-requires : goal.put_lines-requires
unfolding word numbers_from
put_lines-requires c =
    rw (same_values c.args.picks.now)
    (room-then c.requires c.put_plans-next.ensures c.put_plans-next.auto.out)

pub returns : goal.returns
unfolding word numbers_from
returns c =
    laid-append c.put_plans-next.ensures (rw (same_values c.args.picks.now) at c.put_lines.ensures)
