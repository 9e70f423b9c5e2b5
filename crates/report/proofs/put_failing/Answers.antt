-- `report::put_failing` meets its contract. Assumes nothing.
use Rattle.theory.proofs.Laid.{laid-append}
use Rattle.report.proofs.put_failing.Goals as goal

pub returns : goal.returns
returns c =
    laid-append c.put_fault-missing.ensures.laid
    (laid-append c.put_missing-next.ensures (rw c.pick_count-count.ensures at c.put_conflict.ensures))
