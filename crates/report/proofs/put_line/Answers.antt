-- `report::put_line` meets its contract. Assumes nothing.
use Rattle.theory.proofs.Laid.{laid-append}
use Rattle.report.proofs.put_line.Goals as goal

pub returns : goal.returns
returns c =
    laid-append c.put-comma.ensures
    (laid-append c.put_byte-number.ensures
    (laid-append c.put_number-cr.ensures (laid-append c.put_byte-lf.ensures c.put_byte.ensures)))
