-- `task::action_rows` meets its contract: the first refusal of all rows is that of the rows from a on. Assumes nothing.
use Rattle.std.proofs.lemmas.Result.{err_from_is_err_and}
use Rattle.theory.proofs.Loops.{rest-begin}
use Rattle.task.proofs.Refusals.{onward_up_to, out_up_to, end_up_to}
use Rattle.task.proofs.action_rows.Goals as goal

pub loop-a-init : goal.loop-a-init
loop-a-init c = search rest-begin

pub returns-in_err-action_row : goal.returns-in_err-action_row
returns-in_err-action_row c =
    let p = err_from_is_err_and c.from_residual.result c.from_residual.ensures.1 in
    rw (p.1, p.2) (search (out_up_to, c.in_err-action_row.ensures))

pub loop-a-preserved : goal.loop-a-preserved
loop-a-preserved c = search (onward_up_to, c.in_ok-action_row.ensures)

pub returns : goal.returns
returns c = search end_up_to
