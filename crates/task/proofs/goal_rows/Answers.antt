-- `task::goal_rows` meets its contract: the first refusal of all rows is that of the rows from i on. Assumes nothing.
use Rattle.std.proofs.lemmas.Result.{err_from_is_err_and}
use Rattle.theory.proofs.Loops.{rest-begin}
use Rattle.task.proofs.Refusals.{onward_up_to, out_up_to, end_up_to}
use Rattle.task.proofs.goal_rows.Goals as goal

pub loop-i-init : goal.loop-i-init
loop-i-init c = search rest-begin

pub returns-in_err-goal_row : goal.returns-in_err-goal_row
returns-in_err-goal_row c =
    let p = err_from_is_err_and c.from_residual.result c.from_residual.ensures.1 in
    rw (p.1, p.2) (search (out_up_to, c.in_err-goal_row.ensures))

pub loop-i-preserved : goal.loop-i-preserved
loop-i-preserved c = search (onward_up_to, c.in_ok-goal_row.ensures)

pub returns : goal.returns
returns c = search end_up_to
