-- `task::rows` meets its contract: one law for each way out. Assumes nothing.
use Rattle.std.proofs.lemmas.Result.{err_from_is_err_and}
use Rattle.refusal.proofs.Laws.{first-refuses, second-decides}
use Rattle.task.proofs.rows.Goals as goal

pub returns-in_err-goal_rows : goal.returns-in_err-goal_rows
returns-in_err-goal_rows c =
    let p = err_from_is_err_and c.from_residual.result c.from_residual.ensures.1 in
    rw (p.1, p.2) (search (first-refuses, c.in_err-goal_rows.ensures))

pub returns : goal.returns
returns c = search (second-decides, c.in_ok-goal_rows.ensures)
