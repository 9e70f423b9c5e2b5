-- `step::step` meets its contract: one law for each way out. Assumes nothing.
use Rattle.std.proofs.lemmas.Result.{err_from_is_err_and}
use Rattle.step.proofs.Laws.{step-task, step-action, step-shared, step-decides}
use Rattle.step.proofs.step.Goals as goal

pub returns-in_err-t : goal.returns-in_err-t
returns-in_err-t c =
    let p = err_from_is_err_and c.from_residual.result c.from_residual.ensures.1 in
    rw (p.1, p.2) (search (step-task, c.in_err-t.ensures))

pub returns-then-actions-a : goal.returns-then-actions-a
returns-then-actions-a c = let q = c.in_ok-t.ensures in search step-action

pub returns-then-not-below : goal.returns-then-not-below
returns-then-not-below c = let q = c.in_ok-t.ensures in search step-shared

pub returns : goal.returns
returns c = let q = c.in_ok-t.ensures in search step-decides
