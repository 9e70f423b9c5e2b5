-- `task::sized` meets its contract: n and m are in their ranges, so the product fits. Assumes nothing.
use Rattle.task.proofs.Laws.{head_bounds}
use native.Mathlib.Omega.{arith}
use Rattle.task.proofs.sized.Goals as goal

pub overflow_add-result : goal.overflow_add-result
overflow_add-result c =
    let b =
    head_bounds c.args.t.now c.requires.t_value in omega (arith, b.0, b.1)

pub overflow_add-result-2 : goal.overflow_add-result-2
overflow_add-result-2 c =
    let b =
    head_bounds c.args.t.now c.requires.t_value in omega (arith, b.0, b.1)

pub overflow_mul-result : goal.overflow_mul-result
overflow_mul-result c =
    let b =
    head_bounds c.args.t.now c.requires.t_value in omega (arith, b.0, b.1)
