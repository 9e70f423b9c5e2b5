-- `run_plans::plan_refusal` meets its contract: one law for each way out. Assumes nothing.
use Rattle.std.proofs.lemmas.Result.{err_from_is_err_and}
use Rattle.run_plans.proofs.Laws.{plan-refused, plan-solves, plan-breaks, plan-short}
use Rattle.run_plans.proofs.plan_refusal.Goals as goal

pub returns-in_err-plan_refusal : goal.returns-in_err-plan_refusal
returns-in_err-plan_refusal c =
    let p = err_from_is_err_and c.from_residual.result c.from_residual.ensures.1 in
    rw (p.1, p.2) (search (plan-refused, c.in_err-plan_refusal.ensures))

pub returns-in-Solves : goal.returns-in-Solves
returns-in-Solves c = let q = c.in_ok-plan_refusal.ensures in search plan-solves

pub returns-in-Breaks : goal.returns-in-Breaks
returns-in-Breaks c = let q = c.in_ok-plan_refusal.ensures in search plan-breaks

pub returns-in-Short : goal.returns-in-Short
returns-in-Short c = let q = c.in_ok-plan_refusal.ensures in search plan-short
