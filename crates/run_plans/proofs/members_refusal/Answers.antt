-- `run_plans::members_refusal` meets its contract: the first refusal of all plans is that of the plans from j on.
-- Assumes nothing.
use Rattle.std.proofs.lemmas.Result.{err_from_is_err_and}
use Rattle.theory.proofs.Loops.{rest-begin}
use Rattle.task.proofs.Refusals.{onward_up_to, out_up_to, end_up_to}
use Rattle.run_plans.proofs.members_refusal.Goals as goal

pub loop-j-init : goal.loop-j-init
loop-j-init c = search rest-begin

pub returns-in_err-member_refusal : goal.returns-in_err-member_refusal
returns-in_err-member_refusal c =
    let p = err_from_is_err_and c.from_residual.result c.from_residual.ensures.1 in
    rw (p.1, p.2) (search (out_up_to, c.in_err-member_refusal.ensures))

pub loop-j-preserved : goal.loop-j-preserved
loop-j-preserved c = let q = c.in_ok-member_refusal.ensures in search onward_up_to

pub returns : goal.returns
returns c = search end_up_to
