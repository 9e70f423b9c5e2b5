-- `run_plans::check` meets its contract: one law for each way out. Assumes nothing.
use Rattle.std.proofs.lemmas.Result.{err_from_is_err_and}
use Rattle.run_plans.proofs.Laws.{refuses-task, refuses-ends, refuses-plans, plans-accepted, fits-there}
use Rattle.run_plans.proofs.check.Goals as goal

pub returns-in_err-task-clause-refusal : goal.returns-in_err-task-clause-refusal
returns-in_err-task-clause-refusal c =
    let p = err_from_is_err_and c.from_residual.result c.from_residual.ensures.1 in
    rw (p.1, p.2) (search (refuses-task, c.in_err-task.ensures))

pub returns-then-not-ends_fit-clause-refusal : goal.returns-then-not-ends_fit-clause-refusal
returns-then-not-ends_fit-clause-refusal c = let q = c.in_ok-task.ensures in search refuses-ends

pub members_refusal-requires : goal.members_refusal-requires
members_refusal-requires c = search fits-there

pub returns-in_err-members_refusal-clause-refusal : goal.returns-in_err-members_refusal-clause-refusal
returns-in_err-members_refusal-clause-refusal c =
    let q = c.in_ok-task.ensures in
    let from = c.from_residual-in_err-members_refusal in
    let p = err_from_is_err_and from.result from.ensures.1 in
    rw (p.1, p.2) (search (refuses-plans, c.in_err-members_refusal.ensures))

pub returns-clause-refusal : goal.returns-clause-refusal
returns-clause-refusal c =
    let q = c.in_ok-task.ensures in
    let q₁ = c.in_ok-members_refusal.ensures in
    search refuses-plans

pub invariant_of-result : goal.invariant_of-result
invariant_of-result c = let q = c.in_ok-members_refusal.ensures in search plans-accepted
