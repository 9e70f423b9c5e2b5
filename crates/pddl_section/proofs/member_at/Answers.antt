-- `pddl_section::member_at` meets its contract: each step, or that none is there.
use Rattle.pddl_section.proofs.Chains.{no-domain, no-problem, a-member}
use Rattle.pddl_section.proofs.member_at.Goals as goal

pub returns-in_err-domain : goal.returns-in_err-domain
returns-in_err-domain c = rw c.from_residual.ensures (no-domain c.in_err-domain.ensures)

pub returns-in_err-problem : goal.returns-in_err-problem
returns-in_err-problem c =
    rw c.from_residual-in_err-problem.ensures (no-problem c.in_ok-domain.ensures c.in_err-problem.ensures)

pub returns : goal.returns
returns c = a-member c.in_ok-domain.ensures c.in_ok-problem.ensures
