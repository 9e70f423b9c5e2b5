-- `pddl_section::domain_at` meets its contract: each step, or that none is there.
use Rattle.pddl_section.proofs.Chains.{domain_1, domain_2, domain_3, domain_4, domain_5, a-domain}
use Rattle.pddl_section.proofs.domain_at.Goals as goal

pub returns-in_err-a : goal.returns-in_err-a
returns-in_err-a c = rw c.from_residual.ensures (domain_1 c.in_err-a.ensures)

pub returns-in_err-name : goal.returns-in_err-name
returns-in_err-name c = rw c.from_residual-in_err-name.ensures (domain_2 c.in_ok-a.ensures c.in_err-name.ensures)

pub returns-in_err-predicates : goal.returns-in_err-predicates
returns-in_err-predicates c =
    rw c.from_residual-in_err-predicates.ensures (domain_3 c.in_ok-a.ensures c.in_ok-name.ensures
    c.in_err-predicates.ensures)

pub returns-in_err-c : goal.returns-in_err-c
returns-in_err-c c = absurd c.in_err-c.ensures.onward

pub returns-in_err-actions : goal.returns-in_err-actions
returns-in_err-actions c =
    rw c.from_residual-in_err-actions.ensures (domain_4 c.in_ok-a.ensures c.in_ok-name.ensures
    c.in_ok-predicates.ensures c.in_ok-c.ensures c.in_err-actions.ensures)

pub returns-in_err-next : goal.returns-in_err-next
returns-in_err-next c =
    rw c.from_residual-in_err-next.ensures (domain_5 c.in_ok-a.ensures c.in_ok-name.ensures
    c.in_ok-predicates.ensures c.in_ok-c.ensures c.in_ok-actions.ensures c.actions_end-e.ensures
    c.in_err-next.ensures)

pub returns : goal.returns
returns c =
    a-domain c.in_ok-a.ensures c.in_ok-name.ensures c.in_ok-predicates.ensures c.in_ok-c.ensures
    c.in_ok-actions.ensures c.actions_end-e.ensures c.in_ok-next.ensures
