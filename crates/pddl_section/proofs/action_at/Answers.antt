-- `pddl_section::action_at` meets its contract: each step, or that none is there.
use Rattle.pddl_section.proofs.Chains.{action_1, action_2, action_3, action_4, action_5, action_6, action_7, an_action}
use Rattle.pddl_section.proofs.action_at.Goals as goal

pub returns-in_err-a-clause-acts : goal.returns-in_err-a-clause-acts
returns-in_err-a-clause-acts c = rw (c.in_ok-first.was, c.from_residual-in_err-a.ensures) (action_1 c.in_err-a.ensures)

pub returns-in_err-name-clause-acts : goal.returns-in_err-name-clause-acts
returns-in_err-name-clause-acts c =
    rw (c.in_ok-first.was, c.from_residual-in_err-name.ensures) (action_2 c.in_ok-a.ensures c.in_err-name.ensures)

pub returns-in_err-precondition-clause-acts : goal.returns-in_err-precondition-clause-acts
returns-in_err-precondition-clause-acts c =
    rw (c.in_ok-first.was, c.from_residual-in_err-precondition.ensures) (action_3 c.in_ok-a.ensures c.in_ok-name.ensures
    c.in_err-precondition.ensures)

pub returns-in_err-needed-clause-acts : goal.returns-in_err-needed-clause-acts
returns-in_err-needed-clause-acts c =
    rw (c.in_ok-first.was, c.from_residual-in_err-needed.ensures) (action_4 c.in_ok-a.ensures c.in_ok-name.ensures
    c.in_ok-precondition.ensures c.in_err-needed.ensures)

pub returns-in_err-effect-clause-acts : goal.returns-in_err-effect-clause-acts
returns-in_err-effect-clause-acts c =
    rw (c.in_ok-first.was, c.from_residual-in_err-effect.ensures) (action_5 c.in_ok-a.ensures c.in_ok-name.ensures
    c.in_ok-precondition.ensures c.in_ok-needed.ensures c.in_err-effect.ensures)

pub returns-in_err-changed-clause-acts : goal.returns-in_err-changed-clause-acts
returns-in_err-changed-clause-acts c =
    rw (c.in_ok-first.was, c.from_residual-in_err-changed.ensures) (action_6 c.in_ok-a.ensures c.in_ok-name.ensures
    c.in_ok-precondition.ensures c.in_ok-needed.ensures c.in_ok-effect.ensures c.in_err-changed.ensures)

pub returns-in_err-next-clause-acts : goal.returns-in_err-next-clause-acts
returns-in_err-next-clause-acts c =
    rw (c.in_ok-first.was, c.from_residual-in_err-next.ensures) (action_7 c.in_ok-a.ensures c.in_ok-name.ensures
    c.in_ok-precondition.ensures c.in_ok-needed.ensures c.in_ok-effect.ensures c.in_ok-changed.ensures
    c.in_err-next.ensures)

pub returns-clause-acts : goal.returns-clause-acts
returns-clause-acts c =
    rw c.in_ok-first.was (an_action c.in_ok-a.ensures c.in_ok-name.ensures c.in_ok-precondition.ensures
    c.in_ok-needed.ensures c.in_ok-effect.ensures c.in_ok-changed.ensures c.in_ok-next.ensures)
