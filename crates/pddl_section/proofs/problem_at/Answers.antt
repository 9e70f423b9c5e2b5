-- `pddl_section::problem_at` meets its contract: each step, or that none is there.
use Rattle.pddl_section.proofs.Chains.{problem_1, problem_2, problem_3, problem_4, problem_5, problem_6, problem_7}
use Rattle.pddl_section.proofs.Chains.{problem_8, problem_9, a-problem}
use Rattle.pddl_section.proofs.problem_at.Goals as goal

pub returns-in_err-a : goal.returns-in_err-a
returns-in_err-a c = rw c.from_residual.ensures (problem_1 c.in_err-a.ensures)

pub returns-in_err-name : goal.returns-in_err-name
returns-in_err-name c = rw c.from_residual-in_err-name.ensures (problem_2 c.in_ok-a.ensures c.in_err-name.ensures)

pub returns-in_err-b : goal.returns-in_err-b
returns-in_err-b c =
    rw c.from_residual-in_err-b.ensures (problem_3 c.in_ok-a.ensures c.in_ok-name.ensures c.in_err-b.ensures)

pub returns-in_err-of : goal.returns-in_err-of
returns-in_err-of c =
    rw c.from_residual-in_err-of.ensures (problem_4 c.in_ok-a.ensures c.in_ok-name.ensures c.in_ok-b.ensures
    c.in_err-of.ensures)

pub returns-in_err-c : goal.returns-in_err-c
returns-in_err-c c =
    rw c.from_residual-in_err-c.ensures (problem_5 c.in_ok-a.ensures c.in_ok-name.ensures c.in_ok-b.ensures
    c.in_ok-of.ensures c.in_err-c.ensures)

pub returns-in_err-d : goal.returns-in_err-d
returns-in_err-d c = absurd c.in_err-d.ensures.onward

pub returns-in_err-goal : goal.returns-in_err-goal
returns-in_err-goal c =
    rw c.from_residual-in_err-goal.ensures (problem_6 c.in_ok-a.ensures c.in_ok-name.ensures c.in_ok-b.ensures
    c.in_ok-of.ensures c.in_ok-c.ensures c.in_ok-d.ensures c.in_err-goal.ensures)

pub returns-in_err-f : goal.returns-in_err-f
returns-in_err-f c =
    rw c.from_residual-in_err-f.ensures (problem_7 c.in_ok-a.ensures c.in_ok-name.ensures c.in_ok-b.ensures
    c.in_ok-of.ensures c.in_ok-c.ensures c.in_ok-d.ensures c.in_ok-goal.ensures c.in_err-f.ensures)

pub returns-in_err-g : goal.returns-in_err-g
returns-in_err-g c =
    rw c.from_residual-in_err-g.ensures (problem_8 c.in_ok-a.ensures c.in_ok-name.ensures c.in_ok-b.ensures
    c.in_ok-of.ensures c.in_ok-c.ensures c.in_ok-d.ensures c.in_ok-goal.ensures c.in_ok-f.ensures
    c.in_err-g.ensures)

pub returns-in_err-next : goal.returns-in_err-next
returns-in_err-next c =
    rw c.from_residual-in_err-next.ensures (problem_9 c.in_ok-a.ensures c.in_ok-name.ensures c.in_ok-b.ensures
    c.in_ok-of.ensures c.in_ok-c.ensures c.in_ok-d.ensures c.in_ok-goal.ensures c.in_ok-f.ensures
    c.in_ok-g.ensures c.in_err-next.ensures)

pub returns : goal.returns
returns c =
    a-problem c.in_ok-a.ensures c.in_ok-name.ensures c.in_ok-b.ensures c.in_ok-of.ensures c.in_ok-c.ensures
    c.in_ok-d.ensures c.in_ok-goal.ensures c.in_ok-f.ensures c.in_ok-g.ensures c.in_ok-next.ensures
