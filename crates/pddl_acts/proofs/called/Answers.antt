-- `pddl_acts::called` meets its contract.
use Rattle.pddl_acts.proofs.Named.{called-found, called_on, called-end}
use Rattle.pddl_acts.proofs.called.Goals as goal

pub returns-then-same : goal.returns-then-same
returns-then-same c = called-found _ c.loop-a.invariant c.in-Some.ensures _ c.same.ensures c.if-same.true

pub loop-a-preserved : goal.loop-a-preserved
loop-a-preserved c = called_on _ c.loop-a.invariant c.in-Some.ensures _ c.same.ensures c.if-same.false

pub returns : goal.returns
returns c = called-end _ c.loop-a.invariant c.in_default.ensures
