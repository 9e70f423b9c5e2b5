-- `pddl_acts::distinct_from` meets its contract.
use Rattle.pddl_acts.proofs.Named.{distinct-not, distinct-on, distinct-end}
use Rattle.pddl_acts.proofs.distinct_from.Goals as goal

pub returns-then-called : goal.returns-then-called
returns-then-called c = distinct-not c.loop-a.invariant c.in-Some.ensures _ c.called.ensures c.if-called.true

pub loop-a-preserved : goal.loop-a-preserved
loop-a-preserved c = distinct-on c.loop-a.invariant c.in-Some.ensures _ c.called.ensures c.if-called.false

pub returns : goal.returns
returns c = distinct-end c.loop-a.invariant c.in_default.ensures
