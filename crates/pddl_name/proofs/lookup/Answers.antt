-- `pddl_name::lookup` meets its contract.
use Rattle.pddl_name.proofs.Looking.{look_begin, look_found, look_on, look_end}
use Rattle.pddl_name.proofs.lookup.Goals as goal

pub loop-k-init : goal.loop-k-init
loop-k-init c = search look_begin

pub returns-then-same : goal.returns-then-same
returns-then-same c =
    look_found c.loop-k.invariant c.loop-k-test.true _ c.same.result c.same.ensures
    c.if-same.true

pub loop-k-preserved : goal.loop-k-preserved
loop-k-preserved c =
    look_on c.loop-k.invariant c.loop-k-test.true _ c.same.result c.same.ensures c.if-same.false

pub returns : goal.returns
returns c = search look_end
