-- `pddl_write::count` meets its contract. Assumes nothing.
use native.Mathlib.Omega.{arith}
use Rattle.semantics.specs.PddlWrite.{own}
use Rattle.pddl_write.proofs.Laws.{counted-begin, counted-onward, counted-end}
use Rattle.pddl_write.proofs.count.Goals as goal

pub loop-a-init : goal.loop-a-init
loop-a-init c = counted-begin

pub overflow_add-n : goal.overflow_add-n
overflow_add-n c = omega (arith, c.loop-a.invariant.few, c.owned-n.ensures.upper_bound)

pub loop-a-preserved : goal.loop-a-preserved
loop-a-preserved c =
    counted-onward c.loop-a.invariant (omega (arith, c.actions-a-end.ensures)) c.owned-n.result c.owned-n.ensures.value

pub returns : goal.returns
unfolding own
returns c = counted-end c.loop-a.invariant (omega (arith, c.actions-a-end.ensures))
