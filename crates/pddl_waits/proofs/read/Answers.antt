-- `pddl_waits::read` meets its contract. Assumes nothing.
use Rattle.pddl_waits.proofs.Pass.{begin, onward, end}
use Rattle.pddl_waits.proofs.read.Goals as goal

pub loop-w-init : goal.loop-w-init
loop-w-init c = search begin

pub loop-w-preserved : goal.loop-w-preserved
loop-w-preserved c =
    onward c.loop-w.invariant _ _ _ (rw c.in-Some.is at c.in_ok-w.ensures) _ c.add.ensures _ c.grown.ensures

pub returns : goal.returns
returns c = end c.loop-w.invariant (rw c.in_default.is at c.in_ok-w.ensures)
