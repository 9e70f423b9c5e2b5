use Prim.Native.Nat.{◌-◌}
use lib.ListN.{length}
use Rattle.pddl_waits.proofs.Pass.{Before}
use Rattle.pddl_waits.proofs.read.Given as goal

abbrev pub invariant-loop-w : goal.invariant-loop-w
invariant-loop-w l = Before l.waits l.initial.table l.table l.most l.i

abbrev pub decreases-loop-w : goal.decreases-loop-w
decreases-loop-w l = length l.waits - l.i
