use Prim.Native.Nat.{◌-◌}
use lib.ListN.{length}
use Rattle.pddl_named.proofs.Passing.{Passing}
use Rattle.pddl_named.proofs.all_named.Given as goal

abbrev pub invariant-loop-m : goal.invariant-loop-m
invariant-loop-m l =
    Passing l.shared.text.now l.shared.spans.now l.shared.common l.waits l.initial.table l.initial.goals l.table l.goals
    l.owner l.count l.i

abbrev pub decreases-loop-m : goal.decreases-loop-m
decreases-loop-m l = length l.shared.text.now - l.i
