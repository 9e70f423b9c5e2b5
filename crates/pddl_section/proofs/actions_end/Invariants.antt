use Prim.Native.Nat.{◌-◌}
use lib.ListN.{length}
use Rattle.pddl_section.proofs.Lists.{Acting}
use Rattle.pddl_section.proofs.actions_end.Given as goal

abbrev pub invariant-loop-a : goal.invariant-loop-a
invariant-loop-a l = Acting l.text l.at l.i

abbrev pub decreases-loop-a : goal.decreases-loop-a
decreases-loop-a l = length l.text - l.i
