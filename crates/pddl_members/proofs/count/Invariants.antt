use Prim.Native.Nat.{◌-◌}
use lib.ListN.{length}
use Rattle.pddl_members.proofs.Counting.{Counting}
use Rattle.pddl_members.proofs.count.Given as goal

abbrev pub invariant-loop-m : goal.invariant-loop-m
invariant-loop-m l = Counting l.text l.initial.table l.table l.n l.kept l.i

abbrev pub decreases-loop-m : goal.decreases-loop-m
decreases-loop-m l = length l.text - l.i
