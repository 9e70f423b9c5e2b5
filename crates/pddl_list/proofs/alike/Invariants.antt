use Prim.Native.Nat.{◌-◌}
use lib.ListN.{length}
use Rattle.pddl_list.proofs.Asking.{Comparing}
use Rattle.pddl_list.proofs.alike.Given as goal

abbrev pub invariant-loop-x : goal.invariant-loop-x
invariant-loop-x l = Comparing l.text l.a l.b l.i l.j

abbrev pub decreases-loop-x : goal.decreases-loop-x
decreases-loop-x l = length l.text - l.i
