use Prim.Native.Nat.{◌-◌}
use lib.ListN.{length}
use Rattle.pddl_form.proofs.Lists.{Passing}
use Rattle.pddl_form.proofs.atoms_at.Given as goal

abbrev pub invariant-loop-a : goal.invariant-loop-a
invariant-loop-a l = Passing l.text l.initial.i l.i

abbrev pub decreases-loop-a : goal.decreases-loop-a
decreases-loop-a l = length l.text - l.i
