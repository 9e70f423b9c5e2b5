use Prim.Native.Nat.{◌-◌}
use lib.ListN.{length}
use Rattle.semantics.specs.Pddl.{none_twice}
use Rattle.pddl_theory.proofs.Turns.{Asked}
use Rattle.pddl_form.specs.Inner.Place.{atoms_from}
use Rattle.pddl_list.proofs.distinct.Given as goal

abbrev pub invariant-loop-a : goal.invariant-loop-a
invariant-loop-a l = Asked none_twice (atoms_from l.text) l.at l.i

abbrev pub decreases-loop-a : goal.decreases-loop-a
decreases-loop-a l = length l.text - l.i
