use Prim.Native.Nat.{◌-◌}
use lib.ListN.{length}
use Rattle.semantics.specs.Base.{all_of}
use Rattle.semantics.specs.Pddl.{is_in}
use Rattle.pddl_theory.proofs.Turns.{Asked}
use Rattle.pddl_form.specs.Inner.Place.{atoms_from}
use Rattle.pddl_list.proofs.covered.Given as goal

abbrev pub invariant-loop-x : goal.invariant-loop-x
invariant-loop-x l = Asked (all_of (is_in (atoms_from l.text l.b))) (atoms_from l.text) l.a l.i

abbrev pub decreases-loop-x : goal.decreases-loop-x
decreases-loop-x l = length l.text - l.i
