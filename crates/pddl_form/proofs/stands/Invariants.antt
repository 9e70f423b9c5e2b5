use Prim.Native.Nat.{◌-◌}
use lib.ListN.{length}
use Rattle.pddl_theory.specs.Inner.Place.{span}
use Rattle.pddl_form.proofs.Lists.{Seeking}
use Rattle.pddl_form.proofs.stands.Given as goal

abbrev pub invariant-loop-a : goal.invariant-loop-a
invariant-loop-a l = Seeking l.text l.at (span l.text l.s l.e) l.i

abbrev pub decreases-loop-a : goal.decreases-loop-a
decreases-loop-a l = length l.text - l.i
