use Prim.Native.Nat.{◌-◌}
use lib.ListN.{length}
use Rattle.semantics.specs.Pddl.{same}
use Rattle.semantics.specs.Base.{any_of}
use Rattle.pddl_theory.specs.Inner.Place.{span}
use Rattle.pddl_acts.specs.Inner.Names.{called_from}
use Rattle.pddl_theory.proofs.Turns.{Asked}
use Rattle.pddl_acts.proofs.called.Given as goal

abbrev pub invariant-loop-a : goal.invariant-loop-a
invariant-loop-a l = Asked (any_of (same (span l.text l.s l.e))) (called_from l.text) l.at l.i

abbrev pub decreases-loop-a : goal.decreases-loop-a
decreases-loop-a l = length l.text - l.i
