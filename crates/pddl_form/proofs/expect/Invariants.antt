use Prim.Native.Nat.{◌-◌}
use lib.ListN.{length}
use Rattle.pddl_form.proofs.Tokens.{Expecting}
use Rattle.pddl_form.proofs.expect.Given as goal

abbrev pub invariant-loop-t : goal.invariant-loop-t
invariant-loop-t l = Expecting l.text l.initial.i l.pattern l.i l.j

abbrev pub decreases-loop-t : goal.decreases-loop-t
decreases-loop-t l = length l.pattern - l.j
