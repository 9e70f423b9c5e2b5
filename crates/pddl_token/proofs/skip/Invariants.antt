use Prim.Native.Nat.{◌-◌}
use lib.ListN.{length}
use Rattle.pddl_token.proofs.Reading.{Skipping}
use Rattle.pddl_token.proofs.skip.Given as goal

abbrev pub invariant-loop-i : goal.invariant-loop-i
invariant-loop-i l = Skipping l.text l.at l.i

abbrev pub decreases-loop-i : goal.decreases-loop-i
decreases-loop-i l = length l.text - l.i
