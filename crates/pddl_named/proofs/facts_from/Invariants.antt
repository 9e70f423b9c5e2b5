use Prim.Native.Nat.{◌-◌}
use lib.ListN.{length}
use Rattle.pddl_named.proofs.Gathering.{Gathering}
use Rattle.pddl_named.proofs.facts_from.Given as goal

abbrev pub invariant-loop-a : goal.invariant-loop-a
invariant-loop-a l = Gathering l.names.text.now l.names.spans.now l.names.more l.at l.mask l.known l.i

abbrev pub decreases-loop-a : goal.decreases-loop-a
decreases-loop-a l = length l.names.text.now - l.i
