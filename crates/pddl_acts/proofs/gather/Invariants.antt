use Prim.Native.Nat.{◌-◌}
use lib.ListN.{length}
use Rattle.pddl_acts.proofs.Tallying.{Tallying}
use Rattle.pddl_acts.proofs.gather.Given as goal

abbrev pub invariant-loop-a : goal.invariant-loop-a
invariant-loop-a l =
    Tallying l.facts.text.now l.facts.spans.now l.facts.more l.waits l.initial.table l.initial.names l.start l.owner
    l.first l.table l.names l.count l.known l.i

abbrev pub decreases-loop-a : goal.decreases-loop-a
decreases-loop-a l = length l.facts.text.now - l.i
