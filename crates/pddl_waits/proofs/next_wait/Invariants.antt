use Rattle.pddl_waits.proofs.Next.{Reads}
use Rattle.pddl_waits.proofs.next_wait.Given as goal

abbrev pub invariant-loop-i : goal.invariant-loop-i
invariant-loop-i l = Reads l.most l.waits l.from l.place l.action l.fact l.i
