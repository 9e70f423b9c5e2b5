use Rattle.pddl_write.proofs.Laws.{Across}
use Rattle.pddl_write.proofs.put_text.Given as goal

abbrev pub invariant-loop-index : goal.invariant-loop-index
invariant-loop-index l = Across l.part l.t.words.now l.initial.out l.out l.next l.first l.index
