use Rattle.semantics.specs.Task.{actions}
use Rattle.pddl_write.specs.Inner.Put.{is_own}
use Rattle.pddl_write.proofs.Laws.{Counted}
use Rattle.pddl_write.proofs.count.Given as goal

abbrev pub invariant-loop-a : goal.invariant-loop-a
invariant-loop-a l = Counted (is_own l.m.task.words.now l.m.index) (actions l.m.task.words.now) l.n l.a
