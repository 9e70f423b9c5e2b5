use Rattle.semantics.specs.Task.{actions}
use Rattle.pddl_write.specs.Inner.Put.{is_own}
use Rattle.pddl_write.specs.Inner.Parts.{of_action}
use Rattle.pddl_write.proofs.Laws.{Turns}
use Rattle.pddl_write.proofs.put_actions.Given as goal

abbrev pub invariant-loop-index : goal.invariant-loop-index
invariant-loop-index l =
    Turns (of_action l.part l.m.task.words.now) (is_own l.m.task.words.now l.m.index) (actions l.m.task.words.now)
    l.m.first l.initial.out l.at l.out l.next l.number l.index
