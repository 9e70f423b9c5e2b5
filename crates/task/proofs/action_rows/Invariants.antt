use Rattle.semantics.specs.Base.{up_to, first_refusal}
use Rattle.semantics.specs.Task.{action_row, actions}
use Rattle.theory.proofs.Loops.{Rest}
use Rattle.task.proofs.action_rows.Given as goal

abbrev pub invariant-loop-a : goal.invariant-loop-a
invariant-loop-a l = Rest (first_refusal (action_row l.t)) (up_to (actions l.t)) l.a
