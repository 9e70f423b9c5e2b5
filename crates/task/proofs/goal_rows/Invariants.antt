use Rattle.semantics.specs.Base.{up_to, first_refusal}
use Rattle.semantics.specs.Task.{goal_row, members}
use Rattle.theory.proofs.Loops.{Rest}
use Rattle.task.proofs.goal_rows.Given as goal

abbrev pub invariant-loop-i : goal.invariant-loop-i
invariant-loop-i l = Rest (first_refusal (goal_row l.t)) (up_to (members l.t)) l.i
