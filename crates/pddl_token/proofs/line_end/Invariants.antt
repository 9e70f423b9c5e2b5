use Rattle.pddl_token.proofs.Reading.{Noting}
use Rattle.pddl_token.proofs.line_end.Given as goal

abbrev pub invariant-loop-i : goal.invariant-loop-i
invariant-loop-i l = Noting l.text l.at l.i
