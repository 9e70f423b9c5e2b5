use Rattle.pddl_token.proofs.Reading.{Wording}
use Rattle.pddl_token.proofs.word_end.Given as goal

abbrev pub invariant-loop-i : goal.invariant-loop-i
invariant-loop-i l = Wording l.text l.start l.at l.i
