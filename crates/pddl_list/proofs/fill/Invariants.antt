use Rattle.pddl_theory.specs.Inner.Limits.{most_facts}
use Rattle.pddl_form.specs.Inner.Place.{atoms_from}
use Rattle.pddl_list.proofs.Filling.{Filling}
use Rattle.pddl_list.proofs.fill.Given as goal

abbrev pub invariant-loop-n : goal.invariant-loop-n
invariant-loop-n l = Filling most_facts (atoms_from l.text) l.text l.at l.initial.spans l.spans l.n l.i
