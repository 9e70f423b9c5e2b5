use Rattle.std.proofs.Common.{length, ◌+◌, ◌-◌, ◌*◌}
use Rattle.pddl_formula.proofs.Lists.{Listing}
use Rattle.pddl_formula.proofs.+formula_formulas.Given as goal

abbrev pub decreases-formula : goal.decreases-formula
decreases-formula l = 2 * l.allowed

abbrev pub decreases-formulas : goal.decreases-formulas
decreases-formulas l = 2 * l.allowed + 1

abbrev pub invariant-formulas-loop-n : goal.invariant-formulas-loop-n
invariant-formulas-loop-n l =
    Listing l.names.text.now l.names.spans.now l.names.more l.negations l.allowed l.at l.adds l.dels l.known l.i

abbrev pub decreases-formulas-loop-n : goal.decreases-formulas-loop-n
decreases-formulas-loop-n l = length l.names.text.now - l.i
