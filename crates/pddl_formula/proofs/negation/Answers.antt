-- `pddl_formula::negation` meets its contract.
use Rattle.pddl_formula.proofs.Parts.{negation_in}
use Rattle.pddl_formula.proofs.negation.Goals as goal

pub returns : goal.returns
returns c =
    negation_in _ _ _ _ _ c.in_ok-a.ensures _ c.in_ok-next.ensures _ c.fact_of-fact.ensures _ c.none.ensures
