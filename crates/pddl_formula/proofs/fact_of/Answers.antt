-- `pddl_formula::fact_of` meets its contract.
use Rattle.pddl_formula.proofs.Parts.{fact-here, fact-absent}
use Rattle.pddl_formula.proofs.fact_of.Goals as goal

pub returns-in-Some : goal.returns-in-Some
returns-in-Some c = fact-here _ _ _ _ c.in-Some.k c.in-Some.ensures _ _ c.fact.ensures

pub returns-in-None : goal.returns-in-None
returns-in-None c = fact-absent _ _ _ _ c.in-None.ensures _ _ c.none.ensures _ c.stands.ensures
