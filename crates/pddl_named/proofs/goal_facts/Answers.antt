-- `pddl_named::goal_facts` meets its contract.
use Rattle.pddl_named.proofs.Passing.{goal_none}
use Rattle.pddl_named.proofs.goal_facts.Goals as goal

pub returns-in-None : goal.returns-in-None
returns-in-None c = goal_none c.in-None.ensures _ c.none.ensures
