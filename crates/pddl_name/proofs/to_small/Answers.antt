-- `pddl_name::to_small` meets its contract.
use Rattle.pddl_name.proofs.Parts.{lowered}
use Rattle.pddl_name.proofs.to_small.Goals as goal

pub returns : goal.returns
returns c = lowered _ _ c.to_ascii_lowercase.ensures.cases
