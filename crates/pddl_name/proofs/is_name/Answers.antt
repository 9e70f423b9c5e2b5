-- `pddl_name::is_name` meets its contract.
use Rattle.pddl_name.proofs.Parts.{no_name, is_name_lem}
use Rattle.pddl_name.proofs.is_name.Goals as goal

pub returns-then-e-s : goal.returns-then-e-s
returns-then-e-s c = search no_name

pub returns : goal.returns
returns c = search is_name_lem
