-- `pddl_write::owned` meets its contract. Assumes nothing.
use mathlib.Core.Path.{◌∙◌}
use Rattle.pddl_write.proofs.Laws.{one_byte}
use Rattle.pddl_write.proofs.owned.Goals as goal

pub returns-clause-value : goal.returns-clause-value
returns-clause-value c = c.from.ensures ∙ one_byte _ _ _ c.owner.ensures
