-- `pddl_write::put_owned` meets its contract. Assumes nothing.
use Rattle.pddl_write.proofs.Laws.{skip-other, choose-own}
use Rattle.pddl_write.proofs.put_owned.Goals as goal

pub returns-then-owner-i : goal.returns-then-owner-i
returns-then-owner-i c = search skip-other

pub returns : goal.returns
returns c = search choose-own
