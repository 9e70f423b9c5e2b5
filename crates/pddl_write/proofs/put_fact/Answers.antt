-- `pddl_write::put_fact` meets its contract. Assumes nothing.
use Rattle.pddl_write.proofs.Laws.{skip, choose}
use Rattle.pddl_write.proofs.put_fact.Goals as goal

pub returns-then-has : goal.returns-then-has
returns-then-has c = search choose

pub returns : goal.returns
returns c = search skip
