-- `pddl_write::put_predicates` meets its contract. Assumes nothing.
use Rattle.pddl_write.proofs.Laws.{put-all, facts-few}
use Rattle.pddl_write.proofs.put_predicates.Goals as goal

pub returns : goal.returns
returns c = search (put-all, facts-few)
