-- `pddl_write::put_goal` meets its contract. Assumes nothing.
use Rattle.semantics.specs.Base.{numbers_from}
use Rattle.semantics.specs.PddlWrite.{spelt, goal_text}
use Rattle.pddl_write.proofs.Laws.{put_then, put-mask}
use Rattle.pddl_write.proofs.put_goal.Goals as goal

pub returns : goal.returns
unfolding spelt numbers_from goal_text
returns c =
    put_then c.put-atoms.ensures
    (put_then (put-mask _ _ _ _ c.put_facts-end.ensures c.goal.ensures)
    c.put.ensures)
