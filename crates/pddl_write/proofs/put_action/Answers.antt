-- `pddl_write::put_action` meets its contract. Assumes nothing.
use Rattle.semantics.specs.Base.{numbers_from}
use Rattle.semantics.specs.PddlWrite.{spelt, action_text}
use Rattle.pddl_write.proofs.Laws.{put_then, put-mask}
use Rattle.pddl_write.proofs.put_action.Goals as goal

pub returns : goal.returns
unfolding spelt numbers_from action_text
returns c =
    put_then c.put_told-pre.ensures
    (put_then (put-mask _ _ _ _ c.put_facts-effects.ensures c.pre.ensures)
    c.put_effects.ensures)
