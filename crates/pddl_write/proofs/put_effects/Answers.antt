-- `pddl_write::put_effects` meets its contract. Assumes nothing.
use Rattle.semantics.specs.Base.{numbers_from}
use Rattle.semantics.specs.PddlWrite.{spelt, effects_text}
use Rattle.pddl_write.proofs.Laws.{put_then, put-mask}
use Rattle.pddl_write.proofs.put_effects.Goals as goal

pub returns : goal.returns
unfolding spelt numbers_from effects_text
returns c =
    put_then c.put-adds.ensures
    (put_then (put-mask _ _ _ _ c.put_facts-dels.ensures c.add.ensures)
    (put_then (put-mask _ _ _ _ c.put_facts-end.ensures c.del.ensures) c.put.ensures))
