-- `pddl_write::put_part` meets its contract. Assumes nothing.
use Rattle.semantics.specs.PddlWrite.{action_waits}
use Rattle.pddl_write.proofs.Laws.{put-mask}
use Rattle.pddl_write.proofs.put_part.Goals as goal

pub returns-in-Waits : goal.returns-in-Waits
unfolding action_waits
returns-in-Waits c = rw c.in-Waits.is (put-mask _ _ _ _ c.put_facts.ensures c.wait.ensures)
