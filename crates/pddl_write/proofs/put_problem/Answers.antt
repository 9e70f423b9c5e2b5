-- `pddl_write::put_problem` meets its contract. Assumes nothing.
use Rattle.semantics.specs.Base.{numbers_from}
use Rattle.semantics.specs.PddlWrite.{spelt, problem_text}
use Rattle.pddl_write.proofs.Laws.{put_then, put-mask}
use Rattle.pddl_write.proofs.put_problem.Goals as goal

pub returns : goal.returns
unfolding spelt numbers_from problem_text
returns c =
    put_then c.put_told-domain.ensures
    (put_then c.put_told-initial.ensures
    (put_then (put-mask _ _ _ _ c.put_facts-goal.ensures c.initial.ensures)
    c.put_goal.ensures))
