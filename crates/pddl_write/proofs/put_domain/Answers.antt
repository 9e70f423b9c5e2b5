-- `pddl_write::put_domain` meets its contract. Assumes nothing.
use Rattle.semantics.specs.Base.{numbers_from}
use Rattle.semantics.specs.PddlWrite.{spelt, domain_text}
use Rattle.pddl_write.proofs.Laws.{put_then}
use Rattle.pddl_write.proofs.put_domain.Goals as goal

pub returns : goal.returns
unfolding spelt numbers_from domain_text
returns c =
    put_then c.put_told-predicates.ensures
    (put_then c.put_predicates-paren.ensures
    (put_then c.put-actions.ensures (put_then c.put_actions-end.ensures c.put.ensures)))
