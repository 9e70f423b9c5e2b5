-- `pddl_write::put_member` meets its contract. Assumes nothing.
use Rattle.semantics.specs.PddlWrite.{member_text}
use Rattle.pddl_write.proofs.Laws.{put_then}
use Rattle.pddl_write.proofs.put_member.Goals as goal

pub returns-in-Law : goal.returns-in-Law
unfolding member_text
returns-in-Law c = rw c.in-Law.is (put_then c.put_domain-problem.ensures c.put_problem.ensures)
