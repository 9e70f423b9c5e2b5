-- `pddl_write::put_form` meets its contract. Assumes nothing.
use Rattle.semantics.specs.Base.{numbers_from}
use Rattle.semantics.specs.PddlWrite.{spelt, atom_text, negation_text, wait_text}
use Rattle.pddl_write.proofs.Laws.{put_then}
use Rattle.pddl_write.proofs.put_form.Goals as goal

pub returns-in-Atom : goal.returns-in-Atom
unfolding spelt numbers_from atom_text
returns-in-Atom c = rw c.in-Atom.is c.put_told.ensures

pub returns-in-Negation : goal.returns-in-Negation
unfolding spelt numbers_from negation_text
returns-in-Negation c = rw c.in-Negation.is c.put_told-in-Negation.ensures

pub returns-in-Wait : goal.returns-in-Wait
unfolding wait_text
returns-in-Wait c = rw c.in-Wait.is (put_then c.put_number-comma.ensures c.put_told-in-Wait.ensures)
