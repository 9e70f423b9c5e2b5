-- `pddl_form::atoms_at` meets its contract.
use borrow.Author.Rules.{rules}
use Rattle.pddl_form.proofs.Lists.{passing_on, passing_end}
use Rattle.pddl_form.proofs.atoms_at.Goals as goal

pub loop-a-preserved : goal.loop-a-preserved
loop-a-preserved c = search (rules, passing_on)

pub returns : goal.returns
returns c = search (rules, passing_end)
