-- `pddl_form::stands` meets its contract.
use borrow.Author.Rules.{rules}
use Rattle.pddl_form.proofs.Lists.{seeking_found, seeking_on, seeking_end}
use Rattle.pddl_form.proofs.stands.Goals as goal

pub returns-then-same : goal.returns-then-same
returns-then-same c = search (rules, seeking_found)

pub loop-a-preserved : goal.loop-a-preserved
loop-a-preserved c = search (rules, seeking_on)

pub returns : goal.returns
returns c = search (rules, seeking_end)
