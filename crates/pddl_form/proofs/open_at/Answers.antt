-- `pddl_form::open_at` meets its contract.
use borrow.Author.Rules.{rules}
use Rattle.pddl_form.proofs.Tokens.{opens_open, opens_none}
use Rattle.pddl_form.proofs.open_at.Goals as goal

pub returns-in-Open : goal.returns-in-Open
returns-in-Open c = search (rules, opens_open)

pub returns-in_default : goal.returns-in_default
returns-in_default c = search (rules, opens_none)
