-- `pddl_form::close_at` meets its contract.
use borrow.Author.Rules.{rules}
use Rattle.pddl_form.proofs.Tokens.{closes_close, closes_none}
use Rattle.pddl_form.proofs.close_at.Goals as goal

pub returns-in-Close : goal.returns-in-Close
returns-in-Close c = search (rules, closes_close)

pub returns-in_default : goal.returns-in_default
returns-in_default c = search (rules, closes_none)
