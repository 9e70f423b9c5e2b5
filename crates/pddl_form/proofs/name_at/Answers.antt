-- `pddl_form::name_at` meets its contract.
use borrow.Author.Rules.{rules}
use Rattle.pddl_form.proofs.Tokens.{no_word, unnamed, named}
use Rattle.pddl_form.proofs.name_at.Goals as goal

pub returns-in_default : goal.returns-in_default
returns-in_default c = search (rules, no_word)

pub returns-then-not-is_name : goal.returns-then-not-is_name
returns-then-not-is_name c = search (rules, unnamed)

pub returns : goal.returns
returns c = search (rules, named)
