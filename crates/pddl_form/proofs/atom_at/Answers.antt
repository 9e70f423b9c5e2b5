-- `pddl_form::atom_at` meets its contract.
use borrow.Author.Rules.{rules}
use Rattle.pddl_form.proofs.Tokens.{no_opening, no-name, no_closing, an_atom}
use Rattle.pddl_form.proofs.atom_at.Goals as goal

pub returns-in_err-inside : goal.returns-in_err-inside
returns-in_err-inside c = search (rules, no_opening)

pub returns-in_err-name : goal.returns-in_err-name
returns-in_err-name c = search (rules, no-name)

pub returns-in_err-next : goal.returns-in_err-next
returns-in_err-next c = search (rules, no_closing)

pub returns : goal.returns
returns c = search (rules, an_atom)
