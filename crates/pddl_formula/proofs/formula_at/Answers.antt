-- `pddl_formula::formula_at` meets its contract.
use borrow.Author.Rules.{rules}
use Rattle.pddl_formula.proofs.Lists.{goes-out, goes_at}
use Rattle.pddl_formula.proofs.formula_at.Goals as goal

pub returns-in_err-inside : goal.returns-in_err-inside
returns-in_err-inside c =
    rw (c.in_ok-first.was, c.from_residual-in_err-inside.ensures) (goes-out c.in_err-inside.ensures)

pub returns : goal.returns
returns c = search (rules, goes_at)
