-- The cycle of calls of `formula` and `formulas`: the allowance falls from an `and` to the list in it, and a list asks
-- for formulas at its own allowance.
use borrow.Author.Rules.{rules}
use Rattle.pddl_formula.proofs.Lists.{no_word, deep_and, an_and, barred_not, a-not, an_atom, list_begin, list_out}
use Rattle.pddl_formula.proofs.Lists.{list_on, list_end, list_neither}
use Rattle.pddl_formula.proofs.+formula_formulas.Goals as goal

pub formula-returns-in_default : goal.formula-returns-in_default
formula-returns-in_default t c = search (rules, no_word)

pub formula-returns-then-allowed-eq0 : goal.formula-returns-then-allowed-eq0
formula-returns-then-allowed-eq0 t c =
    deep_and _ _ _ _ _ _ _ _ c.in-Word.ensures _ c.same.ensures c.if-same.true c.if-allowed-eq0.true

pub formula-returns-then-same : goal.formula-returns-then-same
formula-returns-then-same t c = search (rules, an_and)

pub formula-returns-then-not-negations : goal.formula-returns-then-not-negations
formula-returns-then-not-negations t c =
    barred_not _ _ _ _ _ _ _ _ c.in-Word.ensures _ c.same.ensures c.if-same.false _ c.same-2.ensures c.if-same-2.true
    c.if-not-negations.true

pub formula-returns-then-same-2 : goal.formula-returns-then-same-2
formula-returns-then-same-2 t c = search (rules, a-not)

pub formula-returns : goal.formula-returns
formula-returns t c = search (rules, an_atom)

pub formulas-loop-n-init : goal.formulas-loop-n-init
formulas-loop-n-init t c = search (rules, list_begin)

pub formulas-returns-in_err-f-in-Open : goal.formulas-returns-in_err-f-in-Open
formulas-returns-in_err-f-in-Open t c =
    rw c.from_residual.ensures (list_out c.loop-n.invariant _ c.in-Open.ensures c.in_err-f-in-Open.ensures)

pub formulas-loop-n-preserved : goal.formulas-loop-n-preserved
formulas-loop-n-preserved t c = search (rules, list_on)

pub formulas-returns-in-Close : goal.formulas-returns-in-Close
formulas-returns-in-Close t c = list_end c.loop-n.invariant _ c.in-Close.ensures

pub formulas-returns-in_default : goal.formulas-returns-in_default
formulas-returns-in_default t c = search (rules, list_neither)
