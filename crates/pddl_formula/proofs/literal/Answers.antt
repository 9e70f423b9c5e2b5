-- `pddl_formula::literal` meets its contract.
use borrow.Author.Rules.{rules}
use Rattle.pddl_formula.proofs.Parts.{no_name, not-closed, atom_in}
use Rattle.pddl_formula.proofs.literal.Goals as goal

pub returns-then-not-is_name : goal.returns-then-not-is_name
returns-then-not-is_name c = search (rules, no_name)

pub returns-in_err-next : goal.returns-in_err-next
returns-in_err-next c =
    rw c.from_residual.ensures (not-closed _ _ _ _ _ _ c.is_name.ensures c.if-not-is_name.false c.in_err-next.ensures)

pub returns : goal.returns
returns c =
    atom_in _ _ _ _ _ _ c.is_name.ensures c.if-not-is_name.false _ c.in_ok-next.ensures _ c.fact_of-fact.ensures _
    c.none.ensures
