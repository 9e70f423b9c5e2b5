-- `pddl_form::expect` meets its contract.
use borrow.Author.Rules.{rules}
use Rattle.pddl_form.proofs.Tokens.{expecting_begin, behind-within, expecting_less, expecting_on, expecting_out}
use Rattle.pddl_form.proofs.Tokens.{expecting_end}
use Rattle.pddl_form.proofs.expect.Goals as goal

pub loop-t-init : goal.loop-t-init
loop-t-init c = search (rules, expecting_begin)

pub agrees-requires : goal.agrees-requires
agrees-requires c = search (rules, behind-within)

pub loop-t-smaller : goal.loop-t-smaller
loop-t-smaller c = search (rules, expecting_less)

pub loop-t-preserved : goal.loop-t-preserved
loop-t-preserved c = search (rules, expecting_on)

pub returns-then-not-agrees : goal.returns-then-not-agrees
returns-then-not-agrees c = search (rules, expecting_out)

pub returns-in-End : goal.returns-in-End
returns-in-End c = search (rules, expecting_end)
