-- `pddl_name::same` meets its contract.
use borrow.Author.Rules.{rules}
use Rattle.pddl_name.proofs.Parts.{none_here, none-there, lengths_differ, lasts_differ}
use Rattle.pddl_name.proofs.Parts.{agree-begin, differ, agree_on, agree-end}
use Rattle.pddl_name.proofs.same.Goals as goal

pub returns-then-e-s : goal.returns-then-e-s
returns-then-e-s c = search none_here

pub returns-then-u-t : goal.returns-then-u-t
returns-then-u-t c = search none-there

pub returns-then-e-s-2 : goal.returns-then-e-s-2
returns-then-e-s-2 c = search lengths_differ

pub returns-then-to_small : goal.returns-then-to_small
returns-then-to_small c = search lasts_differ

pub loop-i-init : goal.loop-i-init
loop-i-init c = search agree-begin

pub returns-then-to_small-2 : goal.returns-then-to_small-2
returns-then-to_small-2 c = search (rules, differ)

pub loop-i-preserved : goal.loop-i-preserved
loop-i-preserved c = search (rules, agree_on)

pub returns : goal.returns
returns c = search (rules, agree-end)
