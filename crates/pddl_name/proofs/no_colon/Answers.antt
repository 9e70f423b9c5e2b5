-- `pddl_name::no_colon` meets its contract.
use borrow.Author.Rules.{rules}
use Rattle.pddl_name.proofs.Parts.{plain-begin, colon, plain-on, plain_end}
use Rattle.pddl_name.proofs.no_colon.Goals as goal

pub loop-i-init : goal.loop-i-init
loop-i-init c = search plain-begin

pub returns-then-to_small-eq58 : goal.returns-then-to_small-eq58
returns-then-to_small-eq58 c = search (rules, colon)

pub loop-i-preserved : goal.loop-i-preserved
loop-i-preserved c = search (rules, plain-on)

pub returns : goal.returns
returns c = search plain_end
