-- `pddl_token::skip` meets its contract: the invariant is that of Reading.antt. Assumes nothing.
use borrow.Author.Rules.{rules}
use Rattle.pddl_token.proofs.Reading.{skip-begin, skip_note, skip-less, skip_blank, skip-out}
use Rattle.pddl_token.proofs.Reading.{skip-end}
use Rattle.pddl_token.proofs.skip.Goals as goal

pub loop-i-init : goal.loop-i-init
loop-i-init c = search skip-begin

pub loop-i-smaller-then-b-eq59 : goal.loop-i-smaller-then-b-eq59
loop-i-smaller-then-b-eq59 c = search (rules, skip-less)

pub loop-i-preserved-then-b-eq59 : goal.loop-i-preserved-then-b-eq59
loop-i-preserved-then-b-eq59 c = search (rules, skip_note)

pub loop-i-preserved : goal.loop-i-preserved
loop-i-preserved c = search (rules, skip_blank)

pub returns-else-blank : goal.returns-else-blank
returns-else-blank c = search (rules, skip-out)

pub returns : goal.returns
returns c = search (rules, skip-end)
