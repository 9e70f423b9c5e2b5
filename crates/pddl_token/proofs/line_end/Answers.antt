-- `pddl_token::line_end` meets its contract: the invariant is that of Reading.antt. Assumes nothing.
use borrow.Author.Rules.{rules}
use Rattle.pddl_token.proofs.Reading.{note_begin, note_onward, note_out, note_end}
use Rattle.pddl_token.proofs.line_end.Goals as goal

pub loop-i-init : goal.loop-i-init
loop-i-init c = search note_begin

pub returns-then-text-i-eq10 : goal.returns-then-text-i-eq10
returns-then-text-i-eq10 c = search (rules, note_out)

pub loop-i-preserved : goal.loop-i-preserved
loop-i-preserved c = search (rules, note_onward)

pub returns : goal.returns
returns c = search (rules, note_end)
