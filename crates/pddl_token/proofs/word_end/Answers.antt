-- `pddl_token::word_end` meets its contract: the invariant is that of Reading.antt. Assumes nothing.
use borrow.Author.Rules.{rules}
use Rattle.pddl_token.proofs.Reading.{word-begin, word-onward, word_out, word_end}
use Rattle.pddl_token.proofs.word_end.Goals as goal

pub loop-i-init : goal.loop-i-init
loop-i-init c = search word-begin

pub loop-i-preserved : goal.loop-i-preserved
loop-i-preserved c = search (rules, word-onward)

pub returns-then-not-in_word : goal.returns-then-not-in_word
returns-then-not-in_word c = search (rules, word_out)

pub returns : goal.returns
returns c = search (rules, word_end)
