-- `pddl_token::next_token` meets its contract, by the laws of Reading.antt. Assumes nothing.
use borrow.Author.Rules.{rules}
use Rattle.pddl_token.proofs.Reading.{next-end, next-none, next_open, next_close, next_word, next-stray}
use Rattle.pddl_token.proofs.next_token.Goals as goal

pub returns-then-text-at : goal.returns-then-text-at
returns-then-text-at c = search next-end

pub returns-then-text-first : goal.returns-then-text-first
returns-then-text-first c = search next-none

pub returns-then-b-eq40 : goal.returns-then-b-eq40
returns-then-b-eq40 c = search (rules, next_open)

pub returns-then-b-eq41 : goal.returns-then-b-eq41
returns-then-b-eq41 c = search (rules, next_close)

pub returns-then-in_word : goal.returns-then-in_word
returns-then-in_word c =
    let w = c.in_word in
    next_word c.skip-first.ensures c.if-text-first.false w.result w.ensures c.if-in_word.true
    c.word_end.ensures

pub returns-else-in_word : goal.returns-else-in_word
returns-else-in_word c = search (rules, next-stray)
