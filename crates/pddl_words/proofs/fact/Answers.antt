-- `pddl_words::fact` meets its contract.
use borrow.Author.Rules.{rules}
use Rattle.pddl_words.proofs.Facts.{fact-low, fact-high}
use Rattle.pddl_words.proofs.fact.Goals as goal

pub returns-then-k-lt-WORD_FACTS : goal.returns-then-k-lt-WORD_FACTS
returns-then-k-lt-WORD_FACTS c = search (rules, fact-low)

pub returns : goal.returns
returns c = search (rules, fact-high)
