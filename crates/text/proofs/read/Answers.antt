-- `text::read` meets its contract. Assumes nothing.
use borrow.Author.Rules.{rules}
use Rattle.text.proofs.Scanning.{read_short, read_none, read-refused, read-records}
use Rattle.text.proofs.read.Goals as goal

pub returns-then-words-lt-MOST_WORDS : goal.returns-then-words-lt-MOST_WORDS
returns-then-words-lt-MOST_WORDS c = search (rules, read_short)

pub returns-in-Ok : goal.returns-in-Ok
returns-in-Ok c = search (read-records, c.in-Ok.ensures.refusal)

pub returns-in-Err : goal.returns-in-Err
returns-in-Err c = search (read-refused, c.in-Err.ensures.refusal)

pub returns-in-None : goal.returns-in-None
returns-in-None c = search read_none
