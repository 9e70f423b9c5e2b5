-- `task::check` meets its contract: one law for each way out. Assumes nothing.
use mathlib.Core.Path.{◌≡◌, sym}
use borrow.Author.Rules.{rules}
use Rattle.semantics.specs.Task.{check}
use Rattle.std.proofs.lemmas.Result.{err_from_is_err_and}
use Rattle.task.proofs.Laws.{head-is, sized-is, check-short, check-head, check-size, check-initial, check-rows}
use Rattle.task.proofs.check.Goals as goal

pub returns-then-words-lt-ROW : goal.returns-then-words-lt-ROW
returns-then-words-lt-ROW c = search check-short

pub returns-then-not-head_fits : goal.returns-then-not-head_fits
returns-then-not-head_fits c = search check-head

pub sized-requires : goal.sized-requires
sized-requires c = record { row_width_in_bounds = search rules; t_value = search head-is }

pub returns-then-not-sized : goal.returns-then-not-sized
returns-then-not-sized c = search check-size

pub returns-then-not-below : goal.returns-then-not-below
returns-then-not-below c = search check-initial

pub rows-requires : goal.rows-requires
rows-requires c =
    sized-is c.args.words.now c.sized.result
    c.sized.ensures (search rules)

pub returns-in_err-rows : goal.returns-in_err-rows
returns-in_err-rows c =
    let p = err_from_is_err_and c.from_residual.result c.from_residual.ensures.1 in
    record { refusal = rw (p.1, p.2) (search (check-rows, c.in_err-rows.ensures)); task = rw p.1 tt }

pub invariant_of-result : goal.invariant_of-result
invariant_of-result c =
    let e : 0 ≡ check c.args.words.now = search (check-rows, c.in_ok-rows.ensures) in
    record { accepted = sym e }

pub returns-clause-refusal : goal.returns-clause-refusal
returns-clause-refusal c = search (check-rows, c.in_ok-rows.ensures)
