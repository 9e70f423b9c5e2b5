-- `pddl_write::write` meets its contract: one law for each way out. Assumes nothing.
use Rattle.std.proofs.lemmas.Result.{err_from_is_err_and}
use Rattle.pddl_write.proofs.Ways.{refused-task, short-text, short-waits, both-written}
use Rattle.pddl_write.proofs.write.Goals as goal

pub returns-in_err-t : goal.returns-in_err-t
returns-in_err-t c =
    let p = err_from_is_err_and c.from_residual.result c.from_residual.ensures.1 in
    rw (p.1, p.2) (search (refused-task, c.in_err-t.ensures))

pub returns-then-text-of_text : goal.returns-then-text-of_text
returns-then-text-of_text c = let q = c.in_ok-t.ensures in search short-text

pub returns-then-waits-of_waits : goal.returns-then-waits-of_waits
returns-then-waits-of_waits c = let q = c.in_ok-t.ensures in search short-waits

pub returns : goal.returns
returns c = let q = c.in_ok-t.ensures in search both-written
