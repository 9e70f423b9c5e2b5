-- `run_outcome::replay_all` meets its contract: what all picks come to is what those from i on come to from the run there.
-- Assumes nothing.
use borrow.Author.Rules.{rules}
use Rattle.std.proofs.lemmas.Result.{err_from_is_err_and}
use Rattle.run_outcome.proofs.Laws.{replay-starts, count_fits, replay-gives, replay-refused, replay-ends}
use Rattle.run_outcome.proofs.replay_all.Goals as goal

pub loop-j-init : goal.loop-j-init
loop-j-init c = search replay-starts

pub returns-in_err-reply : goal.returns-in_err-reply
returns-in_err-reply c =
    let p = err_from_is_err_and c.from_residual.result c.from_residual.ensures.1 in
    let q = c.in_err-reply.was in
    rw (p.1, p.2) (search replay-refused)

pub count-done-requires : goal.count-done-requires
count-done-requires c = search (rules, count_fits)

pub loop-j-preserved : goal.loop-j-preserved
loop-j-preserved c = let q = c.in_ok-reply.was in search replay-gives

pub returns : goal.returns
returns c = search replay-ends
