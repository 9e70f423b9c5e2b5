-- `solo_replay::plan_refusal` meets its contract: the first refusal of all entries is that of the entries from k on.
-- Assumes nothing.
use Rattle.std.proofs.lemmas.Result.{err_from_is_err_and}
use Rattle.theory.proofs.Loops.{rest-begin}
use Rattle.solo_replay.proofs.Laws.{onward, out, end}
use Rattle.solo_replay.proofs.plan_refusal.Goals as goal

pub loop-action-init : goal.loop-action-init
loop-action-init c = search rest-begin

pub returns-in_err-entry : goal.returns-in_err-entry
returns-in_err-entry c =
    let p = err_from_is_err_and c.from_residual.result c.from_residual.ensures.1 in
    rw (p.1, p.2) (search (out, c.in_err-entry.ensures))

pub loop-action-preserved : goal.loop-action-preserved
loop-action-preserved c = search (onward, c.in_ok-entry.ensures)

pub returns : goal.returns
returns c = search end
