-- `solo_replay::solo_replay` meets its contract: one law for each way out. Assumes nothing.
use Rattle.std.proofs.lemmas.Result.{err_from_is_err_and}
use Rattle.solo_replay.proofs.Laws.{replay-task, replay-member, replay-entry, replay-gives}
use Rattle.solo_replay.proofs.solo_replay.Goals as goal

pub returns-in_err-t : goal.returns-in_err-t
returns-in_err-t c =
    let p = err_from_is_err_and c.from_residual.result c.from_residual.ensures.1 in
    rw (p.1, p.2) (search (replay-task, c.in_err-t.ensures))

pub returns-then-members-i : goal.returns-then-members-i
returns-then-members-i c = let q = c.in_ok-t.ensures in search replay-member

pub returns-in_err-plan_refusal : goal.returns-in_err-plan_refusal
returns-in_err-plan_refusal c =
    let q = c.in_ok-t.ensures in
    let exit = c.from_residual-in_err-plan_refusal in
    let p = err_from_is_err_and exit.result exit.ensures.1 in
    rw (p.1, p.2) (search (replay-entry, c.in_err-plan_refusal.ensures))

pub returns : goal.returns
returns c = let q = c.in_ok-t.ensures in let p = c.in_ok-plan_refusal.ensures in search replay-gives
