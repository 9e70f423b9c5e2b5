-- `run_replay::joint_replay` meets its contract: one law for each way out. Assumes nothing.
use Rattle.std.proofs.lemmas.Result.{err_from_is_err_and}
use Rattle.run_replay.proofs.Laws.{replay-refused, replay-gives}
use Rattle.run_replay.proofs.joint_replay.Goals as goal

pub returns-in_err-p : goal.returns-in_err-p
returns-in_err-p c =
    let p = err_from_is_err_and c.from_residual.result c.from_residual.ensures.1 in
    rw (p.1, p.2) (search (replay-refused, c.in_err-p.ensures))

pub returns : goal.returns
returns c = let q = c.in_ok-p.ensures in search replay-gives
