-- `run_replay::check` meets its contract: one law for each way out. Assumes nothing.
use Rattle.std.proofs.lemmas.Result.{err_from_is_err_and}
use Rattle.run_replay.proofs.Laws.{refuses-plans, refuses-shared, refuses-places, refuses-none}
use Rattle.run_replay.proofs.check.Goals as goal

pub returns-in_err-p-clause-refusal : goal.returns-in_err-p-clause-refusal
returns-in_err-p-clause-refusal c =
    let p = err_from_is_err_and c.from_residual.result c.from_residual.ensures.1 in
    rw (p.1, p.2) (search (refuses-plans, c.in_err-p.ensures))

pub returns-then-not-below-clause-refusal : goal.returns-then-not-below-clause-refusal
returns-then-not-below-clause-refusal c = let q = c.in_ok-p.ensures in search refuses-shared

pub returns-then-past_end-clause-refusal : goal.returns-then-past_end-clause-refusal
returns-then-past_end-clause-refusal c = let q = c.in_ok-p.ensures in search refuses-places

pub returns-clause-refusal : goal.returns-clause-refusal
returns-clause-refusal c = let q = c.in_ok-p.ensures in search refuses-none
