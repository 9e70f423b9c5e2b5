-- `run_ticket::ask` meets its contract: one law for each way out. Assumes nothing.
use Rattle.std.proofs.lemmas.Result.{err_from_is_err_and}
use Rattle.run_ticket.proofs.Laws.{ask_refused, ask_impossible, ask_given}
use Rattle.run_ticket.proofs.ask.Goals as goal

pub returns-in_err-p : goal.returns-in_err-p
returns-in_err-p c =
    let p = err_from_is_err_and c.from_residual.result c.from_residual.ensures.1 in
    rw (p.1, p.2) (search (ask_refused, c.in_err-p.ensures))

pub returns-in_err-decision : goal.returns-in_err-decision
returns-in_err-decision c =
    let q = c.in_ok-p.ensures in
    let q₁ = c.in_err-decision.ensures in
    let from = c.from_residual-in_err-decision in
    let p = err_from_is_err_and from.result from.ensures.1 in
    rw (p.1, p.2) (search ask_impossible)

pub returns : goal.returns
returns c = let q = c.in_ok-p.ensures in let q₁ = c.in_ok-decision.ensures in search ask_given
