-- `capi_run::open_of` meets its contract. Assumes nothing.
use borrow.Author.Rules.{rules}
use Rattle.capi_run.proofs.Told.{open_held}
use Rattle.capi_run.proofs.open_of.Goals as goal

pub returns : goal.returns
returns c = search (rules, open_held)
