-- `capi_run::words_of` meets its contract. Assumes nothing.
use Rattle.capi_run.proofs.Told.{words-held}
use Rattle.capi_run.proofs.words_of.Goals as goal

pub returns : goal.returns
returns c = search words-held
