-- `solo_replay::replay` meets its contract: what the plan comes to from I is what its steps from k on come to. Assumes
-- nothing.
use borrow.Author.Rules.{rules}
use native.Mathlib.Omega.{arith}
use Rattle.semantics.specs.Solo.{entry}
use Rattle.task.proofs.Refusals.{accepted-at}
use Rattle.solo_replay.proofs.Laws.{entry-action, starts, breaks-there, goes_on, stops-short, ends_there}
use Rattle.solo_replay.proofs.replay.Goals as goal

pub loop-k-init : goal.loop-k-init
loop-k-init c = search starts

pub local_act-requires : goal.local_act-requires
local_act-requires c = entry-action c.args.t.now.words.now c.args.i _
    (accepted-at (entry c.args.t.now.words.now c.args.i) c.args.plan.now (search rules) c.loop-k.k (omega arith))

pub returns-in-Err : goal.returns-in-Err
returns-in-Err c = search breaks-there

pub loop-k-preserved : goal.loop-k-preserved
loop-k-preserved c = search goes_on

pub returns-then-not-done : goal.returns-then-not-done
returns-then-not-done c = search stops-short

pub returns : goal.returns
returns c = search ends_there
