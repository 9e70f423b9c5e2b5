-- `solo_replay::entry` meets its contract: one law for each way out. Assumes nothing.
use Rattle.solo_replay.proofs.Laws.{no-action, other-member, own-action}
use Rattle.solo_replay.proofs.entry.Goals as goal

pub returns-then-actions-a : goal.returns-then-actions-a
returns-then-actions-a c = search no-action

pub returns-then-owner-i : goal.returns-then-owner-i
returns-then-owner-i c = search other-member

pub returns : goal.returns
returns c = search own-action
