use Rattle.mask.specs.Number.{local_number}
use Rattle.solo_replay.proofs.Laws.{Played}
use Rattle.solo_replay.proofs.replay.Given as goal

abbrev pub invariant-loop-k : goal.invariant-loop-k
invariant-loop-k l = Played l.t.words.now l.i l.plan (local_number l.s) l.k
