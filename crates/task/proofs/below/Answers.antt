-- `task::below` meets its contract. Assumes nothing.
use native.Mathlib.Omega.{arith}
use Rattle.task.proofs.Laws.{below-is}
use Rattle.task.proofs.below.Goals as goal

pub returns : goal.returns
returns c =
    below-is c.args.t.now c.args.r c.args.k _ c.below.result
    (λ j. omega (arith, c.shared_slice_known-2-1.given j)) c.mask_in.ensures
    c.below.ensures
