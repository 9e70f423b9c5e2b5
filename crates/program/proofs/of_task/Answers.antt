-- `program::of_task` meets its contract. Assumes nothing.
use mathlib.Core.Path.{◌≡◌}
use Prim.Native.Nat.{ℕ, ◌+◌, ◌*◌, ◌/◌, ◌≤◌}
use native.Mathlib.Omega.{arith}
use mathlib.Core.List.{List}
use Rattle.semantics.specs.Task.{check, members}
use Rattle.theory.proofs.Accepted.{accepted}
use Rattle.program.proofs.Laws.{configuration_copies, most_configurations}
use Rattle.program.proofs.Laws.{configurations-most, front_length, lends}
use Rattle.program.proofs.of_task.Goals as goal

module _ (t : List ℕ) (ok : check t ≡ 0) (n : ℕ) (e : n ≡ members t) where
  some : 1 ≤ n
  some = omega (arith, e, (accepted t ok).some-members)

  few : n ≤ 8
  few = omega (arith, e, (accepted t ok).few-members)

  most : configuration_copies / (n + 1) ≤ most_configurations
  most = configurations-most n some

pub nonzero_div-rows : goal.nonzero_div-rows
nonzero_div-rows c = omega (arith, some c.args.t.now.words.now c.args.t.now.accepted c.members-n.result c.members-n.ensures)

pub overflow_add-most : goal.overflow_add-most
overflow_add-most c = omega (arith, few c.args.t.now.words.now c.args.t.now.accepted c.members-n.result c.members-n.ensures)

pub slice_bounds-trail-end : goal.slice_bounds-trail-end
slice_bounds-trail-end c = omega (arith, most c.args.t.now.words.now c.args.t.now.accepted c.members-n.result c.members-n.ensures)

pub slice_bounds-judge-end-4 : goal.slice_bounds-judge-end-4
slice_bounds-judge-end-4 c =
    let m = most c.args.t.now.words.now c.args.t.now.accepted c.members-n.result c.members-n.ensures in
    front_length (2 * (configuration_copies / (c.members-n.result + 1))) (2 * most_configurations) (omega (arith, m))

pub slice_bounds-ends-end : goal.slice_bounds-ends-end
slice_bounds-ends-end c = omega (arith, few c.args.t.now.words.now c.args.t.now.accepted c.members-n.result c.members-n.ensures)

pub slice_bounds-judge-end-6 : goal.slice_bounds-judge-end-6
slice_bounds-judge-end-6 c =
    front_length c.members-n.result 8 (few c.args.t.now.words.now c.args.t.now.accepted c.members-n.result c.members-n.ensures)

pub slice_bounds-picks-end : goal.slice_bounds-picks-end
slice_bounds-picks-end c = omega (arith, most c.args.t.now.words.now c.args.t.now.accepted c.members-n.result c.members-n.ensures)

pub slice_bounds-judge-end-7 : goal.slice_bounds-judge-end-7
slice_bounds-judge-end-7 c =
    front_length (configuration_copies / (c.members-n.result + 1)) most_configurations
    (most c.args.t.now.words.now c.args.t.now.accepted c.members-n.result c.members-n.ensures)

pub judge-requires : goal.judge-requires
judge-requires c = record {
  picks_value = lends c.args.t.now.words.now c.args.t.now.accepted c.members-n.result c.members-n.ensures;
  most_bytes_in_bounds = c.requires;
}
