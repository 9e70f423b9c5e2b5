-- `program::judge` meets its contract. Assumes nothing.
use mathlib.Core.Path.{sym, subst}
use Prim.Native.Nat.{ℕ}
use native.Mathlib.Omega.{arith}
use Rattle.semantics.specs.Verdict.{Slices, lent_of}
use Rattle.fault.specs.Value.{verdict_of}
use Rattle.refusal.specs.Number.{answered}
use Rattle.report.specs.Inner.Put.{Holds}
use Rattle.program.proofs.Laws.{holds, reports, file-fits}
use Rattle.program.proofs.judge.Goals as goal

pub put_file-requires : goal.put_file-requires
put_file-requires c =
    let t = c.args.t.now.words.now in
    let a = c.args in
    let v = c.verdict-answer in
    let s : Slices = lent_of a.local.now a.marks.now a.confs.now a.trail.now a.plans.now a.ends.now a.picks.now in
    let r : Slices = lent_of v.new.local v.new.marks v.new.confs v.new.trail v.new.plans v.new.ends v.new.picks in
    let f = file-fits t s r (answered verdict_of v.result) c.args.t.now.accepted c.requires.picks_value v.auto.plans v.auto.picks in
    record {
      holds =
          rw c.numbered.ensures
          (subst (λ (n : ℕ). Holds (answered verdict_of v.result) n r.plans r.ends r.picks) (sym c.members-n.ensures)
          (holds t s r (answered verdict_of v.result) v.ensures.verdict_means));
      picks_in_bounds = omega (arith, c.members-n.ensures, f, c.requires.most_bytes_in_bounds);
    }

pub returns : goal.returns
returns c =
    let a = c.args in
    let v = c.verdict-answer in
    let s : Slices = lent_of a.local.now a.marks.now a.confs.now a.trail.now a.plans.now a.ends.now a.picks.now in
    let r : Slices = lent_of v.new.local v.new.marks v.new.confs v.new.trail v.new.plans v.new.ends v.new.picks in
    reports a.t.now.words.now s r (answered verdict_of v.result) c.requires.picks_value v.ensures.verdict_means c.members-n.result
    c.members-n.ensures a.out.now c.put_file.new.out c.put_file.result (rw c.numbered.ensures at c.put_file.ensures)
