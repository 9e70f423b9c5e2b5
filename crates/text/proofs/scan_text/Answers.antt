-- `text::scan_text` meets its contract: the invariant is that of Scanning.antt. Assumes nothing.
use Rattle.std.proofs.Common.{ap, ◌∙◌, Some}
use Rattle.text.proofs.Scanning.{begin, scan-reach, end-reach, onward, word_room, word_on, out}
use Rattle.text.proofs.Scanning.{all_found, last-room, last_found, no_end}
use Rattle.text.proofs.scan_text.Goals as goal
use Rattle.text.proofs.scan_text.Goals.{in-On, in-Word}

pub loop-b-init : goal.loop-b-init
loop-b-init c = search begin

pub step-requires : goal.step-requires
step-requires c = search scan-reach

pub returns-in_err-p : goal.returns-in_err-p
returns-in_err-p c =
    rw c.from_residual.ensures
    (out c.loop-b.invariant _ _ c.loop-b-test.true c.sort.ensures c.step.ensures c.in_err-p.was)

pub bounds-words-count : goal.bounds-words-count
bounds-words-count c =
    word_room c.loop-b.invariant _ _ c.loop-b-test.true c.sort.ensures c.step.ensures _ _
    (c.in_ok-p.was ∙ ap Some c.in-Word.is)

pub loop-b-preserved : goal.loop-b-preserved
loop-b-preserved c =
    elim c.match-branch-2.branch [
      | in-On w ↦
          rw (w.words-is, w.place-is, w.count-is)
          (onward c.loop-b.invariant _ _ c.loop-b-test.true c.sort.ensures c.step.ensures _
          (c.in_ok-p.was ∙ ap Some w.in-On.is))
      | in-Word w ↦
          rw (w.words-is, w.place-is, w.count-is)
          (word_on c.loop-b.invariant _ _ c.loop-b-test.true c.sort.ensures c.step.ensures _ _
          (c.in_ok-p.was ∙ ap Some w.in-Word.is))
    ]

pub at_end-requires : goal.at_end-requires
at_end-requires c = search end-reach

pub returns-in_err-n : goal.returns-in_err-n
returns-in_err-n c =
    rw c.from_residual-in_err-n.ensures
    (no_end c.loop-b.invariant _ c.loop-b-test.false c.at_end.ensures c.in_err-n.was)

pub bounds-words-count-in-Word-2 : goal.bounds-words-count-in-Word-2
bounds-words-count-in-Word-2 c =
    last-room c.loop-b.invariant _ c.loop-b-test.false c.at_end.ensures _ _ (c.in_ok-n.was ∙ ap Some c.in-Word-2.is)

pub returns-in-Records : goal.returns-in-Records
returns-in-Records c =
    all_found c.loop-b.invariant _ c.loop-b-test.false c.at_end.ensures _ (c.in_ok-n.was ∙ ap Some c.in-Records.is)

pub returns-in-Word-2 : goal.returns-in-Word-2
returns-in-Word-2 c =
    last_found c.loop-b.invariant _ c.loop-b-test.false c.at_end.ensures _ _ (c.in_ok-n.was ∙ ap Some c.in-Word-2.is)
