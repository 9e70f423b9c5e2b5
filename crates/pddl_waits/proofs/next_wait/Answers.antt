-- `pddl_waits::next_wait` meets its contract: the invariant is that of Next.antt. Assumes nothing.
use Rattle.std.proofs.Common.{◌≡◌, length, subst, ap, ◌∙◌, refl, Option, Some, None, arith}
use Rattle.pddl_waits.proofs.Next.{begin, in_reach, end-reach, onward, found, word_on, out, ended}
use Rattle.text.specs.declared.Turn.{Turn}
use Rattle.pddl_waits.specs.Inner.Wait.{Next}
use Rattle.pddl_waits.proofs.Next.{last_found, no_end}
use Rattle.pddl_waits.proofs.next_wait.Goals as goal
use Rattle.pddl_waits.proofs.next_wait.Goals.{in-On+else-p-ne0, in-Word}

none_left : (r : Option Turn) → ((t : Turn) → r ≡ Some t → ⊥) → r ≡ None
none_left None h = refl
none_left (Some t) h = absurd (h t refl)

pub loop-i-init : goal.loop-i-init
loop-i-init c = search begin

pub step-requires : goal.step-requires
step-requires c = search in_reach

pub returns-then-p-ne0 : goal.returns-then-p-ne0
returns-then-p-ne0 c =
    found c.loop-i.invariant _ _ c.loop-i-test.true refl c.sort.ensures c.step.ensures _
    (c.in-Some.is ∙ ap Some c.in-On.is) c.if-p-ne0.true

pub returns-in_default : goal.returns-in_default
returns-in_default c = (
  refl,
  out c.loop-i.invariant _ _ c.loop-i-test.true refl c.sort.ensures c.step.ensures
      (none_left c.step.result c.in_default.not-Some),
)

pub loop-i-preserved : goal.loop-i-preserved
loop-i-preserved c =
    elim c.match-turn.branch [
      | in-On+else-p-ne0 w ↦
          rw (w.place-is, w.action-is, w.fact-is)
          (onward c.loop-i.invariant _ _ c.loop-i-test.true refl c.sort.ensures c.step.ensures _
          (c.in-Some.is ∙ ap Some w.in-On.is) w.if-p-ne0.false)
      | in-Word w ↦
          rw (w.place-is, w.action-is, w.fact-is)
          (word_on c.loop-i.invariant _ _ c.loop-i-test.true refl c.sort.ensures c.step.ensures _ _
          (c.in-Some.is ∙ ap Some w.in-Word.is))
    ]

pub at_end-requires : goal.at_end-requires
at_end-requires c = search end-reach

pub returns-in-Some-Records : goal.returns-in-Some-Records
returns-in-Some-Records c =
    ended c.loop-i.invariant _ c.loop-i-test.false c.at_end.ensures _
    (c.in-Some-Records.is ∙ ap Some c.in-Some-Records.field-0-is)

pub returns-in-Some-Word : goal.returns-in-Some-Word
returns-in-Some-Word c =
    let e : c.loop-i.i ≡ length c.args.waits.now = omega arith in
    subst (Next c.args.waits.now c.args.from c.loop-i.fact c.in-Some-Word.v) e
    (last_found c.loop-i.invariant _ c.loop-i-test.false c.at_end.ensures _ _
    (c.in-Some-Word.is ∙ ap Some c.in-Some-Word.field-0-is))

pub returns-in-None : goal.returns-in-None
returns-in-None c = (refl, no_end c.loop-i.invariant _ c.loop-i-test.false c.at_end.ensures c.in-None.is)
