use Rattle.semantics.specs.Mask.{has, standing}
use Rattle.semantics.specs.Task.{facts}
use Rattle.semantics.specs.PddlWrite.{each}
use Rattle.mask.specs.Number.{number}
use Rattle.pddl_write.specs.Inner.Parts.{told_as}
use Rattle.pddl_write.proofs.Laws.{Stage, left}
use Rattle.pddl_write.proofs.put_facts.Given as goal

abbrev pub invariant-loop-f : goal.invariant-loop-f
invariant-loop-f l =
    Stage (each (told_as l.form) (standing (facts l.t.words.now) (number l.m))) l.initial.out l.at
    (each (told_as l.form) (left (λ g. has g (number l.m)) (facts l.t.words.now) l.f)) l.out l.next
