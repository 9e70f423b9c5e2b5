-- `pddl_members::count` meets its contract.
use borrow.Author.Rules.{rules}
use Rattle.pddl_members.proofs.Counting.{counting-begin, counting-on, ended, more}
use native.Mathlib.Omega.{arith}
use Rattle.pddl_section.proofs.Lists.{member-onward}
use Rattle.pddl_members.proofs.count.Goals as goal

pub loop-m-init : goal.loop-m-init
loop-m-init c = search (rules, counting-begin)

pub overflow_add-n : goal.overflow_add-n
overflow_add-n c = record { fits = omega (arith, member-onward c.in-Some.ensures) }

pub loop-m-smaller : goal.loop-m-smaller
loop-m-smaller c = omega (arith, member-onward c.in-Some.ensures)

pub loop-m-preserved : goal.loop-m-preserved
loop-m-preserved c = counting-on c.loop-m.invariant c.in-Some.ensures _ _ c.keep-kept.ensures

pub returns-in-End : goal.returns-in-End
returns-in-End c = ended c.loop-m.invariant c.in_default.ensures c.in-End.ensures

pub returns-in_default-next_token : goal.returns-in_default-next_token
returns-in_default-next_token c =
    more c.loop-m.invariant c.in_default.ensures _ c.next_token.ensures c.in_default-next_token.not-End
