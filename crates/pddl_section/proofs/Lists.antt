-- Lists of actions and of members.
use mathlib.Core.Path.{◌≡◌, sym}
use mathlib.Core.List.{List, [], ◌∷◌}
use Prim.Native.Nat.{ℕ, ◌≤◌, ◌<◌}
use native.Mathlib.Omega.{arith}
use lib.ListN.{length}
use Rattle.std.specs.Prelude.{Some, None}
use Rattle.semantics.specs.Pddl as Pddl
use Rattle.pddl_theory.specs.Inner.Place.{rest}
use Rattle.pddl_theory.proofs.Shorter.{action-shorter, member-shorter}
use Rattle.pddl_theory.proofs.Chain.{items-on, items-out}
use Rattle.pddl_theory.proofs.Walk.{Walked, walked-begin, walked_on, walked_end}
use Rattle.pddl_formula.specs.Inner.Formula.{Ready}
use Rattle.pddl_section.specs.Inner.Section.{action_of, Acts, actions_from, ActionsEnd, member_of}
use Rattle.pddl_section.specs.Inner.Section.{Members, members_from}
use Rattle.pddl_section.specs.declared.Act.{Act}
use Rattle.pddl_section.specs.declared.Member.{Member}

-- the empty table
pub no_names : (text : List ℕ) → Ready text []
no_names text =
    record { spans_in = record { below = λ k d h. absurd (omega (arith, h)) }; few = omega arith }

-- ---- actions

module _ {text : List ℕ} {i : ℕ} {a : Act} (x : Acts text i (Some a)) where
  pub action-onward : (i < a.next) × (a.next ≤ length text)
  action-onward = (x.onward.0, x.onward.1)

  pub actions-next : actions_from text i ≡ action_of text a ∷ actions_from text a.next
  actions-next = items-on Pddl.action action-shorter (rest text i) _ (rest text a.next) (sym x.same)

pub actions-none : {text : List ℕ} {i : ℕ} → Acts text i None → actions_from text i ≡ []
actions-none {text} {i} x = items-out Pddl.action action-shorter (rest text i) (sym x.same)

abbrev pub Acting : List ℕ → ℕ → ℕ → Type 0
Acting text at i = Walked Pddl.action action-shorter text at i

pub acting_begin : (text : List ℕ) (at : ℕ) → Acting text at at
acting_begin text at = walked-begin Pddl.action action-shorter text at

module _ {text : List ℕ} {at i : ℕ} (g : Acting text at i) where
  pub acting_on : {a : Act} → Acts text i (Some a) → Acting text at a.next
  acting_on {a} x =
      walked_on Pddl.action action-shorter text at i g (action_of text a) a.next x.onward.0 (sym x.same)

  pub acting_end : Acts text i None → ActionsEnd text at i
  acting_end x =
      record { same = sym (walked_end Pddl.action action-shorter text at i g (sym x.same)); onward = g.low }

-- ---- members

module _ {text : List ℕ} {i : ℕ} {m : Member} (x : Members text i (Some m)) where
  pub member-onward : (i < m.problem.next) × (m.problem.next ≤ length text)
  member-onward = (x.onward.0.0, x.onward.0.1)

  pub members-next : members_from text i ≡ member_of text m ∷ members_from text m.problem.next
  members-next = items-on Pddl.member member-shorter (rest text i) _ (rest text m.problem.next) (sym x.same)

pub members-none : {text : List ℕ} {i : ℕ} → Members text i None → members_from text i ≡ []
members-none {text} {i} x = items-out Pddl.member member-shorter (rest text i) (sym x.same)
