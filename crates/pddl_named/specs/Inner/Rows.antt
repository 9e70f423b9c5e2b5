-- What is read of a member, and of all members, in one pass.
use Rattle.std.specs.Prelude.{◌≡◌, Bool, false, List, ◌++◌, ℕ, ◌*◌, ◌≤◌, ◌<◌, length, Option, Some, is_some}
use Rattle.semantics.specs.Base.{all_of}
use Rattle.semantics.specs.Words.{row_words}
use Rattle.semantics.specs.Task.{row_width}
use Rattle.semantics.specs.Pddl.{well_named, actions_of, action_rows, goal_rows, mask_of, facts_of, known}
use Rattle.pddl_theory.specs.Inner.Appended.{Appended}
use Rattle.pddl_name.specs.declared.Span.{Span}
use Rattle.pddl_name.specs.Inner.Table.{names_in}
use Rattle.pddl_form.specs.Inner.Place.{atoms_from}
use Rattle.pddl_section.specs.declared.Member.{Member}
use Rattle.pddl_section.specs.Inner.Section.{actions_from, literals_at, member_of, members_from}
use Rattle.pddl_words.specs.Inner.Built.{Rows}
use Rattle.pddl_acts.specs.declared.Own.{Own}
use Rattle.pddl_acts.specs.Inner.Own.{RowsIn}
use Rattle.pddl_named.specs.declared.Common.{Common}

-- a goal: whether its facts are known; its row, as that of the member with this number, went into the table, if it has
-- room for it
pub record GoalIn (text : List ℕ) (spans : List Span) (more : ℕ) (goal : ℕ) (before : List ℕ) (owner : ℕ)
    (after : List ℕ)
    (r : Bool) : Type 0 where
  pub names : r ≡ known (names_in text spans ++ atoms_from text more) (literals_at text false goal)
  pub stored : owner < 8
      → Appended before (row_width * owner)
      (row_words owner (mask_of (names_in text spans) (facts_of false (literals_at text false goal))) 0 0 0) after

-- a member: its actions, whether it is well named, its actions' rows and its goal row
pub record MemberIn (text : List ℕ) (spans : List Span) (c : Common) (m : Member) (masks before goals₀ : List ℕ)
    (owner first : ℕ)
    (after goals : List ℕ) (r : Own) : Type 0 where
  pub number : r.count ≡ length (actions_from text m.domain.actions)
  pub names : r.named
      ≡ well_named (atoms_from text c.predicates) (atoms_from text c.initially) (member_of text m)
  pub rows_in : RowsIn text spans masks before m.domain.actions owner first after
  pub goal : Bool
  pub goal_in : GoalIn text spans c.more m.problem.goal goals₀ owner goals goal

-- all members: none where one is not well named, and else how many actions they have, and their rows
pub record MembersIn (text : List ℕ) (spans : List Span) (c : Common) (masks before goals₀ after goals : List ℕ)
    (r : Option ℕ) : Type 0 where
  pub names : is_some r
      ≡ all_of (well_named (atoms_from text c.predicates) (atoms_from text c.initially)) (members_from text 0)
  pub number : (n : ℕ) → r ≡ Some n → n ≡ length (actions_of (members_from text 0))
  pub rows : (n : ℕ) → r ≡ Some n → n ≤ 256
      → Rows masks before 0 (λ waits. action_rows (names_in text spans) waits 0 0 (members_from text 0)) after
  pub goal-rows : (n : ℕ) → r ≡ Some n → length (members_from text 0) ≤ 8
      → Appended goals₀ 0 (goal_rows (names_in text spans) 0 (members_from text 0)) goals
