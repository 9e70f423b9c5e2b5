-- A table of members.
use Rattle.std.specs.Prelude.{◌≡◌, List, ℕ, ◌≤◌, length, take, Some}
use Rattle.std.specs.List.{All}
use Rattle.semantics.specs.Pddl.{members_of}
use Rattle.pddl_section.specs.declared.Member.{Member}
use Rattle.pddl_section.specs.Inner.Section.{Members, members_from}
use Rattle.pddl_members.specs.declared.Entry.{Entry}
use Rattle.pddl_members.specs.declared.Counts.{Counts}

-- each entry has the member from its offset on
pub record Kept (text : List ℕ) (table : List Entry) : Type 0 where
  pub each : All (λ e. Members text e.at (Some e.member)) table

-- whichever text has the member at this offset: if the entries before were its, so are the r after
pub record Keeps (before : List Entry) (kept at : ℕ) (m : Member) (after : List Entry) (r : ℕ) : Type 0 where
  pub few : r ≤ 8
  pub as_long : length after ≡ length before
  pub each : (text : List ℕ) → Members text at (Some m) → Kept text (take kept before) → Kept text (take r after)

-- the number of members; where there is one, they are those from the text's start on
pub record Counted (text : List ℕ) (r : ℕ) : Type 0 where
  pub number : r ≡ length (members_of text)
  pub from_start : (r ≡ 0 → ⊥) → members_of text ≡ members_from text 0

-- the number of members, and the entries of some of them
pub record CountedIn (text : List ℕ) (r : Counts) (table : List Entry) : Type 0 where
  pub counted : Counted text r.members
  pub few : r.kept ≤ 8
  pub room : r.kept ≤ length table
  pub held : Kept text (take r.kept table)
