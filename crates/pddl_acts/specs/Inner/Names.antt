-- The names of actions, and what the table of the first names holds.
use Rattle.std.specs.Prelude.{◌≡◌, List, map, ℕ, ◌≤◌, ◌<◌, length, take, set}
use Rattle.pddl_name.specs.declared.Span.{Span}
use Rattle.pddl_name.specs.Inner.Table.{names_in, Spans}
use Rattle.pddl_section.specs.Inner.Section.{actions_from}

-- the names of the actions from an offset on
abbrev pub called_from : List ℕ → ℕ → List (List ℕ)
called_from text at = map (λ a. a.called) (actions_from text at)

-- name n went into the table, if it has room for it
pub record Noted (before : List Span) (n : ℕ) (name : Span) (after : List Span) : Type 0 where
  pub stored : n < 256 → after ≡ set before n name

-- the table has the names of all `count` actions, if it has room for so many
pub record NamesIn (text : List ℕ) (at : ℕ) (names : List Span) (count : ℕ) : Type 0 where
  pub spans_in : count ≤ 256 → Spans (length text) (take count names)
  pub whole : count ≤ 256 → called_from text at ≡ names_in text (take count names)
