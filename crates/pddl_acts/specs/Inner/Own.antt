-- What is read of the actions from an offset on.
use Rattle.std.specs.Prelude.{◌≡◌, Bool, ◌&&◌, List, ◌++◌, ℕ, ◌+◌, ◌*◌, ◌≤◌, ◌<◌, length}
use Rattle.semantics.specs.Base.{all_of}
use Rattle.semantics.specs.Words.{row_words}
use Rattle.semantics.specs.Task.{row_width}
use Rattle.semantics.specs.Pddl.{known_action, none_twice, own_rows}
use Rattle.mask.specs.Number.{number}
use Rattle.mask.specs.Inner.Stored.{mask_at}
use Rattle.pddl_name.specs.declared.Span.{Span}
use Rattle.pddl_name.specs.Inner.Table.{names_in}
use Rattle.pddl_form.specs.Inner.Place.{atoms_from}
use Rattle.pddl_section.specs.declared.Act.{Act}
use Rattle.pddl_section.specs.Inner.Section.{actions_from}
use Rattle.pddl_theory.specs.Inner.Appended.{Appended}
use Rattle.pddl_words.specs.Inner.Built.{Rows}
use Rattle.pddl_acts.specs.declared.Tally.{Tally}
use Rattle.pddl_acts.specs.declared.Own.{Own}
use Rattle.pddl_acts.specs.Inner.Names.{called_from, NamesIn}

-- the row of the action with this number went into the table, if it has room for it
pub record Placed (masks before : List ℕ) (k owner : ℕ) (a : Act) (after : List ℕ) : Type 0 where
  pub stored : k < 256
      → Appended before (row_width * k)
      (row_words owner (number a.needs) (mask_at masks k) (number a.adds) (number a.dels)) after

-- are all facts that the actions name known?
abbrev pub all_known : List ℕ → List Span → ℕ → ℕ → Bool
all_known text spans more start =
    all_of (known_action (names_in text spans ++ atoms_from text more)) (actions_from text start)

-- the rows of the actions went into the table, each to its place, if it has room for all
pub record RowsIn (text : List ℕ) (spans : List Span) (masks before : List ℕ) (start owner first : ℕ)
    (after : List ℕ) : Type 0 where
  pub rows : first + length (actions_from text start) ≤ 256
      → Rows masks before (row_width * first)
      (λ waits. own_rows (names_in text spans) waits owner first (actions_from text start)) after

pub record Tallied (text : List ℕ) (spans : List Span) (more : ℕ) (masks before : List ℕ) (start owner first : ℕ)
    (after : List ℕ) (names : List Span) (r : Tally) : Type 0 where
  pub number : r.count ≡ length (actions_from text start)
  pub facts : r.known ≡ all_known text spans more start
  pub called : NamesIn text start names r.count
  pub rows_in : RowsIn text spans masks before start owner first after

pub record OwnIn (text : List ℕ) (spans : List Span) (more : ℕ) (masks before : List ℕ) (start owner first : ℕ)
    (after : List ℕ)
    (r : Own) : Type 0 where
  pub number : r.count ≡ length (actions_from text start)
  pub names : r.named ≡ (none_twice (called_from text start) && all_known text spans more start)
  pub rows_in : RowsIn text spans masks before start owner first after
