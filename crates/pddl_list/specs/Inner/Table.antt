-- What the table of the first names holds.
use Rattle.std.specs.Prelude.{◌≡◌, List, [], ◌++◌, ℕ, ◌≤◌, length, take}
use Rattle.pddl_theory.specs.Inner.Limits.{most_facts}
use Rattle.pddl_name.specs.declared.Span.{Span}
use Rattle.pddl_name.specs.Inner.Table.{names_in, Spans}
use Rattle.pddl_form.specs.Inner.Place.{atoms_from}
use Rattle.pddl_list.specs.declared.Table.{Table}

pub record Tabled (text : List ℕ) (at : ℕ) (spans : List Span) (r : Table) : Type 0 where
  pub room : r.count ≤ length spans
  pub few : r.count ≤ most_facts
  pub spans_in : Spans (length text) (take r.count spans)
  pub tabled : length (names_in text (take r.count spans)) ≡ r.count
  pub whole : atoms_from text at ≡ names_in text (take r.count spans) ++ atoms_from text r.more
  pub all : length (atoms_from text at) ≤ most_facts → atoms_from text r.more ≡ []
