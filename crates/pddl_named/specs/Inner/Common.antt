-- What the members share, and where it stands.
use Rattle.std.specs.Prelude.{◌≡◌, true, false, List, [], ◌++◌, ℕ, ◌≤◌, length}
use Rattle.semantics.specs.Base.{all_of}
use Rattle.semantics.specs.Pddl.{is_in, mask_of, facts_of, known}
use Rattle.mask.specs.Number.{number}
use Rattle.pddl_theory.specs.Inner.Limits.{most_facts}
use Rattle.pddl_name.specs.declared.Span.{Span}
use Rattle.pddl_name.specs.Inner.Table.{names_in}
use Rattle.pddl_form.specs.Inner.Place.{atoms_from}
use Rattle.pddl_formula.specs.Inner.Formula.{Ready}
use Rattle.pddl_section.specs.Inner.Section.{literals_at}
use Rattle.pddl_named.specs.declared.Common.{Common}
use Rattle.pddl_named.specs.declared.Facts.{Facts}

-- the atoms from an offset on as facts: their mask over the table, and whether all are known
pub record FactsOf (text : List ℕ) (spans : List Span) (more at : ℕ) (r : Facts) : Type 0 where
  pub mask : number r.mask ≡ mask_of (names_in text spans) (atoms_from text at)
  pub names : r.known ≡ all_of (is_in (names_in text spans ++ atoms_from text more)) (atoms_from text at)

-- the goal at an offset as facts
pub record GoalOf (text : List ℕ) (spans : List Span) (more goal : ℕ) (r : Facts) : Type 0 where
  pub mask : number r.mask ≡ mask_of (names_in text spans) (facts_of false (literals_at text false goal))
  pub names : r.known ≡ known (names_in text spans ++ atoms_from text more) (literals_at text false goal)

-- the first predicates stand in the table, the others from an offset on, none where there are at most 128; the initial
-- facts are known
pub record CommonIn (text : List ℕ) (spans : List Span) (c : Common) : Type 0 where
  pub ready : Ready text spans
  pub facts : c.facts ≡ length (atoms_from text c.predicates)
  pub whole : atoms_from text c.predicates ≡ names_in text spans ++ atoms_from text c.more
  pub all : length (atoms_from text c.predicates) ≤ most_facts → atoms_from text c.more ≡ []
  pub all_known : all_of (is_in (atoms_from text c.predicates)) (atoms_from text c.initially) ≡ true
  pub mask : number c.mask ≡ mask_of (names_in text spans) (atoms_from text c.initially)
