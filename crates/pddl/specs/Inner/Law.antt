-- What is known of a law at each stage of the reader.
use Rattle.std.specs.Prelude.{◌≡◌, Bool, true, not, ◌&&◌, List, [], ◌++◌, ℕ, ◌+◌, ◌*◌, ◌≤◌, length, take, leb, Option}
use Rattle.std.specs.Prelude.{Some, is_some, Result, Ok, Err}
use Rattle.semantics.specs.Base.{all_of, ◌if◌, ◌else◌}
use Rattle.semantics.specs.Task.{row_width, check}
use Rattle.semantics.specs.Text.{records, is_record, text_words}
use Rattle.semantics.specs.Pddl.{members_of, predicates_of, initially_of, actions_of, named, in_limits, words_of, is_in}
use Rattle.semantics.specs.Pddl as Pddl
use Rattle.semantics.specs.Pddl.{none_twice, well_named, goal_rows, action_rows}
use Rattle.mask.specs.Number.{number}
use Rattle.refusal.specs.declared.Refusal.{Refusal}
use Rattle.refusal.specs.Number.{code}
use Rattle.pddl_waits.specs.declared.Greatest.{Greatest}
use Rattle.pddl_waits.specs.Inner.Waits.{Read}
use Rattle.pddl_name.specs.declared.Span.{Span}
use Rattle.pddl_name.specs.Inner.Table.{names_in}
use Rattle.pddl_form.specs.Inner.Place.{atoms_from}
use Rattle.pddl_formula.specs.Inner.Formula.{Ready}
use Rattle.pddl_section.specs.declared.Member.{Member}
use Rattle.pddl_section.specs.Inner.Section.{members_from}
use Rattle.pddl_members.specs.declared.Entry.{Entry}
use Rattle.pddl_members.specs.Inner.Kept.{Kept}
use Rattle.pddl_theory.specs.Inner.Limits.{most_facts}
use Rattle.pddl_theory.specs.Inner.Appended.{Appended}
use Rattle.pddl_words.specs.Inner.Built.{head_words, Rows}
use Rattle.pddl_named.specs.declared.Common.{Common}
use Rattle.pddl_named.specs.Inner.Common.{CommonIn}

-- the words of the longest law: a row 0, eight goal rows, 256 rows of actions
abbrev pub most_words : ℕ
most_words = row_width * (1 + 8 + 256)

-- the words of a law
abbrev pub law_words : List ℕ → List ℕ → List ℕ
law_words text waits = words_of (predicates_of (members_of text)) (text_words waits) (members_of text)

-- the first refusal before the word slice is looked at
abbrev pub law_refusal : List ℕ → List ℕ → ℕ
law_refusal text waits =
    (15 if not (all_of (is_record 2) (records waits))) else (16 if leb (length (members_of text)) 0)
    else (17 if not (named (members_of text) (text_words waits))) else (18 if not (in_limits (members_of text)))
    else check (law_words text waits)

-- the text has members, the first of which stand in a table, and this is the first; the first predicates stand in
-- another table, the others from an offset on
pub record Begun (text : List ℕ) (spans : List Span) (more : ℕ) (places : List Entry) (m : Member) (members : ℕ)
    : Type 0 where
  pub held : Kept text places
  pub number : members ≡ length (members_of text)
  pub some : members ≡ 0 → ⊥
  pub from_start : members_of text ≡ members_from text 0
  pub the_predicates : predicates_of (members_from text 0) ≡ atoms_from text m.domain.predicates
  pub the_initial : initially_of (members_from text 0) ≡ atoms_from text m.problem.initially
  pub ready : Ready text spans
  pub whole : atoms_from text m.domain.predicates ≡ names_in text spans ++ atoms_from text more
  pub all : length (atoms_from text m.domain.predicates) ≤ most_facts → atoms_from text more ≡ []

-- what the members share is known
pub record Naming (text : List ℕ) (spans : List Span) (places : List Entry) (c : Common) (known : Bool) : Type 0 where
  pub held : Kept text places
  pub some : length (members_from text 0) ≡ 0 → ⊥
  pub the_predicates : predicates_of (members_from text 0) ≡ atoms_from text c.predicates
  pub the_initial : initially_of (members_from text 0) ≡ atoms_from text c.initially
  pub initially : known ≡ all_of (is_in (atoms_from text c.predicates)) (atoms_from text c.initially)
  pub common : known ≡ true → CommonIn text spans c

-- the names of the text hold
abbrev pub names_hold : List Pddl.Member → Bool
names_hold ms = none_twice (predicates_of ms) && all_of (well_named (predicates_of ms) (initially_of ms)) ms

-- none where the text's names do not hold, and else how many actions it has, their rows and the goal rows
pub record NamedIn (text : List ℕ) (spans : List Span) (masks before goals₀ after goals : List ℕ) (r : Option ℕ)
    : Type 0 where
  pub names : is_some r ≡ names_hold (members_from text 0)
  pub number : (n : ℕ) → r ≡ Some n → n ≡ length (actions_of (members_from text 0))
  pub rows : (n : ℕ) → r ≡ Some n → n ≤ 256
      → Rows masks before 0 (λ ws. action_rows (names_in text spans) ws 0 0 (members_from text 0)) after
  pub goal-rows : (n : ℕ) → r ≡ Some n → length (members_from text 0) ≤ 8
      → Appended goals₀ 0 (goal_rows (names_in text spans) 0 (members_from text 0)) goals

-- the rows of a law, where those of goals and actions are the first words of tables
abbrev pub rows_of : Common → ℕ → ℕ → List ℕ → List ℕ → List ℕ
rows_of c members actions goals acts =
    (head_words c.facts members actions (number c.mask) ++ take (row_width * members) goals)
    ++ take (row_width * actions) acts

-- the rows stand at the front of the table, and this is what the task check says of them
pub record BuiltOf (c : Common) (members actions : ℕ) (goals acts table : List ℕ) (r : Result (Unit {0}) Refusal)
    : Type 0 where
  pub room : row_width * (1 + members + actions) ≤ length table
  pub words : take (row_width * (1 + members + actions)) table ≡ rows_of c members actions goals acts
  pub checked : code r ≡ check (rows_of c members actions goals acts)

-- the law's rows, so many, at the front of the table
pub record Law (text waits table : List ℕ) (records : ℕ) : Type 0 where
  pub room : row_width * records ≤ length table
  pub number : records ≡ 1 + length (members_of text) + length (actions_of (members_of text))
  pub words : take (row_width * records) table ≡ law_words text waits

abbrev pub Laws : List ℕ → List ℕ → List ℕ → Result ℕ Refusal → Type 0
Laws text waits table (Ok n) = Law text waits table n
Laws text waits table (Err e) = Unit {0}

-- the first refusal; where there is none, the law's rows
pub record LawIn (text waits table : List ℕ) (r : Result ℕ Refusal) : Type 0 where
  pub refusal : code r ≡ law_refusal text waits
  pub law : Laws text waits table r

-- the same for whichever waits were read so
pub record LawFor (text : List ℕ) (w : Option Greatest) (masks table : List ℕ) (r : Result ℕ Refusal) : Type 0 where
  pub each : (waits : List ℕ) → Read waits masks w → LawIn text waits table r
