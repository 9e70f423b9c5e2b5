-- What the formula reader's functions say.
use Rattle.std.specs.Prelude.{◌≡◌, Bool, true, false, ℕ, ◌≤◌, ◌<◌, length, Option, Some, None}
use mathlib.Core.List.{List, [], ◌∷◌, ◌++◌, flatten}
use Rattle.semantics.specs.Pddl as Pddl
use Rattle.semantics.specs.Pddl.{Token, opening, closing, word}
use Rattle.semantics.specs.Pddl.{Parsed, outside, parsed, ◌then◌, many, expect}
use Rattle.semantics.specs.Pddl.{Literal, literal, known, is_in, bit_from, mask_of, facts_of, depth}
use Rattle.mask.specs.Number.{number}
use Rattle.pddl_theory.specs.Inner.Limits.{most_facts}
use Rattle.pddl_theory.specs.Inner.Place.{rest, span, leaves, items}
use Rattle.pddl_name.specs.declared.Span.{Span}
use Rattle.pddl_name.specs.Inner.Table.{names_in, Spans}
use Rattle.pddl_form.specs.Inner.Place.{atoms_from}
use Rattle.pddl_formula.specs.declared.Literals.{Literals}
use Rattle.pddl_formula.specs.declared.Fact.{Fact}

-- the table's offsets lie in the text, and it has at most 128 names
pub record Ready (text : List ℕ) (spans : List Span) : Type 0 where
  pub spans_in : Spans (length text) spans
  pub few : length (names_in text spans) ≤ most_facts

-- the word s..e as a fact: its bit in the table, and whether it is a name of the table or an atom from `more` on
pub record FactOf (text : List ℕ) (spans : List Span) (more s e : ℕ) (r : Fact) : Type 0 where
  pub bit : number r.bit ≡ bit_from 1 (names_in text spans) (span text s e)
  pub names : r.known ≡ is_in (names_in text spans ++ atoms_from text more) (span text s e)

-- what an answer says of the literals that are read, where the table has the first names and the atoms from `more` on
-- are the others
pub record Told (text : List ℕ) (spans : List Span) (more at : ℕ) (reading : Parsed (List Literal)) (r : Literals)
    : Type 0 where
  pub place : leaves reading ≡ parsed tt (rest text r.next)
  pub onward : (at < r.next) × (r.next ≤ length text)
  pub adds : number r.adds ≡ mask_of (names_in text spans) (facts_of false (items reading))
  pub dels : number r.dels ≡ mask_of (names_in text spans) (facts_of true (items reading))
  pub names : r.known ≡ known (names_in text spans ++ atoms_from text more) (items reading)

-- the same, or none outside the subset
abbrev pub Means : List ℕ → List Span → ℕ → ℕ → Parsed (List Literal) → Option Literals → Type 0
Means text spans more at reading None = reading ≡ outside
Means text spans more at reading (Some r) = Told text spans more at reading r

-- behind `(not`
abbrev pub negated : List Token → Parsed (List Literal)
negated ts =
    Pddl.atom ts then λ w ts. expect (closing ∷ []) ts then λ _ ts.
    parsed (record { fact = w; negated = true } ∷ []) ts

-- behind `(and`
abbrev pub conjuncts : Bool → ℕ → List Token → Parsed (List Literal)
conjuncts negations d ts =
    many (Pddl.formula negations d) ts then λ parts ts. expect (closing ∷ []) ts then λ _ ts. parsed (flatten parts) ts

-- the word s..e and what stands behind it, as an atom without its opening parenthesis
pub record LiteralAt (text : List ℕ) (spans : List Span) (more s e : ℕ) (r : Option Literals) : Type 0 where
  pub means : Means text spans more e (literal (opening ∷ word (span text s e) ∷ rest text e)) r

pub record NegationAt (text : List ℕ) (spans : List Span) (more at : ℕ) (r : Option Literals) : Type 0 where
  pub means : Means text spans more at (negated (rest text at)) r

-- behind an opening parenthesis
pub record FormulaAt (text : List ℕ) (spans : List Span) (more : ℕ) (negations : Bool) (d at : ℕ)
    (r : Option Literals) : Type 0 where
  pub means : Means text spans more at (Pddl.formula negations d (opening ∷ rest text at)) r

pub record ListAt (text : List ℕ) (spans : List Span) (more : ℕ) (negations : Bool) (d at : ℕ) (r : Option Literals)
    : Type 0 where
  pub means : Means text spans more at (conjuncts negations d (rest text at)) r

pub record Goes (text : List ℕ) (spans : List Span) (more : ℕ) (negations : Bool) (at : ℕ) (r : Option Literals)
    : Type 0 where
  pub means : Means text spans more at (Pddl.formula negations depth (rest text at)) r
