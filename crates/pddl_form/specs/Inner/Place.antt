-- What stands at a place of a text.
use Rattle.std.specs.Prelude.{◌≡◌, Bool, true, false, List, [], ◌∷◌, ℕ, ◌≤◌, ◌<◌, length, Option, Some, None, unwrap_or}
use Rattle.semantics.specs.Pddl as Pddl
use Rattle.semantics.specs.Pddl.{opening, closing, tokens, Parsed, outside, parsed, many}
use Rattle.pddl_theory.specs.Inner.Place.{rest, span, leaves, items}
use Rattle.pddl_token.specs.declared.Token.{Token}
use Rattle.pddl_token.specs.declared.Token.TheVariants as T
use Rattle.pddl_form.specs.declared.Word.{Word}

-- ---- tokens and places

abbrev pub offset_of : Option ℕ → ℕ
offset_of p = unwrap_or p 0

abbrev pub behind_of : Token → Option ℕ
behind_of (T.Open n) = Some n
behind_of (T.Close n) = Some n
behind_of (T.Word s e) = Some e
behind_of T.End = None
behind_of T.Stray = None

-- a token of a text agrees with one of a pattern
abbrev pub agreed : List ℕ → Token → List ℕ → Token → Bool
agreed text (T.Open n) pattern (T.Open m) = true
agreed text (T.Close n) pattern (T.Open m) = false
agreed text (T.Word s e) pattern (T.Open m) = false
agreed text T.End pattern (T.Open m) = false
agreed text T.Stray pattern (T.Open m) = false
agreed text (T.Open n) pattern (T.Close m) = false
agreed text (T.Close n) pattern (T.Close m) = true
agreed text (T.Word s e) pattern (T.Close m) = false
agreed text T.End pattern (T.Close m) = false
agreed text T.Stray pattern (T.Close m) = false
agreed text (T.Open n) pattern (T.Word a b) = false
agreed text (T.Close n) pattern (T.Word a b) = false
agreed text (T.Word s e) pattern (T.Word a b) = Pddl.same (span pattern a b) (span text s e)
agreed text T.End pattern (T.Word a b) = false
agreed text T.Stray pattern (T.Word a b) = false
agreed text t pattern T.End = false
agreed text t pattern T.Stray = false

-- ---- what is read from a place on

-- the tokens behind a place; none is outside the subset
abbrev pub left : List ℕ → Option ℕ → Parsed (Unit {0})
left text None = outside
left text (Some n) = parsed tt (rest text n)

-- the word that was read, and the tokens behind it
abbrev pub word_of : List ℕ → Option Word → Parsed (List ℕ)
word_of text None = outside
word_of text (Some w) = parsed (span text w.first w.end) (rest text w.next)

-- the atoms from an offset on
abbrev pub atoms_from : List ℕ → ℕ → List (List ℕ)
atoms_from text at = items (many Pddl.atom (rest text at))

-- a place behind an offset, within the text
abbrev pub Behind : ℕ → ℕ → Option ℕ → Type 0
Behind most at None = Unit {0}
Behind most at (Some n) = (at < n) × (n ≤ most)

-- at an offset or behind it
abbrev pub NotBefore : ℕ → Option ℕ → Type 0
NotBefore at None = Unit {0}
NotBefore at (Some n) = at ≤ n

-- such an offset is there
abbrev pub Reached : ℕ → Option ℕ → Type 0
Reached at None = ⊥
Reached at (Some n) = at ≤ n

-- the word lies in the text, and what follows it behind the offset
abbrev pub WordBehind : ℕ → ℕ → Option Word → Type 0
WordBehind most at None = Unit {0}
WordBehind most at (Some w) = (at < w.next) × (w.next ≤ most) × (w.end ≤ most)

-- what is said of an offset, of a place: outside the subset nothing is read
abbrev pub From : {R : Type 0} → (ℕ → Option R → Type 0) → Option ℕ → Option R → Type 0
From says None r = r ≡ None
From says (Some at) r = says at r

pub record Opens (text : List ℕ) (at : ℕ) (r : Option ℕ) : Type 0 where
  pub same : left text r ≡ Pddl.expect (opening ∷ []) (rest text at)
  pub onward : Behind (length text) at r

pub record Closes (text : List ℕ) (at : ℕ) (r : Option ℕ) : Type 0 where
  pub same : left text r ≡ Pddl.expect (closing ∷ []) (rest text at)
  pub onward : Behind (length text) at r

pub record Expects (text : List ℕ) (at : ℕ) (pattern : List ℕ) (r : Option ℕ) : Type 0 where
  pub same : left text r ≡ Pddl.expect (tokens pattern) (rest text at)
  pub onward : NotBefore at r

pub record Names (text : List ℕ) (at : ℕ) (r : Option Word) : Type 0 where
  pub same : word_of text r ≡ Pddl.name (rest text at)
  pub onward : WordBehind (length text) at r

pub record Atoms (text : List ℕ) (at : ℕ) (r : Option Word) : Type 0 where
  pub same : word_of text r ≡ Pddl.atom (rest text at)
  pub onward : WordBehind (length text) at r

pub record AtomsEnd (text : List ℕ) (at : ℕ) (r : Option ℕ) : Type 0 where
  pub same : left text r ≡ leaves (many Pddl.atom (rest text at))
  pub onward : Reached at r
