-- What the token reader's functions say: they read on in the same tokens, and go on in the text.
use Rattle.std.specs.Prelude.{◌≡◌, false, List, [], ◌∷◌, ℕ, ◌≤◌, ◌<◌, length, drop, get_or, eqb}
use Rattle.semantics.specs.Pddl as Pddl
use Rattle.semantics.specs.Pddl.{is_blank, opening, closing, word, stray, comment, inner, tokens_from}
use Rattle.pddl_theory.specs.Inner.Place.{rest, span}
use Rattle.pddl_token.specs.declared.Token.{Token}
use Rattle.pddl_token.specs.declared.Token.TheVariants.{Open, Close, Word, End, Stray}

-- the tokens behind a comment's bytes from `at` on are those from r on
pub record LineEnd (text : List ℕ) (at r : ℕ) : Type 0 where
  pub low : at ≤ r
  pub high : r ≤ length text
  pub same : tokens_from comment (drop at text) ≡ rest text r

pub record Skipped (text : List ℕ) (at r : ℕ) : Type 0 where
  pub low : at ≤ r
  pub high : r ≤ length text
  pub same : rest text at ≡ rest text r
  pub no_blank : r < length text → is_blank (get_or text r 0) ≡ false
  pub no-comment : r < length text → eqb (get_or text r 0) 59 ≡ false

pub record WordEnd (text : List ℕ) (start at r : ℕ) : Type 0 where
  pub low : at ≤ r
  pub high : r ≤ length text
  pub same : tokens_from (inner (span text start at)) (drop at text) ≡ word (span text start r) ∷ rest text r

-- the tokens that a token and what follows it make
abbrev pub from : List ℕ → Token → List Pddl.Token
from text (Open n) = opening ∷ rest text n
from text (Close n) = closing ∷ rest text n
from text (Word s e) = word (span text s e) ∷ rest text e
from text End = []
from text Stray = stray ∷ []

-- a token stands behind the offset and within the text; a word has a first byte
abbrev pub Onward : ℕ → ℕ → Token → Type 0
Onward at most (Open n) = (at < n) × (n ≤ most)
Onward at most (Close n) = (at < n) × (n ≤ most)
Onward at most (Word s e) = (at ≤ s) × (s < e) × (e ≤ most)
Onward at most End = Unit {0}
Onward at most Stray = Unit {0}

pub record Next (text : List ℕ) (at : ℕ) (r : Token) : Type 0 where
  pub same : rest text at ≡ from text r
  pub onward : Onward at (length text) r
