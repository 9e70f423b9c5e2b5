-- A formula's parts: a fact, an atom, a negation.
use mathlib.Core.Path.{◌≡◌, sym, ◌∙◌}
use mathlib.Core.Bool.{Bool, true, false}
use mathlib.Core.List.{List, [], ◌∷◌}
use Prim.Native.Nat.{ℕ, ◌^◌, ◌<◌}
use native.Mathlib.Omega.{arith}
use Rattle.std.specs.Prelude.{Some, None}
use Rattle.semantics.specs.Pddl.{opening, word, same_token, is_name}
use Rattle.semantics.specs.Pddl.{Parsed, parsed, Literal, expect, name, atom, literal, is_in}
use Rattle.mask.specs.declared.Mask.{Mask}
use Rattle.mask.specs.Number.{number}
use Rattle.pddl_theory.specs.Inner.Limits.{most_facts}
use Rattle.pddl_theory.specs.Inner.Place.{rest, span}
use Rattle.pddl_theory.proofs.Sets.{is_in-append}
use Rattle.pddl_name.specs.declared.Span.{Span}
use Rattle.pddl_name.specs.Inner.Table.{names_in, Looked}
use Rattle.pddl_form.specs.declared.Word.{Word}
use Rattle.pddl_form.specs.Inner.Place.{atoms_from, Closes, Atoms}
use Rattle.pddl_formula.specs.declared.Fact.{Fact}
use Rattle.pddl_formula.specs.Inner.Formula.{Ready, FactOf, negated, LiteralAt, NegationAt}
use Rattle.pddl_formula.proofs.Meanings.{tells-added, tells_deleted, means-read}

-- ---- a fact

module _ (text : List ℕ) (spans : List Span) (s e : ℕ) where
  abbrev look : List (List ℕ)
  look = names_in text spans

  module _ (k : ℕ) (l : Looked look (span text s e) (Some k)) where
    pub fact-few : Ready text spans → k < most_facts
    fact-few x = omega (arith, l.in_range, x.few)

    pub fact-here : (more : ℕ) (b : Mask) → number b ≡ 2 ^ k
        → FactOf text spans more s e (record { bit = b; known = true })
    fact-here more b p =
        record {
          bit = p ∙ sym l.bit;
          names = sym (is_in-append look (atoms_from text more) (span text s e) ∙ rw l.there);
        }

  pub fact-absent : Looked look (span text s e) None → (more : ℕ) (b : Mask) → number b ≡ 0 → (k : Bool)
      → k ≡ is_in (atoms_from text more) (span text s e)
      → FactOf text spans more s e (record { bit = b; known = k })
  fact-absent l more b z k p =
      record {
        bit = z ∙ sym l.no-bit;
        names = p ∙ sym (is_in-append look (atoms_from text more) (span text s e) ∙ rw l.not_there);
      }

-- ---- an atom

module _ (text : List ℕ) (spans : List Span) (more s e : ℕ) (b : Bool) (is : b ≡ is_name (span text s e)) where
  abbrev whole : Parsed (List Literal)
  whole = literal (opening ∷ word (span text s e) ∷ rest text e)

  abbrev fact : Literal
  fact = record { fact = span text s e; negated = false }

  pub no_name : b ≡ false → LiteralAt text spans more s e None
  unfolding literal atom expect same_token name
  no_name h = record { means = rw (sym is ∙ h) }

  module _ (h : b ≡ true) where
    pub not-closed : Closes text e None → LiteralAt text spans more s e None
    unfolding literal atom expect same_token name
    not-closed c = record { means = rw (sym is ∙ h, ← c.same) }

    module _ (n : ℕ) (c : Closes text e (Some n)) where
      atom-read : whole ≡ parsed (fact ∷ []) (rest text n)
      unfolding literal atom expect same_token name
      atom-read = rw (sym is ∙ h, ← c.same)

      pub atom_in : (f : Fact) → FactOf text spans more s e f → (o : Mask) → number o ≡ 0
          → LiteralAt text spans more s e (Some (record { adds = f.bit; dels = o; known = f.known; next = n }))
      atom_in f y o none =
          record {
            means = means-read whole (fact ∷ []) n f.bit o f.known atom-read c.onward
                (tells-added text spans more (span text s e) (number f.bit) (number o) none f.known y.bit y.names);
          }

-- ---- a negation

module _ (text : List ℕ) (spans : List Span) (more at : ℕ) where
  pub no-atom : Atoms text at None → NegationAt text spans more at None
  no-atom x = record { means = rw (← x.same) }

  module _ (a : Word) (x : Atoms text at (Some a)) where
    abbrev lit : Literal
    lit = record { fact = span text a.first a.end; negated = true }

    pub not-ended : Closes text a.next None → NegationAt text spans more at None
    not-ended c = record { means = rw (← x.same, ← c.same) }

    module _ (n : ℕ) (c : Closes text a.next (Some n)) where
      negation-read : negated (rest text at) ≡ parsed (lit ∷ []) (rest text n)
      negation-read = rw (← x.same, ← c.same)

      pub negation_in : (f : Fact) → FactOf text spans more a.first a.end f → (o : Mask) → number o ≡ 0
          → NegationAt text spans more at (Some (record { adds = o; dels = f.bit; known = f.known; next = n }))
      negation_in f y o none =
          record {
            means = means-read (negated (rest text at)) (lit ∷ []) n o f.bit f.known negation-read
                (omega (arith, x.onward.0, c.onward.0), c.onward.1)
                (tells_deleted text spans more (span text a.first a.end) (number f.bit) (number o) none f.known y.bit
                y.names);
          }
