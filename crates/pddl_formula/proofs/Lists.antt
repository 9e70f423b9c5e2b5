-- One formula by its first word, and the loop over a list of formulas.
use mathlib.Core.Path.{◌≡◌, refl, sym, ap, ◌∙◌}
use mathlib.Core.Bool.{Bool, true, false, ◌&&◌}
use mathlib.Core.List.{List, [], ◌∷◌, ◌++◌, flatten, append-nil, append_assoc}
use Prim.Native.Nat.{ℕ, suc, ◌-◌, ◌≤◌, ◌<◌}
use native.Mathlib.Omega.{arith}
use lib.ListN.{length}
use lib.Bits.{bit_or}
use Rattle.semantics.specs.Pddl as Pddl
use Rattle.semantics.specs.Pddl.{Token, opening, closing, word, same_token, small, same, and', not'}
use Rattle.semantics.specs.Pddl.{Parsed, outside, parsed, ◌then◌, many, expect, Literal, depth}
use Rattle.mask.specs.declared.Mask.{Mask}
use Rattle.mask.specs.Number.{number}
use Rattle.pddl_theory.specs.Inner.Place.{rest, span, leaves, items}
use Rattle.pddl_theory.proofs.Shorter.{formula-shorter}
use Rattle.pddl_theory.proofs.Chain.{items-on, items-out, leaves-on, leaves-out, list_parts}
use Rattle.pddl_theory.proofs.Sets.{same-eq}
use Rattle.pddl_token.specs.Inner.Next.{Next}
use Rattle.pddl_token.specs.declared.Token as T
use Rattle.pddl_token.specs.declared.Token.TheVariants.{Open, Close, Word, End, Stray}
use Rattle.std.specs.Prelude.{Option, Some, None}
use Rattle.pddl_form.specs.Inner.Place.{Opens}
use Rattle.pddl_name.specs.declared.Span.{Span}
use Rattle.pddl_formula.specs.declared.Literals.{Literals}
use Rattle.pddl_formula.specs.Inner.Formula.{conjuncts}
use Rattle.pddl_formula.specs.Inner.Formula.{LiteralAt, NegationAt, FormulaAt, ListAt, Goes}
use Rattle.pddl_formula.proofs.Openings.{opened, not_opened, then-opening, then-closing, then-stray}
use Rattle.pddl_formula.proofs.Openings.{then-end, and_deep, and-read, not-read, not_barred, plain}
use Rattle.pddl_formula.proofs.Meanings.{Tells, tells_none, tells-append, means-read, means-from}
use Rattle.pddl_formula.proofs.Meanings.{Read, read_of}

-- ---- one formula

-- the bytes `and` and `not`
and-spelt : span and' 0 3 ≡ and'
unfolding small
and-spelt = refl

not-spelt : span not' 0 3 ≡ not'
unfolding small
not-spelt = refl

module _ (text : List ℕ) (spans : List Span) (more : ℕ) (negations : Bool) (d at : ℕ) where
  abbrev whole : Parsed (List Literal)
  whole = Pddl.formula negations d (opening ∷ rest text at)

  begun : {ts : List Token} → rest text at ≡ ts → whole ≡ Pddl.formula negations d (opening ∷ ts)
  begun e = ap (λ (us : List Token). Pddl.formula negations d (opening ∷ us)) e

  -- no word
  pub no_word : (t : T.Token) → Next text at t → ((s e : ℕ) → t ≡ Word s e → ⊥)
      → FormulaAt text spans more negations d at None
  no_word (Open n) x h = record { means = begun x.same ∙ then-opening negations d (rest text n) }
  no_word (Close n) x h = record { means = begun x.same ∙ then-closing negations d (rest text n) }
  no_word (Word s e) x h = absurd (h s e refl)
  no_word End x h = record { means = begun x.same ∙ then-end negations d }
  no_word Stray x h = record { means = begun x.same ∙ then-stray negations d }

  -- a word
  module _ (s e : ℕ) (x : Next text at (Word s e)) where
    pub word_in : e ≤ length text
    word_in = x.onward.2

    low : at ≤ e
    low = omega (arith, x.onward.0, x.onward.1)

    first : whole ≡ Pddl.formula negations d (opening ∷ word (span text s e) ∷ rest text e)
    first = begun x.same

    module _ (a : Bool) (is-and : a ≡ same (span text s e) (span and' 0 3)) where
      module _ (h : a ≡ true) where
        spelt-and : span text s e ≡ and'
        spelt-and = same-eq (span text s e) and' (ap (same (span text s e)) (sym and-spelt) ∙ sym is-and ∙ h)

        and_first : whole ≡ Pddl.formula negations d (opening ∷ word and' ∷ rest text e)
        and_first = first ∙ ap (λ (v : List ℕ). Pddl.formula negations d (opening ∷ word v ∷ rest text e)) spelt-and

        pub deep_and : d ≡ 0 → FormulaAt text spans more negations d at None
        deep_and z = record { means = and_first ∙ rw z (and_deep negations (rest text e)) }

        pub an_and : (r : Option Literals) → (d ≡ 0 → ⊥) → ListAt text spans more negations (d - 1) e r
            → FormulaAt text spans more negations d at r
        an_and r z l =
            let q : d ≡ suc (d - 1) = omega (arith, z) in
            let f : Pddl.formula negations d (opening ∷ word and' ∷ rest text e)
            ≡ Pddl.formula negations (suc (d - 1)) (opening ∷ word and' ∷ rest text e)
            = ap (λ (k : ℕ). Pddl.formula negations k (opening ∷ word and' ∷ rest text e)) q in
            record {
              means = means-from text spans more (conjuncts negations (d - 1) (rest text e)) whole r l.means low
                  (and_first ∙ f ∙ and-read negations (rest text e) (d - 1));
            }

      module _ (o : a ≡ false) (b : Bool) (is-not : b ≡ same (span text s e) (span not' 0 3)) where
        module _ (h : b ≡ true) where
          spelt-not : span text s e ≡ not'
          spelt-not = same-eq (span text s e) not' (ap (same (span text s e)) (sym not-spelt) ∙ sym is-not ∙ h)

          not_first : whole ≡ Pddl.formula negations d (opening ∷ word not' ∷ rest text e)
          not_first = first ∙ ap (λ (v : List ℕ). Pddl.formula negations d (opening ∷ word v ∷ rest text e)) spelt-not

          pub a-not : (r : Option Literals) → negations ≡ true → NegationAt text spans more e r
              → FormulaAt text spans more negations d at r
          a-not r z l =
              record {
                means = means-from text spans more _ whole r l.means low (not_first ∙ rw z (not-read d (rest text e)));
              }

          pub barred_not : negations ≡ false → FormulaAt text spans more negations d at None
          barred_not z = record { means = not_first ∙ rw z (not_barred d (rest text e)) }

        pub an_atom : (r : Option Literals) → b ≡ false → LiteralAt text spans more s e r
            → FormulaAt text spans more negations d at r
        an_atom r h l =
            let n : same (span text s e) and' ≡ false
            = ap (same (span text s e)) (sym and-spelt) ∙ sym is-and ∙ o in
            let m : same (span text s e) not' ≡ false
            = ap (same (span text s e)) (sym not-spelt) ∙ sym is-not ∙ h in
            record {
              means = means-from text spans more _ whole r l.means low
                  (first ∙ plain (span text s e) (rest text e) negations d n m);
            }

-- ---- a list of formulas

-- the literals of the formulas up to i, with their masks; the others of the list stand from i on
pub record Listing (text : List ℕ) (spans : List Span) (more : ℕ) (negations : Bool) (d at : ℕ) (adds dels : Mask)
    (names : Bool)
    (i : ℕ) : Type 0 where
  pub done : List Literal
  pub low : at ≤ i
  pub tells : Tells text spans more done (number adds) (number dels) names
  pub parts : flatten (items (many (Pddl.formula negations d) (rest text at)))
      ≡ done ++ flatten (items (many (Pddl.formula negations d) (rest text i)))
  pub behind : leaves (many (Pddl.formula negations d) (rest text at))
      ≡ leaves (many (Pddl.formula negations d) (rest text i))

pub list_begin : (text : List ℕ) (spans : List Span) (more : ℕ) (negations : Bool) (d at : ℕ) (a d' : Mask)
    → number a ≡ 0 → number d' ≡ 0 → Listing text spans more negations d at a d' true at
list_begin text spans more negations d at a d' p q =
    record { done = []; low = omega arith; tells = tells_none text spans more _ _ p q; parts = refl; behind = refl }

module _ {text : List ℕ} {spans : List Span} {more : ℕ} {negations : Bool} {d at : ℕ} {adds dels : Mask} {names : Bool}
    {i : ℕ} (g : Listing text spans more negations d at adds dels names i) where
  abbrev one : List Token → Parsed (List Literal)
  one = Pddl.formula negations d

  -- the list ends before i
  module _ (o : one (rest text i) ≡ outside) where
    all-parts : flatten (items (many one (rest text at))) ≡ g.done
    unfolding flatten
    all-parts =
        g.parts ∙ ap (λ (ps : List (List Literal)). g.done ++ flatten ps)
        (items-out one (formula-shorter negations d) (rest text i) o) ∙ append-nil g.done

    all-behind : leaves (many one (rest text at)) ≡ parsed tt (rest text i)
    all-behind = g.behind ∙ leaves-out one (formula-shorter negations d) (rest text i) o

    list_left : (p : Parsed (Unit {0})) → expect (closing ∷ []) (rest text i) ≡ p
        → conjuncts negations d (rest text at) ≡ (p then λ _ ts. parsed g.done ts)
    list_left p e =
        list_parts (many one (rest text at)) (λ ps ts. expect (closing ∷ []) ts then λ _ ts. parsed (flatten ps) ts)
        ∙ rw (all-behind, all-parts, e)

    list_none : expect (closing ∷ []) (rest text i) ≡ outside → ListAt text spans more negations d at None
    list_none e = record { means = list_left outside e }

  -- no formula and no end of the list
  neither : (ts : List Token) → rest text i ≡ ts → expect (opening ∷ []) ts ≡ outside
      → expect (closing ∷ []) ts ≡ outside → ListAt text spans more negations d at None
  neither ts e o c = list_none (ap one e ∙ not_opened negations d ts o) (ap (expect (closing ∷ [])) e ∙ c)

  pub list_neither : (t : T.Token) → Next text i t → ((n : ℕ) → t ≡ Open n → ⊥) → ((n : ℕ) → t ≡ Close n → ⊥)
      → ListAt text spans more negations d at None
  unfolding expect same_token
  list_neither (Open n) x o c = absurd (o n refl)
  list_neither (Close n) x o c = absurd (c n refl)
  list_neither (Word s e) x o c = neither _ x.same refl refl
  list_neither End x o c = neither _ x.same refl refl
  list_neither Stray x o c = neither _ x.same refl refl

  pub list_end : (n : ℕ) → Next text i (Close n)
      → ListAt text spans more negations d at (Some (record { adds = adds; dels = dels; known = names; next = n }))
  unfolding expect same_token
  list_end n c =
      let o : one (rest text i) ≡ outside
      = ap one c.same ∙ not_opened negations d (closing ∷ rest text n) refl in
      let e : expect (closing ∷ []) (rest text i) ≡ parsed tt (rest text n) = ap (expect (closing ∷ [])) c.same in
      let low : at < n = omega (arith, c.onward.0, g.low) in
      record {
        means = means-read (conjuncts negations d (rest text at)) g.done n adds dels names
            (list_left o (parsed tt (rest text n)) e) (low, c.onward.1) g.tells;
      }

  -- a formula stands at i
  module _ (n : ℕ) (x : Next text i (Open n)) where
    pub list_out : FormulaAt text spans more negations d n None → ListAt text spans more negations d at None
    unfolding expect same_token
    list_out y = list_none (ap one x.same ∙ y.means) (ap (expect (closing ∷ [])) x.same)

    module _ (f : Literals) (y : FormulaAt text spans more negations d n (Some f)) where
      onward : (i < f.next) × (f.next ≤ length text)
      onward = (omega (arith, x.onward.0, y.means.onward.0), y.means.onward.1)

      pub list_less : length text - f.next < length text - i
      list_less = omega (arith, onward.0, onward.1)

      pub list_on : (a d' : Mask) → number a ≡ bit_or (number adds) (number f.adds)
          → number d' ≡ bit_or (number dels) (number f.dels)
          → Listing text spans more negations d at a d' (names && f.known) f.next
      unfolding flatten
      list_on a d' is-a is-d =
          let l : Read text spans more (one (opening ∷ rest text n)) f
          = read_of (one (opening ∷ rest text n)) f y.means in
          let is : one (rest text i) ≡ parsed l.literals (rest text f.next) = ap one x.same ∙ l.is in
          let more_parts : List Literal = flatten (items (many one (rest text f.next))) in
          record {
            done = g.done ++ l.literals;
            low = omega (arith, g.low, onward.0);
            tells = rw (is-a, is-d)
                (tells-append text spans more g.done l.literals (number adds) (number dels) (number f.adds)
                (number f.dels) names f.known g.tells l.tells);
            parts = g.parts
                ∙ ap (λ (ps : List (List Literal)). g.done ++ flatten ps)
                (items-on one (formula-shorter negations d) (rest text i) l.literals (rest text f.next) is)
                ∙ sym (append_assoc g.done l.literals more_parts);
            behind = g.behind
                ∙ leaves-on one (formula-shorter negations d) (rest text i) l.literals (rest text f.next) is;
          }

-- ---- from an offset on

module _ {text : List ℕ} {spans : List Span} {more : ℕ} {negations : Bool} {at : ℕ} where
  pub goes_at : (n : ℕ) → Opens text at (Some n) → (r : Option Literals) → FormulaAt text spans more negations depth n r
      → Goes text spans more negations at r
  goes_at n x r y =
      let low : at ≤ n = omega (arith, x.onward.0) in
      record {
        means = means-from text spans more _ (Pddl.formula negations depth (rest text at)) r y.means low
            (ap (Pddl.formula negations depth) (opened (rest text at) (rest text n) (sym x.same)));
      }

  pub goes-out : Opens text at None → Goes text spans more negations at None
  goes-out x = record { means = not_opened negations depth (rest text at) (sym x.same) }
