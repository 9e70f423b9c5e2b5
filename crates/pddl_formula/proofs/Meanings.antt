-- What an answer tells of the literals that are read.
use mathlib.Core.Path.{◌≡◌, refl, sym, ap, ◌∙◌}
use mathlib.Core.Bool.{Bool, true, false, ◌&&◌, and-true}
use mathlib.Core.List.{List, [], ◌∷◌, ◌++◌}
use Prim.Native.Nat.{ℕ, ◌≤◌, ◌<◌}
use native.Mathlib.Omega.{arith}
use lib.ListN.{length}
use lib.Bits.{bit_or, or_add_and, and_le_r}
use Rattle.semantics.specs.Base.{all_of, collect}
use Rattle.semantics.specs.Pddl.{Parsed, outside, parsed, Literal, known, is_in, bit_from, mask_of, facts_of}
use Rattle.mask.specs.declared.Mask.{Mask}
use Rattle.mask.specs.Number.{number}
use Rattle.pddl_theory.specs.Inner.Place.{rest}
use Rattle.pddl_theory.proofs.Sets.{known-append, facts_of_append, mask_of_append}
use Rattle.pddl_name.specs.declared.Span.{Span}
use Rattle.pddl_name.specs.Inner.Table.{names_in}
use Rattle.std.specs.Prelude.{Option, Some, None}
use Rattle.pddl_form.specs.Inner.Place.{atoms_from}
use Rattle.pddl_formula.specs.declared.Literals.{Literals}
use Rattle.pddl_formula.specs.Inner.Formula.{Told, Means}
use Rattle.pddl_formula.proofs.Openings.{none_read, left-same}

-- ---- literals as masks

or-zero : (n : ℕ) → bit_or n 0 ≡ n
or-zero n = omega (arith, or_add_and n 0, and_le_r n 0)

module _ (text : List ℕ) (spans : List Span) (more : ℕ) where
  -- the masks of literals, and whether their names are known
  pub record Tells (ls : List Literal) (a d : ℕ) (k : Bool) : Type 0 where
    pub adds : a ≡ mask_of (names_in text spans) (facts_of false ls)
    pub dels : d ≡ mask_of (names_in text spans) (facts_of true ls)
    pub names : k ≡ known (names_in text spans ++ atoms_from text more) ls

  pub tells_none : (a d : ℕ) → a ≡ 0 → d ≡ 0 → Tells [] a d true
  unfolding mask_of collect all_of
  tells_none a d p q = record { adds = p; dels = q; names = refl }

  mask_append : (b : Bool) (xs ys : List Literal) → mask_of (names_in text spans) (facts_of b (xs ++ ys))
      ≡ bit_or (mask_of (names_in text spans) (facts_of b xs)) (mask_of (names_in text spans) (facts_of b ys))
  mask_append b xs ys =
      ap (mask_of (names_in text spans)) (facts_of_append b xs ys)
      ∙ mask_of_append (names_in text spans) (facts_of b xs) (facts_of b ys)

  pub tells-append : (xs ys : List Literal) (a d b e : ℕ) (k l : Bool) → Tells xs a d k → Tells ys b e l
      → Tells (xs ++ ys) (bit_or a b) (bit_or d e) (k && l)
  tells-append xs ys a d b e k l x y =
      record {
        adds = rw (x.adds, y.adds) (sym (mask_append false xs ys));
        dels = rw (x.dels, y.dels) (sym (mask_append true xs ys));
        names = rw (x.names, y.names) (sym (known-append (names_in text spans ++ atoms_from text more) xs ys));
      }

  module _ (w : List ℕ) (b z : ℕ) (none : z ≡ 0) (k : Bool) (e : b ≡ bit_from 1 (names_in text spans) w)
      (q : k ≡ is_in (names_in text spans ++ atoms_from text more) w) where
    pub tells-added : Tells (record { fact = w; negated = false } ∷ []) b z k
    unfolding mask_of collect all_of
    tells-added =
        record { adds = e ∙ sym (or-zero _); dels = none; names = q ∙ sym (and-true _) }

    pub tells_deleted : Tells (record { fact = w; negated = true } ∷ []) z b k
    unfolding mask_of collect all_of
    tells_deleted =
        record { adds = none; dels = e ∙ sym (or-zero _); names = q ∙ sym (and-true _) }

-- ---- answers

pub means-read : {text : List ℕ} {spans : List Span} {more at : ℕ} (reading : Parsed (List Literal)) (ls : List Literal)
    (n : ℕ) (a d : Mask) (k : Bool) → reading ≡ parsed ls (rest text n) → (at < n) × (n ≤ length text)
    → Tells text spans more ls (number a) (number d) k
    → Means text spans more at reading (Some (record { adds = a; dels = d; known = k; next = n }))
means-read reading ls n a d k e h t =
    rw e (record { place = refl; onward = h; adds = t.adds; dels = t.dels; names = t.names })

-- the literals of an answer
pub record Read (text : List ℕ) (spans : List Span) (more : ℕ) (reading : Parsed (List Literal)) (r : Literals)
    : Type 0 where
  pub literals : List Literal
  pub is : reading ≡ parsed literals (rest text r.next)
  pub tells : Tells text spans more literals (number r.adds) (number r.dels) r.known

pub read_of : {text : List ℕ} {spans : List Span} {more at : ℕ} (reading : Parsed (List Literal)) (r : Literals)
    → Told text spans more at reading r → Read text spans more reading r
read_of {text} outside r x = absurd (none_read {ts = rest text r.next} x.place)
read_of {text} (parsed ls ts) r x =
    let q : ts ≡ rest text r.next = left-same x.place in
    record { literals = ls; is = rw q; tells = record { adds = x.adds; dels = x.dels; names = x.names } }

-- a formula that is read from a later offset on
pub means-from : (text : List ℕ) (spans : List Span) (more : ℕ) {at n : ℕ} (reading other : Parsed (List Literal))
    (r : Option Literals)
    → Means text spans more n reading r → at ≤ n → other ≡ reading → Means text spans more at other r
means-from text spans more reading other None x h e = e ∙ x
means-from text spans more reading other (Some r) x h e =
    rw e
    (record {
      place = x.place;
      onward = (omega (arith, x.onward.0), x.onward.1);
      adds = x.adds;
      dels = x.dels;
      names = x.names;
    })
