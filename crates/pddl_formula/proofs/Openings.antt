-- What a formula's first tokens decide of it.
use mathlib.Core.Path.{◌≡◌, refl, sym, ap, ◌∙◌}
use mathlib.Core.Bool.{Bool, true, false, cond}
use mathlib.Core.List.{List, [], ◌∷◌}
use Prim.Native.Nat.{ℕ, zero, suc}
use Rattle.semantics.specs.Base.{all_of}
use Rattle.semantics.specs.Pddl.{Token, opening, closing, word, stray, same, same_token, is_name, and', not'}
use Rattle.semantics.specs.Pddl.{Parsed, outside, parsed, ◌or◌, expect, name, atom, negation, literal, formula}
use Rattle.theory.proofs.Lists.{apart, not-true-false, true-not-false}
use Rattle.pddl_theory.proofs.Sets.{same-eq, same_refl}
use Rattle.pddl_formula.specs.Inner.Formula.{negated, conjuncts}

-- outside, or tokens are left
abbrev parts : {A : Type 0} → Parsed A → ℕ × List Token
parts outside = (0, [])
parts (parsed a ts) = (1, ts)

pub none_read : {A : Type 0} {a : A} {ts : List Token} → outside ≡ parsed a ts → ⊥
none_read e = apart (ap (λ p. (parts p).0) e)

pub left-same : {A : Type 0} {a b : A} {ts us : List Token} → parsed a ts ≡ parsed b us → ts ≡ us
left-same e = ap (λ p. (parts p).1) e

or-none : {A : Type 0} (p : Parsed A) (b : Bool) → (p or cond b outside outside or outside) ≡ p
or-none outside true = refl
or-none outside false = refl
or-none (parsed a ts) b = refl

-- a formula that does not begin with `(and`
no-and : (negations : Bool) (d : ℕ) (ts : List Token) → expect (opening ∷ word and' ∷ []) ts ≡ outside
    → formula negations d ts ≡ (cond negations (negation ts) outside or literal ts)
unfolding formula
no-and negations zero ts e = refl
no-and negations (suc d) ts e = rw e

no-formula : (negations : Bool) (d : ℕ) (ts : List Token) → expect (opening ∷ word and' ∷ []) ts ≡ outside
    → negation ts ≡ outside → literal ts ≡ outside → formula negations d ts ≡ outside
no-formula negations d ts e n l = no-and negations d ts e ∙ rw (n, l) (or-none outside negations)

-- the tokens begin with a parenthesis, or no formula stands there
pub opened : (ts us : List Token) → expect (opening ∷ []) ts ≡ parsed tt us → ts ≡ opening ∷ us
unfolding expect same_token
opened [] us e = absurd (none_read e)
opened (opening ∷ ts) us e = ap (λ (vs : List Token). opening ∷ vs) (left-same e)
opened (closing ∷ ts) us e = absurd (none_read e)
opened (word w ∷ ts) us e = absurd (none_read e)
opened (stray ∷ ts) us e = absurd (none_read e)

pub not_opened : (negations : Bool) (d : ℕ) (ts : List Token) → expect (opening ∷ []) ts ≡ outside
    → formula negations d ts ≡ outside
unfolding expect same_token negation literal atom
not_opened negations d [] e = no-formula negations d [] refl refl refl
not_opened negations d (opening ∷ ts) e = absurd (none_read (sym e))
not_opened negations d (closing ∷ ts) e = no-formula negations d (closing ∷ ts) refl refl refl
not_opened negations d (word w ∷ ts) e = no-formula negations d (word w ∷ ts) refl refl refl
not_opened negations d (stray ∷ ts) e = no-formula negations d (stray ∷ ts) refl refl refl

module _ (negations : Bool) (d : ℕ) where
  -- no word stands behind the parenthesis
  pub then-opening : (ts : List Token) → formula negations d (opening ∷ opening ∷ ts) ≡ outside
  unfolding expect same_token negation literal atom name
  then-opening ts = no-formula negations d (opening ∷ opening ∷ ts) refl refl refl

  pub then-closing : (ts : List Token) → formula negations d (opening ∷ closing ∷ ts) ≡ outside
  unfolding expect same_token negation literal atom name
  then-closing ts = no-formula negations d (opening ∷ closing ∷ ts) refl refl refl

  pub then-stray : formula negations d (opening ∷ stray ∷ []) ≡ outside
  unfolding expect same_token negation literal atom name
  then-stray = no-formula negations d (opening ∷ stray ∷ []) refl refl refl

  pub then-end : formula negations d (opening ∷ []) ≡ outside
  unfolding expect same_token negation literal atom name
  then-end = no-formula negations d (opening ∷ []) refl refl refl

-- ---- a word behind the parenthesis

not_same : (v w : List ℕ) → same v w ≡ false → same w v ≡ false
not_same v w e =
    not-true-false (same w v) λ q. true-not-false (ap (same v) (same-eq w v q) ∙ same_refl v) e

module _ (negations : Bool) (us : List Token) where
  -- `and` and `not` are no names
  and-literal : literal (opening ∷ word and' ∷ us) ≡ outside
  unfolding literal atom expect same_token name is_name same all_of
  and-literal = refl

  and-negation : negation (opening ∷ word and' ∷ us) ≡ outside
  unfolding negation expect same_token same
  and-negation = refl

  pub and_deep : formula negations 0 (opening ∷ word and' ∷ us) ≡ outside
  unfolding formula
  and_deep = rw (and-negation, and-literal) (or-none outside negations)

  pub and-read : (c : ℕ) → formula negations (suc c) (opening ∷ word and' ∷ us) ≡ conjuncts negations c us
  unfolding formula expect same_token same
  and-read c = rw (and-negation, and-literal) (or-none (conjuncts negations c us) negations)

module _ (d : ℕ) (us : List Token) where
  not-and : expect (opening ∷ word and' ∷ []) (opening ∷ word not' ∷ us) ≡ outside
  unfolding expect same_token same
  not-and = refl

  not-literal : literal (opening ∷ word not' ∷ us) ≡ outside
  unfolding literal atom expect same_token name is_name same all_of
  not-literal = refl

  not-negation : negation (opening ∷ word not' ∷ us) ≡ negated us
  unfolding negation expect same_token same
  not-negation = refl

  pub not-read : formula true d (opening ∷ word not' ∷ us) ≡ negated us
  not-read =
      no-and true d (opening ∷ word not' ∷ us) not-and ∙ rw (not-negation, not-literal) (or-none (negated us) true)

  pub not_barred : formula false d (opening ∷ word not' ∷ us) ≡ outside
  not_barred = no-and false d (opening ∷ word not' ∷ us) not-and ∙ not-literal

module _ (w : List ℕ) (us : List Token) where
  word_and : same w and' ≡ false → expect (opening ∷ word and' ∷ []) (opening ∷ word w ∷ us) ≡ outside
  unfolding expect same_token
  word_and e = rw (not_same w and' e)

  word-negation : same w not' ≡ false → negation (opening ∷ word w ∷ us) ≡ outside
  unfolding negation expect same_token
  word-negation e = rw (not_same w not' e)

  pub plain : (negations : Bool) (d : ℕ) → same w and' ≡ false → same w not' ≡ false
      → formula negations d (opening ∷ word w ∷ us) ≡ literal (opening ∷ word w ∷ us)
  plain true d a n = no-and true d (opening ∷ word w ∷ us) (word_and a) ∙ rw (word-negation n)
  plain false d a n = no-and false d (opening ∷ word w ∷ us) (word_and a)
