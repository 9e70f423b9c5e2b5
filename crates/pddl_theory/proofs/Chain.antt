-- Readings one after the other.
use mathlib.Core.Path.{◌≡◌, refl, sym, ap, ◌∙◌}
use mathlib.Core.List.{List, [], ◌∷◌}
use Rattle.semantics.specs.Pddl.{Token, Parsed, outside, parsed, ◌then◌, many}
use Rattle.pddl_theory.proofs.Shorter.{Reads}
use Rattle.pddl_theory.proofs.Many.{Is, many_is, many-on, many-out}
use Rattle.pddl_theory.specs.Inner.Place.{leaves, items}

-- what a part of a chain gives may stand for that part
pub via : {A B C : Type 0} (p : Parsed A) (f : A → List Token → Parsed B) (k : B → List Token → Parsed C) {q : Parsed B}
    → q ≡ (p then f) → (p then λ a ts. f a ts then k) ≡ (q then k)
via outside f k e = rw e
via (parsed a ts) f k e = rw e

pub then-then : {A B C : Type 0} (p : Parsed A) (f : A → List Token → Parsed B) (k : B → List Token → Parsed C)
    → ((p then f) then k) ≡ (p then λ a ts. f a ts then k)
then-then p f k = sym (via p f k refl)

-- ---- as many as there are

module _ {A : Type 0} (one : List Token → Parsed A) (reads : Reads one) where
  with_first : {a : A} (p : Parsed (List A)) → Is p → items (p then λ more vs. parsed (a ∷ more) vs) ≡ a ∷ items p
  with_first {a = a} p is = rw is.is

  no-first : (a : A) (p : Parsed (List A)) → leaves (p then λ more vs. parsed (a ∷ more) vs) ≡ leaves p
  no-first a outside = refl
  no-first a (parsed xs ts) = refl

  module _ (ts : List Token) (a : A) (us : List Token) (e : one ts ≡ parsed a us) where
    pub items-on : items (many one ts) ≡ a ∷ items (many one us)
    items-on = ap items (many-on one reads ts a us e) ∙ with_first (many one us) (many_is one reads us)

    pub leaves-on : leaves (many one ts) ≡ leaves (many one us)
    leaves-on = ap leaves (many-on one reads ts a us e) ∙ no-first a (many one us)

  module _ (ts : List Token) (e : one ts ≡ outside) where
    pub items-out : items (many one ts) ≡ []
    items-out = ap items (many-out one reads ts e)

    pub leaves-out : leaves (many one ts) ≡ parsed tt ts
    leaves-out = ap leaves (many-out one reads ts e)

-- a list that is read, and what is left of the tokens
pub list_parts : {A B : Type 0} (p : Parsed (List A)) (k : List A → List Token → Parsed B)
    → (p then k) ≡ (leaves p then λ _ us. k (items p) us)
list_parts outside k = refl
list_parts (parsed xs us) k = refl
