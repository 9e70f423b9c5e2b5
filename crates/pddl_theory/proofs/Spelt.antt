-- The names of atoms and of actions have a byte at least: their words begin before the text ends.
use mathlib.Core.Path.{◌≡◌}
use mathlib.Core.Bool.{Bool, true, false, cond}
use mathlib.Core.List.{List, [], ◌∷◌}
use Prim.Native.Nat.{ℕ, ◌≤◌, ◌<◌}
use native.Mathlib.Omega.{arith}
use lib.ListN.{length, take, length-map, length-drop, length-take}
use lib.Seq.{slice}
use Rattle.semantics.specs.Pddl.{Token, opening, closing, word, stray, Parsed, outside, parsed, ◌then◌, small, is_name}
use Rattle.semantics.specs.Pddl.{expect, name, atom, condition, effect, Action, action}
use Rattle.pddl_theory.specs.Inner.Place.{span}

-- what is read, if anything, has a property
abbrev pub Each : {A : Type 0} → (A → Type 0) → Parsed A → Type 0
Each P outside = Unit {0}
Each P (parsed a ts) = P a

pub record Reading {A : Type 0} (P : A → Type 0) (p : Parsed A) : Type 0 where
  pub each : Each P p

module _ {A B : Type 0} {P : B → Type 0} where
  -- behind a reading of which nothing is known, and of which Q is
  then-any : (p : Parsed A) {k : A → List Token → Parsed B} → ((a : A) (ts : List Token) → Reading P (k a ts))
      → Reading P (p then k)
  then-any outside {k = k} each = record { each = tt }
  then-any (parsed a ts) {k = k} each = each a ts

  then-known : {Q : A → Type 0} {p : Parsed A} {k : A → List Token → Parsed B} → Reading Q p
      → ((a : A) (ts : List Token) → Q a → Reading P (k a ts)) → Reading P (p then k)
  then-known {p = outside} {k = k} h each = record { each = tt }
  then-known {p = parsed a ts} {k = k} h each = each a ts h.each

abbrev pub Some : List ℕ → Type 0
Some w = 0 < length w

abbrev pub Called : Action → Type 0
Called a = Some a.called

name-some : (ts : List Token) → Reading Some (name ts)
unfolding name is_name
name-some [] = record { each = tt }
name-some (opening ∷ ts) = record { each = tt }
name-some (closing ∷ ts) = record { each = tt }
name-some (stray ∷ ts) = record { each = tt }
name-some (word [] ∷ ts) = record { each = tt }
name-some (word (b ∷ bs) ∷ ts) = at (is_name (b ∷ bs))
  where
    at : (t : Bool) → Reading Some (cond t (parsed (b ∷ bs) ts) outside)
    at true = record { each = omega arith }
    at false = record { each = tt }

pub atom-some : (ts : List Token) → Reading Some (atom ts)
unfolding atom
atom-some ts =
    then-any (expect _ ts) (λ _ ts.
    then-known (name-some ts) (λ w ts h.
    then-any (expect _ ts) (λ _ ts. record { each = h })))

pub action-some : (ts : List Token) → Reading Called (action ts)
unfolding action
action-some ts =
    then-any (expect _ ts) (λ _ ts.
    then-known (name-some ts) (λ w ts h.
    then-any (expect _ ts) (λ _ ts.
    then-any (condition ts) (λ _ ts.
    then-any (expect _ ts) (λ _ ts.
    then-any (effect ts) (λ _ ts.
    then-any (expect _ ts) (λ _ ts. record { each = h })))))))

pub span-within : (text : List ℕ) (s e : ℕ) → Some (span text s e) → s ≤ length text
span-within text s e h =
    let l : length (span text s e) ≡ length (slice s e text) = length-map (slice s e text) small in
    omega (arith, h, l, length-drop s (take e text), length-take e text)
