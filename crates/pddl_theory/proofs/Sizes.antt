-- A text has no more tokens than bytes, and what is read of it is no more than the tokens that it takes.
use mathlib.Core.Path.{◌≡◌, refl}
use mathlib.Core.Bool.{Bool, true, false, cond}
use mathlib.Core.List.{List, [], ◌∷◌, ◌++◌, flatten}
use Prim.Native.Nat.{ℕ, zero, suc, ◌+◌, ◌≤◌, ◌<◌}
use native.Mathlib.Omega.{arith}
use lib.ListN.{length, drop, length-append, length-drop}
use lib.Dec.{eqb}
use Rattle.semantics.specs.Text.{lf}
use Rattle.semantics.specs.Pddl.{in_word, is_blank, small, marked, tokens_from, tokens}
use Rattle.semantics.specs.Pddl.{Where, outer, comment, inner, Token, opening, closing, word, stray}
use Rattle.semantics.specs.Pddl.{Parsed, outside, parsed, ◌then◌, ◌or◌, many_in, many, atom}
use Rattle.semantics.specs.Pddl.{action, Domain, domain, Member, member, actions_of}
use Rattle.pddl_theory.specs.Inner.Place.{rest, items}
use Rattle.pddl_theory.proofs.Shorter.{Shorter, Reads, expect-shorter, name-shorter, many-shorter}
use Rattle.pddl_theory.proofs.Shorter.{atom-shorter, action-shorter, problem-shorter, member-shorter}

-- ---- tokens

record Upto (n : ℕ) (ts : List Token) : Type 0 where
  upto : length ts ≤ n

these : {n : ℕ} (ts : List Token) → length ts ≤ n → Upto n ts
these ts h = record { upto = h }

either : {n : ℕ} (b : Bool) {ts us : List Token} → Upto n ts → Upto n us → Upto n (cond b ts us)
either true h g = h
either false h g = g

marked-few : (n b : ℕ) (more noted : List Token) → length more ≤ n → length noted ≤ n
    → Upto (suc n) (marked b more noted)
marked-few n b more noted h g =
    either (is_blank b) (these more (omega arith))
    (either (eqb b 59) (these noted (omega arith))
    (either (eqb b 40) (these (opening ∷ more) (omega arith))
    (either (eqb b 41) (these (closing ∷ more) (omega arith)) (these (stray ∷ []) (omega arith)))))

-- the words that were begun
abbrev pub begun : Where → ℕ
begun outer = 0
begun comment = 0
begun (inner w) = 1

pub tokens_from-few : (at : Where) (bs : List ℕ) → length (tokens_from at bs) ≤ begun at + length bs
unfolding tokens_from
tokens_from-few outer [] = omega arith
tokens_from-few comment [] = omega arith
tokens_from-few (inner w) [] = omega arith
tokens_from-few outer (b ∷ bs) =
    let h : length (tokens_from outer bs) ≤ length bs = omega (arith, tokens_from-few outer bs) in
    let g : length (tokens_from comment bs) ≤ length bs = omega (arith, tokens_from-few comment bs) in
    let t = tokens_from (inner (small b ∷ [])) bs in
    let k : length t ≤ suc (length bs) = omega (arith, tokens_from-few (inner (small b ∷ [])) bs) in
    let m = marked-few (length bs) b (tokens_from outer bs) (tokens_from comment bs) h g in
    omega (arith, (either (in_word b) (these t k) m).upto)
tokens_from-few comment (b ∷ bs) =
    let h : length (tokens_from outer bs) ≤ length bs = omega (arith, tokens_from-few outer bs) in
    let g : length (tokens_from comment bs) ≤ length bs = omega (arith, tokens_from-few comment bs) in
    omega (arith, (either (eqb b lf) (these (tokens_from outer bs) h) (these (tokens_from comment bs) g)).upto)
tokens_from-few (inner w) (b ∷ bs) =
    let h : length (tokens_from outer bs) ≤ length bs = omega (arith, tokens_from-few outer bs) in
    let g : length (tokens_from comment bs) ≤ length bs = omega (arith, tokens_from-few comment bs) in
    let t = tokens_from (inner (w ++ (small b ∷ []))) bs in
    let k : length t ≤ suc (suc (length bs)) = omega (arith, tokens_from-few (inner (w ++ (small b ∷ []))) bs) in
    let m = marked b (tokens_from outer bs) (tokens_from comment bs) in
    let l = (marked-few (length bs) b (tokens_from outer bs) (tokens_from comment bs) h g).upto in
    omega (arith, (either (in_word b) (these t k) (these (word w ∷ m) (omega (arith, l)))).upto)

pub tokens-few : (text : List ℕ) → length (tokens text) ≤ length text
tokens-few text = omega (arith, tokens_from-few outer text)

pub rest-few : (text : List ℕ) (at : ℕ) → length (rest text at) ≤ length text
rest-few text at = omega (arith, tokens-few (drop at text), length-drop at text)

-- ---- readings

-- the size of what is read and the number of tokens left are together at most n
abbrev pub Within : {A : Type 0} → (A → ℕ) → ℕ → Parsed A → Type 0
Within size n outside = Unit {0}
Within size n (parsed a us) = size a + length us ≤ n

pub record Few {A : Type 0} (size : A → ℕ) (n : ℕ) (p : Parsed A) : Type 0 where
  pub within : Within size n p

-- a reader of things no larger than the tokens that it takes
abbrev pub Takes : {A : Type 0} → (A → ℕ) → (List Token → Parsed A) → Type 0
Takes size one = (n : ℕ) (ts : List Token) → length ts ≤ n → Few size n (one ts)

module _ {A : Type 0} {size : A → ℕ} {n : ℕ} where
  nothing : Few size n outside
  nothing = record { within = tt }

  pub found : (a : A) (us : List Token) → size a + length us ≤ n → Few size n (parsed a us)
  found a us h = record { within = h }

  or-few : {p q : Parsed A} → Few size n p → Few size n q → Few size n (p or q)
  or-few {p = outside} {q = q} h g = g
  or-few {p = parsed a us} {q = q} h g = h

  -- behind a reading that leaves fewer than m tokens
  pub shorter-few : {B : Type 0} {m : ℕ} {p : Parsed B} {k : B → List Token → Parsed A} → Shorter m p
      → ((b : B) (us : List Token) → length us < m → Few size n (k b us)) → Few size n (p then k)
  shorter-few {p = outside} {k = k} h each = nothing
  shorter-few {p = parsed b us} {k = k} h each = each b us h.fewer

  -- behind a reading of which the size is known
  pub then-few : {B : Type 0} {weight : B → ℕ} {m : ℕ} {p : Parsed B} {k : B → List Token → Parsed A} → Few weight m p
      → ((b : B) (us : List Token) → weight b + length us ≤ m → Few size n (k b us)) → Few size n (p then k)
  then-few {p = outside} {k = k} h each = nothing
  then-few {p = parsed b us} {k = k} h each = each b us h.within

-- ---- as many as there are

module _ {A : Type 0} (size : A → ℕ) where
  unfoldable pub total : List A → ℕ
  total [] = 0
  total (a ∷ xs) = size a + total xs

  module _ (one : List Token → Parsed A) (takes : Takes size one) where
    many_in_takes : (f : ℕ) → Takes total (many_in one f)
    unfolding many_in total
    many_in_takes zero n ts h = found [] ts (omega arith)
    many_in_takes (suc f) n ts h =
        or-few
        (then-few (takes n ts h) (λ a us l.
        then-few (many_in_takes f (length us) us (omega arith)) (λ more vs g.
        found (a ∷ more) vs (omega (arith, l, g)))))
        (found [] ts (omega arith))

    pub many_takes : Takes total (many one)
    many_takes n ts h = many_in_takes (length ts) n ts h

    total-items : (n : ℕ) (p : Parsed (List A)) → Few total n p → total (items p) ≤ n
    unfolding total
    total-items n outside h = omega arith
    total-items n (parsed xs us) h = omega (arith, h.within)

    pub many-total : (ts : List Token) → total (items (many one ts)) ≤ length ts
    many-total ts = total-items (length ts) (many one ts) (many_takes (length ts) ts (omega arith))

-- things of size 1 each
abbrev one_each : {A : Type 0} → A → ℕ
one_each a = 1

total-length : {A : Type 0} (xs : List A) → total one_each xs ≡ length xs
unfolding total
total-length [] = refl
total-length (a ∷ xs) = omega (arith, total-length xs)

reads_takes : {A : Type 0} (one : List Token → Parsed A) → Reads one → Takes one_each one
reads_takes {A = A} one reads n ts h = each (one ts) (reads n ts h) where
  each : (p : Parsed A) → Shorter n p → Few one_each n p
  each outside h = nothing
  each (parsed a us) h = found a us (omega (arith, h.fewer))

module _ {A : Type 0} (one : List Token → Parsed A) (reads : Reads one) where
  pub many-length : Takes length (many one)
  many-length n ts h = each (many one ts) (many_takes one_each one (reads_takes one reads) n ts h) where
    each : (p : Parsed (List A)) → Few (total one_each) n p → Few length n p
    each outside h = nothing
    each (parsed xs us) h = found xs us (omega (arith, h.within, total-length xs))

  pub many-few : (ts : List Token) → length (items (many one ts)) ≤ length ts
  many-few ts =
      omega (arith, many-total one_each one (reads_takes one reads) ts, total-length (items (many one ts)))

  pub items-few : (text : List ℕ) (at : ℕ) → length (items (many one (rest text at))) ≤ length text
  items-few text at = omega (arith, many-few (rest text at), rest-few text at)

-- ---- actions

-- the number of actions
abbrev acts : Domain → ℕ
acts d = length d.actions

abbrev pub owned : Member → ℕ
owned m = length m.its.actions

domain_takes : Takes acts domain
unfolding domain
domain_takes n ts h =
    shorter-few (expect-shorter opening _ n ts h) (λ _ ts l.
    shorter-few (name-shorter n ts (omega arith)) (λ _ ts l.
    shorter-few (expect-shorter closing _ n ts (omega arith)) (λ _ ts l.
    shorter-few (many-shorter atom atom-shorter n ts l) (λ _ ts l.
    shorter-few (expect-shorter closing [] n ts (omega arith)) (λ _ ts l.
    then-few (many-length action action-shorter n ts (omega arith)) (λ xs ts g.
    shorter-few (expect-shorter closing [] (length ts) ts (omega arith)) (λ _ us l.
    found _ us (omega (arith, g, l)))))))))

pub member_takes : Takes owned member
unfolding member
member_takes n ts h =
    then-few (domain_takes n ts h) (λ d us g.
    shorter-few (problem-shorter (length us) us (omega arith)) (λ p vs l. found _ vs (omega (arith, g, l))))

total-owned : (ms : List Member) → total owned ms ≡ length (actions_of ms)
unfolding total flatten
total-owned [] = refl
total-owned (m ∷ ms) = omega (arith, total-owned ms, length-append m.its.actions (actions_of ms))

pub actions_of-few : (ts : List Token) → length (actions_of (items (many member ts))) ≤ length ts
actions_of-few ts = omega (arith, many-total owned member member_takes ts, total-owned (items (many member ts)))

pub actions-few : (text : List ℕ) → length (actions_of (items (many member (rest text 0)))) ≤ length text
actions-few text = omega (arith, actions_of-few (rest text 0), rest-few text 0)

pub members-few : (text : List ℕ) → length (items (many member (rest text 0))) ≤ length text
members-few text = items-few member member-shorter text 0

-- lists from any offset on
module _ (text : List ℕ) (at : ℕ) where
  pub atoms-few : length (items (many atom (rest text at))) ≤ length text
  atoms-few = items-few atom atom-shorter text at
