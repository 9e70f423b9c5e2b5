-- Refusals and answers, taken apart. Assumes nothing.
use mathlib.Core.Path.{◌≡◌, refl, ap, ◌∙◌}
use mathlib.Core.Bool.{Bool, true, false, not}
use mathlib.Core.List.Memᴰ
use mathlib.Core.List.{List, [], ◌∷◌, Memᴰ}
use Prim.Native.Nat.{ℕ, zero, suc, ◌<◌}
use native.Mathlib.Omega.{arith}
use Rattle.semantics.specs.Base.{up_to, ◌if◌, ◌else◌, first_refusal, Answer, refused, gives, unless}
use Rattle.theory.proofs.Lists.{apart, mem_up_to}

pub else_both : (r s : ℕ) → r else s ≡ 0 → (r ≡ 0) × (s ≡ 0)
else_both zero s h = (refl, h)
else_both (suc r) s h = absurd (omega arith)

-- a refusal that is there comes first
pub else_first : (r s : ℕ) → (r ≡ 0 → ⊥) → r ≡ (r else s)
else_first zero s h = absurd (h refl)
else_first (suc r) s h = refl

pub if_false : (k : ℕ) (b : Bool) → suc k if b ≡ 0 → b ≡ false
if_false k true h = absurd (omega arith)
if_false k false h = refl

pub if_not-true : (k : ℕ) (b : Bool) → suc k if not b ≡ 0 → b ≡ true
if_not-true k true h = refl
if_not-true k false h = absurd (omega arith)

pub mem-refusal : {x : ℕ} (f : ℕ → ℕ) (xs : List ℕ) → first_refusal f xs ≡ 0 → Memᴰ x xs → f x ≡ 0
unfolding first_refusal
mem-refusal f [] h m = absurd (Memᴰ.not-nil m)
mem-refusal f (x ∷ xs) h (Memᴰ.head e) = ap f e ∙ (else_both (f x) (first_refusal f xs) h).0
mem-refusal f (x ∷ xs) h (Memᴰ.tail m) = mem-refusal f xs (else_both (f x) (first_refusal f xs) h).1 m

pub no-refusal : (f : ℕ → ℕ) (xs : List ℕ) → ((x : ℕ) → Memᴰ x xs → f x ≡ 0) → first_refusal f xs ≡ 0
unfolding first_refusal
no-refusal f [] h = refl
no-refusal f (x ∷ xs) h = rw (h x (Memᴰ.head refl)) (no-refusal f xs (λ y m. h y (Memᴰ.tail m)))

pub up_to_refusal : (f : ℕ → ℕ) (n : ℕ) → first_refusal f (up_to n) ≡ 0 → (i : ℕ) → i < n → f i ≡ 0
up_to_refusal f n h i l = mem-refusal f (up_to n) h (mem_up_to l)

-- ---- answers

pub refused-gives : {A : Type 0} {k : ℕ} {v : A} → refused k ≡ gives v → ⊥
refused-gives e = apart (cc)

pub gives_inj : {A : Type 0} {u v : A} → gives u ≡ gives v → u ≡ v
gives_inj e = cc

-- a refusal that is there is the answer; an answer comes from no refusal
pub unless-refused : {A : Type 0} (r : ℕ) (x : Answer A) → (r ≡ 0 → ⊥) → unless r x ≡ refused r
unless-refused zero x h = absurd (h refl)
unless-refused (suc r) x h = refl

pub unless-gives : {A : Type 0} {v : A} (r : ℕ) (x : Answer A) → unless r x ≡ gives v → (r ≡ 0) × (x ≡ gives v)
unless-gives zero x e = (refl, e)
unless-gives (suc r) x e = absurd (refused-gives e)
