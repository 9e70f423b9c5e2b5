-- Names as lists, and as masks over the predicates.
use mathlib.Core.Path.{◌≡◌, refl, sym, ap, ap₂, ◌∙◌}
use mathlib.Core.Bool.{Bool, true, false, cond, not, ◌&&◌, ◌||◌, false≢true, or_assoc, and_assoc}
use mathlib.Core.List.{List, [], ◌∷◌, ◌++◌}
use Prim.Native.Nat.{ℕ, zero, suc, ◌*◌, ◌/◌, ◌^◌}
use native.Mathlib.Nat.{pow-suc, pow-succ', div-one, div_self, mul-mod_left, mul_assoc, mul_comm, mul-zero, mul-one}
use native.Mathlib.Omega.{arith}
use lib.Dec.{eqb}
use lib.Pow.{pow_pos}
use lib.Bits.{bit_or}
use borrow.Author.Tests.{eqb-true, eq-eqb}
use Rattle.semantics.specs.Base.{any_of, all_of, collect}
use Rattle.semantics.specs.Mask.{has}
use Rattle.semantics.specs.Demands.{facts_of as setOf}
use Rattle.semantics.specs.Model.{◌⊆◌}
use Rattle.semantics.specs.Pddl.{Literal, same, is_in, same_names, same_set, known, bit_from, mask_of, facts_of}
use Rattle.theory.proofs.Lists.{test_ext, and_elim, and_intro, any-true, true-any, all_true, true-all}
use Rattle.theory.proofs.Masks.{has-suc, or-has, zero_has, mask_ext}

-- ---- equal names

pub same_refl : (v : List ℕ) → same v v ≡ true
unfolding same
same_refl [] = refl
same_refl (x ∷ xs) = and_intro (eq-eqb x x refl) (same_refl xs)

pub same-eq : (v w : List ℕ) → same v w ≡ true → v ≡ w
unfolding same
same-eq [] [] h = refl
same-eq [] (y ∷ ys) h = absurd (false≢true h)
same-eq (x ∷ xs) [] h = absurd (false≢true h)
same-eq (x ∷ xs) (y ∷ ys) h =
    let r = and_elim (eqb x y) (same xs ys) h in
    ap₂ (λ (z : ℕ) (zs : List ℕ). z ∷ zs) (eqb-true x y r.0) (same-eq xs ys r.1)

pub same_names-eq : (vs ws : List (List ℕ)) → same_names vs ws ≡ true → vs ≡ ws
unfolding same_names
same_names-eq [] [] h = refl
same_names-eq [] (w ∷ ws) h = absurd (false≢true h)
same_names-eq (v ∷ vs) [] h = absurd (false≢true h)
same_names-eq (v ∷ vs) (w ∷ ws) h =
    let r = and_elim (same v w) (same_names vs ws) h in
    ap₂ (λ (z : List ℕ) (zs : List (List ℕ)). z ∷ zs) (same-eq v w r.0) (same_names-eq vs ws r.1)

-- a list has each of its own names
pub same_set-refl : (ws : List (List ℕ)) → same_set ws ws ≡ true
same_set-refl ws =
    let h : all_of (is_in ws) ws ≡ true = true-all (is_in ws) ws (λ w m. true-any (same w) m (same_refl w)) in
    and_intro h h

-- ---- two lists, one after the other

pub is_in-append : (P R : List (List ℕ)) (w : List ℕ) → is_in (P ++ R) w ≡ (is_in P w || is_in R w)
unfolding any_of
is_in-append [] R w = refl
is_in-append (p ∷ P) R w = rw (is_in-append P R w) (sym (or_assoc (same w p) (is_in P w) (is_in R w)))

pub known-append : (P : List (List ℕ)) (xs ys : List Literal) → known P (xs ++ ys) ≡ (known P xs && known P ys)
unfolding all_of
known-append P [] ys = refl
known-append P (x ∷ xs) ys =
    rw (known-append P xs ys) (sym (and_assoc (is_in P x.fact) (known P xs) (known P ys)))

collect-append : {A B : Type 0} (p : A → Bool) (f : A → B) (xs ys : List A)
    → collect p f (xs ++ ys) ≡ collect p f xs ++ collect p f ys
unfolding collect
collect-append p f [] ys = refl
collect-append {B = B} p f (x ∷ xs) ys =
    rw (collect-append p f xs ys) (at (p x) (collect p f xs) (collect p f ys))
  where
    at : (b : Bool) (cs ds : List B) → cond b (f x ∷ (cs ++ ds)) (cs ++ ds) ≡ cond b (f x ∷ cs) cs ++ ds
    at true cs ds = refl
    at false cs ds = refl

pub facts_of_append : (b : Bool) (xs ys : List Literal) → facts_of b (xs ++ ys) ≡ facts_of b xs ++ facts_of b ys
facts_of_append true xs ys = collect-append (λ l. l.negated) (λ l. l.fact) xs ys
facts_of_append false xs ys = collect-append (λ l. not l.negated) (λ l. l.fact) xs ys

pub or_bits_assoc : (a b c : ℕ) → bit_or (bit_or a b) c ≡ bit_or a (bit_or b c)
or_bits_assoc a b c =
    mask_ext (bit_or (bit_or a b) c) (bit_or a (bit_or b c)) λ f.
    rw (or-has f (bit_or a b) c, or-has f a b, or-has f a (bit_or b c), or-has f b c)
    (or_assoc (has f a) (has f b) (has f c))

pub mask_of_append : (P xs ys : List (List ℕ)) → mask_of P (xs ++ ys) ≡ bit_or (mask_of P xs) (mask_of P ys)
unfolding mask_of
mask_of_append P [] ys = refl
mask_of_append P (x ∷ xs) ys =
    rw (mask_of_append P xs ys) (sym (or_bits_assoc (bit_from 1 P x) (mask_of P xs) (mask_of P ys)))

-- ---- one name's bit

-- values from v on are v times those from 1 on
bit_times : (v : ℕ) (P : List (List ℕ)) (w : List ℕ) → bit_from v P w ≡ v * bit_from 1 P w
unfolding bit_from
bit_times v [] w = sym (mul-zero v)
bit_times v (p ∷ P) w =
    rw (bit_times (2 * v) P w, bit_times 2 P w) (at (same w p) (bit_from 1 P w))
  where
    at : (b : Bool) (n : ℕ) → cond b v (2 * v * n) ≡ v * cond b 1 (2 * n)
    at true n = sym (mul-one v)
    at false n = ap (λ (k : ℕ). k * n) (mul_comm 2 v) ∙ mul_assoc v 2 n

-- the first predicate has 1, the others twice what they have without it
bit-cons : (p : List ℕ) (P : List (List ℕ)) (w : List ℕ)
    → bit_from 1 (p ∷ P) w ≡ cond (same w p) 1 (2 * bit_from 1 P w)
unfolding bit_from
bit-cons p P w = rw (bit_times 2 P w)

-- the bit of a name among the predicates is a power of two
bit-power : (P : List (List ℕ)) (w : List ℕ) → is_in P w ≡ true → (k : ℕ) × (bit_from 1 P w ≡ 2 ^ k)
unfolding any_of
bit-power [] w h = absurd (false≢true h)
bit-power (p ∷ P) w h = at (same w p) h (bit-power P w) (bit-cons p P w)
  where
    at : (b : Bool) → (b || is_in P w) ≡ true → (is_in P w ≡ true → (k : ℕ) × (bit_from 1 P w ≡ 2 ^ k))
        → bit_from 1 (p ∷ P) w ≡ cond b 1 (2 * bit_from 1 P w) → (k : ℕ) × (bit_from 1 (p ∷ P) w ≡ 2 ^ k)
    at true h on e = (0, e)
    at false h on e = let r = on h in (suc r.0, rw (e, r.1) (sym (pow-succ' 2 r.0)))

-- two names among the predicates with the same bit are equal
bit-names : (P : List (List ℕ)) (v w : List ℕ) → is_in P v ≡ true → is_in P w ≡ true
    → bit_from 1 P v ≡ bit_from 1 P w → v ≡ w
unfolding any_of
bit-names [] v w hv hw e = absurd (false≢true hv)
bit-names (p ∷ P) v w hv hw e =
    at (same v p) (same w p) (same-eq v p) (same-eq w p) hv hw (sym (bit-cons p P v) ∙ e ∙ bit-cons p P w)
    (bit-names P v w)
  where
    at : (b c : Bool) → (b ≡ true → v ≡ p) → (c ≡ true → w ≡ p) → (b || is_in P v) ≡ true → (c || is_in P w) ≡ true
        → cond b 1 (2 * bit_from 1 P v) ≡ cond c 1 (2 * bit_from 1 P w)
        → (is_in P v ≡ true → is_in P w ≡ true → bit_from 1 P v ≡ bit_from 1 P w → v ≡ w) → v ≡ w
    at true true ev ew hv hw e on = ev refl ∙ sym (ew refl)
    at true false ev ew hv hw e on = absurd (omega arith)
    at false true ev ew hv hw e on = absurd (omega arith)
    at false false ev ew hv hw e on = on hv hw (omega arith)

-- ---- masks as sets of names

power-has : (k : ℕ) → has k (2 ^ k) ≡ true
unfolding has
power-has k = rw (div_self (pow_pos k))

-- 2^k has no other fact than k
power_only : (f k : ℕ) → has f (2 ^ k) ≡ true → f ≡ k
unfolding has
power_only zero zero h = refl
power_only zero (suc k) h = absurd (false≢true (rw (div-one, pow-suc, mul-mod_left) at h))
power_only (suc f) zero h = absurd (false≢true (sym (zero_has f) ∙ sym (has-suc f 1) ∙ h))
power_only (suc f) (suc k) h =
    let e : 2 ^ suc k / 2 ≡ 2 ^ k = omega (arith, pow-suc 2 k) in
    ap suc (power_only f k (ap (has f) (sym e) ∙ sym (has-suc f (2 ^ suc k)) ∙ h))

-- a mask has the facts that its names' bits have
mask-has : (P xs : List (List ℕ)) (f : ℕ) → has f (mask_of P xs) ≡ any_of (λ x. has f (bit_from 1 P x)) xs
unfolding mask_of any_of
mask-has P [] f = zero_has f
mask-has P (x ∷ xs) f = rw (or-has f (bit_from 1 P x) (mask_of P xs), mask-has P xs f)

-- one mask is within another where its names are among the other's
names-sub : (P xs ys : List (List ℕ)) → all_of (is_in ys) xs ≡ true → setOf (mask_of P xs) ⊆ setOf (mask_of P ys)
names-sub P xs ys h f t =
    let x = any-true (λ v. has f (bit_from 1 P v)) xs (sym (mask-has P xs f) ∙ t) in
    let y = any-true (same x.0) ys (all_true (is_in ys) h x.1) in
    let e : x.0 ≡ y.0 = same-eq x.0 y.0 y.2 in
    mask-has P ys f
    ∙ true-any (λ v. has f (bit_from 1 P v)) y.1 (ap (λ (v : List ℕ). has f (bit_from 1 P v)) (sym e) ∙ x.2)

-- and only there, of names among the predicates
sub-names : (P xs ys : List (List ℕ)) → all_of (is_in P) xs ≡ true → all_of (is_in P) ys ≡ true
    → setOf (mask_of P xs) ⊆ setOf (mask_of P ys) → all_of (is_in ys) xs ≡ true
sub-names P xs ys hx hy s =
    true-all (is_in ys) xs λ x m.
    let px = all_true (is_in P) hx m in
    let j = bit-power P x px in
    let t = mask-has P xs j.0
    ∙ true-any (λ v. has j.0 (bit_from 1 P v)) m (ap (has j.0) j.1 ∙ power-has j.0) in
    let y = any-true (λ v. has j.0 (bit_from 1 P v)) ys (sym (mask-has P ys j.0) ∙ s j.0 t) in
    let py = all_true (is_in P) hy y.1 in
    let k = bit-power P y.0 py in
    let e : j.0 ≡ k.0 = power_only j.0 k.0 (ap (has j.0) (sym k.1) ∙ y.2) in
    let q : x ≡ y.0 = bit-names P x y.0 px py (j.1 ∙ ap (λ (n : ℕ). 2 ^ n) e ∙ sym k.1) in
    true-any (same x) y.1 (ap (same x) (sym q) ∙ same_refl x)

-- masks of names among the predicates are equal where the names are the same as sets
pub same_set_lem : (P xs ys : List (List ℕ)) → all_of (is_in P) xs ≡ true → all_of (is_in P) ys ≡ true
    → eqb (mask_of P xs) (mask_of P ys) ≡ same_set xs ys
same_set_lem P xs ys hx hy =
    let a = mask_of P xs in
    let b = mask_of P ys in
    test_ext (eqb a b) (same_set xs ys)
    (λ t. let e : a ≡ b = eqb-true a b t in
    and_intro (sub-names P xs ys hx hy (λ f h. ap (has f) (sym e) ∙ h))
    (sub-names P ys xs hy hx (λ f h. ap (has f) e ∙ h)))
    (λ t. let r = and_elim (all_of (is_in ys) xs) (all_of (is_in xs) ys) t in
    eq-eqb a b (mask_ext a b λ f.
    test_ext (has f a) (has f b) (names-sub P xs ys r.0 f) (names-sub P ys xs r.1 f)))
