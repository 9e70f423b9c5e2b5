-- Masks of the facts that are written, and names that are told apart. Assumes nothing.
use mathlib.Core.Path.{◌≡◌, refl, sym, ap, ap₂, ◌∙◌}
use mathlib.Core.Bool.{Bool, true, false, ◌||◌}
use mathlib.Core.Logic.{⊎_elim}
use mathlib.Core.List.{List, [], ◌∷◌, map, Memᴰ}
use Prim.Native.Nat.{ℕ, zero, suc, ◌+◌, ◌*◌, ◌^◌, ◌≤◌, ◌<◌}
use native.Mathlib.Nat.{pow-suc}
use native.Mathlib.Omega.{arith}
use lib.Bits.{bit_or}
use lib.Dec.{eqb}
use borrow.Author.Tests.{eqb-true, eq-eqb, lt-ltb}
use Rattle.semantics.specs.Base.{numbers_from, up_to, any_of}
use Rattle.semantics.specs.Mask.{has, below, standing}
use Rattle.semantics.specs.Text.{number, digits}
use Rattle.semantics.specs.Pddl.{same, bit_from, mask_of}
use Rattle.theory.proofs.Lists.{test_ext, true-not-false, not-true-false, and_elim, lt-or_ge}
use Rattle.theory.proofs.Lists.{true-any, any-true, filter-mem, mem-filter, up_to_mem, mem_up_to}
use Rattle.theory.proofs.Masks.{or-has, zero_has, mask_ext, below-has}
use Rattle.text.proofs.RoundTrip.{word_number}
use Rattle.pddl_theory.specs.Inner.Limits.{most_facts}
use Rattle.pddl_theory.proofs.Sets.{same_refl, same-eq}
use Rattle.pddl_write.proofs.Alone.{one_has}
use Rattle.pddl_trip.proofs.Lexed.{fact_name}

-- ---- the mask of a list of facts

unfoldable pub mask_from : List ℕ → ℕ
mask_from [] = 0
mask_from (f ∷ fs) = bit_or (2 ^ f) (mask_from fs)

list_has : (fs : List ℕ) (g : ℕ) → has g (mask_from fs) ≡ any_of (λ f. eqb g f) fs
unfolding mask_from any_of
list_has [] g = zero_has g
list_has (f ∷ fs) g =
    or-has g (2 ^ f) (mask_from fs) ∙ ap₂ (λ (a b : Bool). a || b) (one_has f g) (list_has fs g)

-- the facts that stand in a mask make it up
pub standing-mask : (F x : ℕ) → below F x ≡ true → mask_from (standing F x) ≡ x
unfolding standing
standing-mask F x h = mask_ext (mask_from (standing F x)) x λ g. list_has (standing F x) g ∙ go g
  where
    go : (g : ℕ) → any_of (λ f. eqb g f) (standing F x) ≡ has g x
    go g =
        test_ext (any_of (λ f. eqb g f) (standing F x)) (has g x)
        (λ e.
        let r = any-true (λ f. eqb g f) (standing F x) e in
        ap (λ (k : ℕ). has k x) (eqb-true g r.0 r.2) ∙ (filter-mem (λ f. has f x) (up_to F) r.1).1)
        (λ e.
        true-any (λ f. eqb g f)
        (mem-filter (λ f. has f x)
        (mem_up_to {i = g} {n = F}
        (⊎_elim (λ (l : g < F). l) (λ (l : F ≤ g). absurd (true-not-false e (below-has F x h g l))) (lt-or_ge g F))) e)
        (eq-eqb g g refl))

-- ---- names

-- digits tell numbers apart
pub digits-apart : (x y : ℕ) → x < 2 ^ 64 → y < 2 ^ 64 → digits x ≡ digits y → x ≡ y
digits-apart x y h l e =
    sym (word_number x (lt-ltb x (2 ^ 64) h)) ∙ ap number e ∙ word_number y (lt-ltb y (2 ^ 64) l)

-- names of one letter and a number
pub names_apart : (b x y : ℕ) → x < 2 ^ 64 → y < 2 ^ 64 → (x ≡ y → ⊥) → same (b ∷ digits x) (b ∷ digits y) ≡ false
unfolding same
names_apart b x y h l n =
    not-true-false (same (b ∷ digits x) (b ∷ digits y))
    (λ e. n (digits-apart x y h l
    (same-eq (digits x) (digits y) (and_elim (eqb b b) (same (digits x) (digits y)) e).1)))

-- ---- bits by name

bit-from : (k c f : ℕ) → k ≤ f → f < k + c → k + c ≤ most_facts
    → bit_from (2 ^ k) (map fact_name (numbers_from k c)) (fact_name f) ≡ 2 ^ f
unfolding bit_from numbers_from
bit-from k zero f h l m = absurd (omega arith)
bit-from k (suc c) f h l m =
    ⊎_elim
    (λ (g : k < f).
    let e : 2 * 2 ^ k ≡ 2 ^ suc k = omega (arith, pow-suc 2 k) in
    rw (names_apart 102 f k (omega arith) (omega arith) (λ (q : f ≡ k). omega arith))
    (ap (λ (v : ℕ). bit_from v (map fact_name (numbers_from (suc k) c)) (fact_name f)) e
    ∙ bit-from (suc k) c f g (omega arith) (omega arith)))
    (λ (g : f ≤ k).
    let e : k ≡ f = omega arith in
    ap (λ (q : ℕ). bit_from (2 ^ k) (map fact_name (numbers_from k (suc c))) (fact_name q)) (sym e)
    ∙ rw (same_refl (fact_name k)) (ap (λ (q : ℕ). 2 ^ q) e))
    (lt-or_ge k f)

pub bit-of : (F f : ℕ) → F ≤ most_facts → f < F → bit_from 1 (map fact_name (up_to F)) (fact_name f) ≡ 2 ^ f
bit-of F f h l = bit-from 0 F f (omega arith) (omega arith) (omega arith)

pub mask-of : (F : ℕ) → F ≤ most_facts → (fs : List ℕ) → ((f : ℕ) → Memᴰ f fs → f < F)
    → mask_of (map fact_name (up_to F)) (map fact_name fs) ≡ mask_from fs
unfolding mask_of mask_from
mask-of F few [] h = refl
mask-of F few (f ∷ fs) h =
    ap₂ (λ (a b : ℕ). bit_or a b) (bit-of F f few (h f (Memᴰ.head refl)))
    (mask-of F few fs (λ g m. h g (Memᴰ.tail m)))

pub standing-below : (F x f : ℕ) → Memᴰ f (standing F x) → f < F
unfolding standing
standing-below F x f m = up_to_mem F (filter-mem (λ g. has g x) (up_to F) m).0

-- a mask is made up by the names of its facts
pub written-mask : (F x : ℕ) → F ≤ most_facts → below F x ≡ true
    → mask_of (map fact_name (up_to F)) (map fact_name (standing F x)) ≡ x
written-mask F x few h =
    mask-of F few (standing F x) (λ f m. standing-below F x f m) ∙ standing-mask F x h
