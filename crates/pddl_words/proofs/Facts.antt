-- Masks of facts: one alone, and those of two masks.
use mathlib.Core.Path.{◌≡◌, sym, ap, ◌∙◌}
use Prim.Native.Nat.{ℕ, ◌+◌, ◌-◌, ◌*◌, ◌%◌, ◌^◌, ◌≤◌, ◌<◌}
use native.Mathlib.Nat.{add-zero, one-mul, mod-eq_of_lt}
use native.Mathlib.Omega.{arith}
use lib.Bits.{bit_and, bit_or, and_le_r}
use lib.Pow.{pow-lt, pow-add}
use Rattle.semantics.specs.Mask.{after}
use Rattle.semantics.specs.Words.{of_words}

-- a bit of a word
bit : (k : ℕ) → k < 64 → 1 * 2 ^ k % 2 ^ 64 ≡ 2 ^ k
bit k h = rw (one-mul (2 ^ k), mod-eq_of_lt (pow-lt h))

pub fact-low : (k n : ℕ) → k < 64 → n ≡ of_words (1 * 2 ^ k % 2 ^ 64) 0 → n ≡ 2 ^ k
fact-low k n h e = let b = bit k h in omega (arith, e, b)

pub fact-high : (k n : ℕ) → 64 ≤ k → k < 128 → n ≡ of_words 0 (1 * 2 ^ (k - 64) % 2 ^ 64) → n ≡ 2 ^ k
fact-high k n l h e =
    let b = bit (k - 64) (omega arith) in
    let s : k ≡ (k - 64) + 64 = omega arith in
    let p : 2 ^ k ≡ 2 ^ (k - 64) * 2 ^ 64 = ap (λ (j : ℕ). 2 ^ j) s ∙ pow-add 2 (k - 64) 64 in
    e ∙ ap (of_words 0) b ∙ add-zero (2 ^ (k - 64) * 2 ^ 64) ∙ sym p

pub with_none : (a b z n : ℕ) → z ≡ 0 → n ≡ after a b z → n ≡ bit_or a b
unfolding after
with_none a b z n q e =
    let none : a - bit_and a z ≡ a = omega (arith, q, and_le_r a z) in
    e ∙ ap (λ (s : ℕ). bit_or s b) none
