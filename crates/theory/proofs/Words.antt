-- Laws of states that stand in words, two for each. Assumes nothing.
use mathlib.Core.Path.{◌≡◌, refl, sym, ap, ap₂, ◌∙◌}
use mathlib.Core.List.{List, [], ◌∷◌, ◌++◌, append-nil, map, flatten}
use Prim.Native.Nat.{ℕ, zero, suc, ◌+◌, ◌-◌, ◌*◌, ◌/◌, ◌%◌, ◌^◌, ◌≤◌, ◌<◌}
use native.Mathlib.Omega.{arith}
use lib.ListN.{length, get_or, take, drop, replicate, length-map, length-append, length-drop, length-replicate}
use lib.Seq.{ext_get_or, get_or-drop, get_or-take, length-take-le}
use Rattle.semantics.specs.Base.{numbers_from, up_to, padded}
use Rattle.semantics.specs.Words.{of_words, words_of, states_in, words_for, state_at, first_states, in_words, holding}
use Rattle.theory.proofs.Lists.{up_to_length, get_d_up_to, slice_of}

-- ---- one state

-- the state of its words
pub words_back : (s : ℕ) → of_words (s % 2 ^ 64) (s / 2 ^ 64) ≡ s
words_back s = omega arith

-- the words of a state, where the low one is a word
module _ (low high : ℕ) (h : low < 2 ^ 64) where
  pub low_of : of_words low high % 2 ^ 64 ≡ low
  low_of = omega arith

  pub high-of : of_words low high / 2 ^ 64 ≡ high
  high-of = omega arith

  pub words-of : words_of (of_words low high) ≡ low ∷ high ∷ []
  words-of = rw (low_of, high-of)

-- ---- states one after the other

-- a state, and those behind it
pair-next : (a b : ℕ) (t : List ℕ) (k : ℕ) → state_at (a ∷ b ∷ t) (suc k) ≡ state_at t k
pair-next a b t k =
    let low : suc k * 2 ≡ suc (suc (k * 2)) = omega arith in
    let high : suc k * 2 + 1 ≡ suc (suc (k * 2 + 1)) = omega arith in
    rw (high, low)

-- states that stand behind the first a
pub state-drop : (a : ℕ) (t : List ℕ) (k : ℕ) → state_at (drop (words_for a) t) k ≡ state_at t (a + k)
state-drop a t k =
    let low : words_for a + words_for k ≡ words_for (a + k) = omega arith in
    let high : words_for a + (words_for k + 1) ≡ words_for (a + k) + 1 = omega arith in
    ap₂ (λ (x y : ℕ). of_words y x)
    (get_or-drop (words_for a) t (words_for k + 1) 0 ∙ ap (λ (n : ℕ). get_or t n 0) high)
    (get_or-drop (words_for a) t (words_for k) 0 ∙ ap (λ (n : ℕ). get_or t n 0) low)

pub in_words-length : (xs : List ℕ) → length (in_words xs) ≡ words_for (length xs)
unfolding flatten
in_words-length [] = refl
in_words-length (x ∷ xs) = omega (arith, in_words-length xs)

pub in_words-append : (xs ys : List ℕ) → in_words (xs ++ ys) ≡ in_words xs ++ in_words ys
unfolding flatten
in_words-append [] ys = refl
in_words-append (x ∷ xs) ys = ap (λ (q : List ℕ). words_of x ++ q) (in_words-append xs ys)

pub state-at : (xs ys : List ℕ) (k : ℕ) → k < length xs → state_at (in_words xs ++ ys) k ≡ get_or xs k 0
unfolding flatten
state-at [] ys k h = absurd (omega arith)
state-at (x ∷ xs) ys zero h = words_back x
state-at (x ∷ xs) ys (suc k) h =
    pair-next (x % 2 ^ 64) (x / 2 ^ 64) (in_words xs ++ ys) k ∙ state-at xs ys k (omega arith)

-- ---- the first n states of the words

pub first-length : (t : List ℕ) (n : ℕ) → length (first_states t n) ≡ n
first-length t n = length-map (up_to n) (state_at t) ∙ up_to_length n

pub first-at : (t : List ℕ) (n k d : ℕ) → k < n → get_or (first_states t n) k d ≡ state_at t k
first-at t n k d h = get_d_up_to (state_at t) n k d h

-- they are these, where these stand there
pub first-are : (t : List ℕ) (n : ℕ) (xs : List ℕ) → length xs ≡ n
    → ((k : ℕ) → k < n → state_at t k ≡ get_or xs k 0) → first_states t n ≡ xs
first-are t n xs e h =
    ext_get_or 0 (first_states t n) xs (first-length t n ∙ sym e)
    (λ k l. let b : k < n = omega (arith, first-length t n) in first-at t n k 0 b ∙ h k b)

pub first-same : (t u : List ℕ) (n : ℕ) → ((k : ℕ) → k < n → state_at t k ≡ state_at u k)
    → first_states t n ≡ first_states u n
first-same t u n h = first-are t n (first_states u n) (first-length u n) (λ k l. h k l ∙ sym (first-at u n k 0 l))

-- those of the first words
pub state-take : (n : ℕ) (t : List ℕ) (k : ℕ) → k < n → state_at (take (words_for n) t) k ≡ state_at t k
state-take n t k h =
    ap₂ (λ (x y : ℕ). of_words y x) (get_or-take (words_for n) t (words_for k + 1) 0 (omega arith))
    (get_or-take (words_for n) t (words_for k) 0 (omega arith))

pub first-take : (t : List ℕ) (n : ℕ) → first_states (take (words_for n) t) n ≡ first_states t n
first-take t n = first-same (take (words_for n) t) t n (state-take n t)

-- those behind the first m
pub first-drop : (m n : ℕ) (t : List ℕ) → m ≤ n → drop m (first_states t n) ≡ first_states (drop (words_for m) t) (n - m)
first-drop m n t h =
    sym (first-are (drop (words_for m) t) (n - m) (drop m (first_states t n))
    (length-drop m (first_states t n) ∙ ap (λ (k : ℕ). k - m) (first-length t n))
    (λ k l. state-drop m t k ∙ sym (first-at t n (m + k) 0 (omega arith)) ∙ sym (get_or-drop m (first_states t n) k 0)))

-- what stands behind them is of no account
pub first_states_lem : (xs ys : List ℕ) → first_states (in_words xs ++ ys) (length xs) ≡ xs
first_states_lem xs ys = first-are (in_words xs ++ ys) (length xs) xs refl (state-at xs ys)

-- zeros are states, and words
pub in_words-zeros : (n : ℕ) → in_words (replicate n 0) ≡ replicate (words_for n) 0
unfolding flatten
in_words-zeros zero = refl
in_words-zeros (suc n) =
    let two : suc n * 2 ≡ suc (suc (n * 2)) = omega arith in
    ap (λ (q : List ℕ). 0 ∷ 0 ∷ q) (in_words-zeros n) ∙ ap (λ (k : ℕ). replicate k 0) (sym two)

-- a slice of whole states that holds some
pub holding-words : (n : ℕ) (xs : List ℕ) → length xs ≤ n → holding (words_for n) xs ≡ in_words (padded n xs)
holding-words n xs h =
    let e : words_for n - length (in_words xs) ≡ words_for (n - length xs) = omega (arith, in_words-length xs) in
    ap (λ (k : ℕ). in_words xs ++ replicate k 0) e
    ∙ ap (λ (q : List ℕ). in_words xs ++ q) (sym (in_words-zeros (n - length xs)))
    ∙ sym (in_words-append xs (replicate (n - length xs) 0))

pub holding-length : (n : ℕ) (xs : List ℕ) → length xs ≤ n → length (holding (words_for n) xs) ≡ words_for n
holding-length n xs h =
    let ys : List ℕ = replicate (words_for n - length (in_words xs)) 0 in
    length-append (in_words xs) ys
    ∙ (let e : length (in_words xs) + length ys ≡ words_for n =
    omega (arith, in_words-length xs, length-replicate {A = ℕ} (words_for n - length (in_words xs)) 0) in e)

pub holding_states : (n : ℕ) (xs : List ℕ) → length xs ≤ n → first_states (holding (words_for n) xs) n ≡ padded n xs
holding_states n xs h =
    let ys = padded n xs in
    let long : length ys ≡ n = length-append xs (replicate (n - length xs) 0) ∙ filled in
    ap (λ (t : List ℕ). first_states t n) (holding-words n xs h ∙ sym (append-nil (in_words ys)))
    ∙ ap (first_states (in_words ys ++ [])) (sym long)
    ∙ first_states_lem ys []
  where
    filled : length xs + length (replicate {A = ℕ} (n - length xs) 0) ≡ n
    filled = omega (arith, length-replicate {A = ℕ} (n - length xs) 0)

-- the first of them, and those behind it
first-pair : (a b : ℕ) (t : List ℕ) (n : ℕ) → first_states (a ∷ b ∷ t) (suc n) ≡ of_words a b ∷ first_states t n
first-pair a b t n =
    first-are (a ∷ b ∷ t) (suc n) (of_words a b ∷ first_states t n) (ap suc (first-length t n)) at
  where
    at : (k : ℕ) → k < suc n → state_at (a ∷ b ∷ t) k ≡ get_or (of_words a b ∷ first_states t n) k 0
    at zero h = refl
    at (suc k) h = pair-next a b t k ∙ sym (first-at t n k 0 (omega arith))

-- words of 64 bits are those of the states that stand in them
pub words_are : (t : List ℕ) (n : ℕ) → words_for n ≤ length t → ((k : ℕ) → get_or t k 0 < 2 ^ 64)
    → take (words_for n) t ≡ in_words (first_states t n)
unfolding flatten numbers_from
words_are t zero h w = refl
words_are [] (suc n) h w = absurd (omega arith)
words_are (a ∷ []) (suc n) h w = absurd (omega arith)
words_are (a ∷ b ∷ t) (suc n) h w =
    let two : suc n * 2 ≡ suc (suc (n * 2)) = omega arith in
    let more = words_are t n (omega arith) (λ k. w (suc (suc k))) in
    ap (λ (k : ℕ). take k (a ∷ b ∷ t)) two ∙ joined more ∙ ap in_words (sym (first-pair a b t n))
  where
    joined : take (n * 2) t ≡ in_words (first_states t n)
        → a ∷ b ∷ take (n * 2) t ≡ in_words (of_words a b ∷ first_states t n)
    joined e = rw (low_of a b (w 0), high-of a b (w 0)) (ap (λ (q : List ℕ). a ∷ b ∷ q) e)

-- states that have the same words are the same
pub in_words_injective : (xs ys : List ℕ) → in_words xs ≡ in_words ys → xs ≡ ys
unfolding flatten
in_words_injective [] [] e = refl
in_words_injective [] (y ∷ ys) e = absurd (omega (arith, ap length e))
in_words_injective (x ∷ xs) [] e = absurd (omega (arith, ap length e))
in_words_injective (x ∷ xs) (y ∷ ys) e =
    let low : x % 2 ^ 64 ≡ y % 2 ^ 64 = ap (λ (q : List ℕ). get_or q 0 0) e in
    let high : x / 2 ^ 64 ≡ y / 2 ^ 64 = ap (λ (q : List ℕ). get_or q 1 0) e in
    let same : x ≡ y = omega arith in
    ap₂ (λ (z : ℕ) (zs : List ℕ). z ∷ zs) same (in_words_injective xs ys (ap (drop 2) e))

-- lists of states, one after the other
pub in_words-flatten : (xss : List (List ℕ)) → flatten (map in_words xss) ≡ in_words (flatten xss)
unfolding flatten
in_words-flatten [] = refl
in_words-flatten (xs ∷ xss) =
    ap (λ (q : List ℕ). in_words xs ++ q) (in_words-flatten xss) ∙ sym (in_words-append xs (flatten xss))

-- a part of K states of a slice
pub slice_words : (at K : ℕ) (xs : List ℕ) → at + K ≤ states_in (length xs)
    → length (slice_of (words_for at) (words_for (at + K)) xs) ≡ words_for K
slice_words at K xs h =
    let e : words_for (at + K) - words_for at ≡ words_for K = omega arith in
    ap (λ (n : ℕ). length (take n (drop (words_for at) xs))) e
    ∙ length-take-le (words_for K) (drop (words_for at) xs) (omega (arith, length-drop (words_for at) xs))
