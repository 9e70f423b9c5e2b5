-- Laws of putting bytes: one after another, the digits of a number, a line for each entry of a list. Assumes nothing.
use mathlib.Core.Path.{◌≡◌, refl, sym, ap, ap₂, subst, ◌∙◌}
use mathlib.Core.Bool.{Bool, true, false, cond}
use mathlib.Core.Logic.{⊎_elim}
use mathlib.Core.List.{List, [], ◌∷◌, ◌++◌, map, flatten}
use Prim.Native.Nat.{ℕ, zero, suc, ◌+◌, ◌*◌, ◌/◌, ◌%◌, ◌^◌, ◌≤◌, ◌<◌}
use native.Mathlib.Omega.{arith}
use native.Mathlib.Numerals.{add-one}
use native.Mathlib.Nat.{pow-suc}
use lib.ListN.{length, get_or, take, drop, set, length-append, drop_of_length-le}
use lib.Seq.{slice, drop-cons, get_or-drop, length-slice, length-take-le}
use lib.Dec.{ltb}
use borrow.Author.Tests.{ltb-false, lt-ltb, le-ltb}
use Rattle.semantics.specs.Base.{numbers_from, up_to, collect, keep, Answer, refused, gives}
use Rattle.semantics.specs.Mask.{has, standing}
use Rattle.semantics.specs.Text.{comma, digits_in, digits}
use Rattle.semantics.specs.Run.{beginning, plan_of}
use Rattle.semantics.specs.Verdict.{Verdict, unsolvable, not_robust, robust, Failing, conflict_picks}
use Rattle.theory.proofs.Laid.{Laid, laid_none, laid_one, laid-append}
use Rattle.theory.proofs.Lists.{lt-or_ge, up_to_length}
use Rattle.report.specs.File.{word, line_end, line, lines, plan_lines, plans_lines, missing_lines}
use Rattle.report.specs.File.{conflict_lines}
use Rattle.report.specs.Inner.Put.{most_line, most_facts, Room, Inside, Holds, missing_line, conflict_of}

-- ---- one after another

-- room for two is room for the first, and, that being put, for the second
pub room-first : {out : List ℕ} {at : ℕ} (x y : List ℕ) → Room out at (x ++ y) → Room out at x
room-first x y h = record { fits = omega (arith, length-append x y) }

pub room-then : {before mid x y : List ℕ} {at b : ℕ}
    → Room before at (x ++ y) → Laid x before at mid b → length mid ≡ length before → Room mid b y
room-then {x = x} {y = y} h p e = record { fits = omega (arith, length-append x y) }

pub put_byte : {out : List ℕ} {at : ℕ} (b : ℕ) → Room out at (b ∷ []) → Laid (b ∷ []) out at (set out at b) (at + 1)
put_byte {out} {at} b h = laid_one b out at (omega arith)

-- ---- digits

-- any bound on the divisions that is enough gives the same digits
digits-bound : (k m n : ℕ) → n ≤ k → n ≤ m → digits_in k n ≡ digits_in m n
unfolding digits_in
digits-bound zero zero n h g = refl
digits-bound zero (suc m) n h g = rw (lt-ltb n 10 (omega arith))
digits-bound (suc k) zero n h g = rw (lt-ltb n 10 (omega arith))
digits-bound (suc k) (suc m) n h g =
    at (ltb n 10) (λ e. let l : 10 ≤ n = ltb-false n 10 e in digits-bound k m (n / 10) (omega arith) (omega arith))
  where
    at : (b : Bool) → (b ≡ false → digits_in k (n / 10) ≡ digits_in m (n / 10))
        → cond b ((48 + n) ∷ []) (digits_in k (n / 10) ++ ((48 + n % 10) ∷ []))
        ≡ cond b ((48 + n) ∷ []) (digits_in m (n / 10) ++ ((48 + n % 10) ∷ []))
    at true f = refl
    at false f = ap (λ (l : List ℕ). l ++ ((48 + n % 10) ∷ [])) (f refl)

pub digits-one : (n : ℕ) → n < 10 → digits n ≡ (48 + n) ∷ []
unfolding digits_in
digits-one n h = go n
  where
    go : (k : ℕ) → digits_in k n ≡ (48 + n) ∷ []
    go zero = refl
    go (suc k) = rw (lt-ltb n 10 h)

pub digits_more : (n : ℕ) → 10 ≤ n → digits n ≡ digits (n / 10) ++ ((48 + n % 10) ∷ [])
unfolding digits_in
digits_more n h = go n (omega arith) (omega arith)
  where
    go : (k : ℕ) → n ≤ k → 10 ≤ k → digits_in k n ≡ digits (n / 10) ++ ((48 + n % 10) ∷ [])
    go zero g l = absurd (omega arith)
    go (suc k) g l =
        rw (le-ltb n 10 h)
        (ap (λ (ds : List ℕ). ds ++ ((48 + n % 10) ∷ []))
        (digits-bound k (n / 10) (n / 10) (omega arith) (omega arith)))

-- ---- lines

pub line-length : (w : List ℕ) (v : ℕ) → length (line w v) ≡ length w + length (digits v) + 3
line-length w v = omega (arith, length-append w (comma ∷ (digits v ++ line_end)), length-append (digits v) line_end)

-- a number below 10 ^ (k + 1) has no more than k + 1 digits
digits-length : (k v : ℕ) → v < 10 ^ suc k → length (digits v) ≤ suc k
digits-length zero v h = omega (arith, ap length (digits-one v (omega arith)))
digits-length (suc k) v h =
    ⊎_elim (λ (l : v < 10). omega (arith, ap length (digits-one v l)))
    (λ (l : 10 ≤ v). omega (
      arith,
      ap length (digits_more v l),
      length-append (digits (v / 10)) ((48 + v % 10) ∷ []),
      digits-length k (v / 10) (omega (arith, pow-suc 10 (suc k))),
    ))
    (lt-or_ge v 10)

-- a word of at most ten letters with a 64-bit number makes a line of at most 33 bytes
pub line-short : (w : List ℕ) (v : ℕ) → length w ≤ 10 → v < 2 ^ 64 → length (line w v) ≤ most_line
line-short w v h l = omega (arith, line-length w v, digits-length 19 v (omega arith))

pub line-room : (out : List ℕ) (at : ℕ) (w : List ℕ) (v : ℕ) → length w ≤ 10 → v < 2 ^ 64 → at + most_line ≤ length out
    → Room out at (line w v)
line-room out at w v h l r = record { fits = omega (arith, line-short w v h l) }

-- ---- a line for each entry

abbrev pub spread : (ℕ → List ℕ) → List ℕ → List ℕ
spread f xs = flatten (map f xs)

pub spread_at : (f : ℕ → List ℕ) (xs : List ℕ) (i : ℕ) → i < length xs
    → spread f (drop i xs) ≡ f (get_or xs i 0) ++ spread f (drop (i + 1) xs)
unfolding flatten
spread_at f xs i h = rw (add-one, drop-cons xs i 0)

-- i entries have been put: there is room for the rest, and putting it gives the whole
pub record Stage (f : ℕ → List ℕ) (xs before : List ℕ) (at : ℕ) (out : List ℕ) (next i : ℕ) : Type 0 where
  pub inside : i ≤ length xs
  pub kept : length out ≡ length before
  pub room : Room out next (spread f (drop i xs))
  pub whole : (after : List ℕ) (r : ℕ)
      → Laid (spread f (drop i xs)) out next after r → Laid (spread f xs) before at after r

module _ {f : ℕ → List ℕ} {xs before : List ℕ} {at : ℕ} where
  pub stage-begin : Room before at (spread f xs) → Stage f xs before at before at 0
  stage-begin h = record { inside = omega arith; kept = refl; room = h; whole = λ after r p. p }

  module _ {out : List ℕ} {next i : ℕ} (s : Stage f xs before at out next i) where
    pub stage-room : (v : ℕ) → v ≡ get_or xs i 0 → i < length xs → Room out next (f v)
    stage-room v e h =
        let g : length (spread f (drop i xs)) ≡ length (f v ++ spread f (drop (i + 1) xs)) =
        ap length (spread_at f xs i h ∙ ap (λ (w : ℕ). f w ++ spread f (drop (i + 1) xs)) (sym e)) in
        record { fits = omega (arith, s.room, length-append (f v) (spread f (drop (i + 1) xs))) }

    pub stage-onward : (v : ℕ) → v ≡ get_or xs i 0 → i < length xs
        → (mid : List ℕ) (b : ℕ) → Laid (f v) out next mid b → length mid ≡ length out
        → Stage f xs before at mid b (i + 1)
    stage-onward v e h mid b p k =
        let g : spread f (drop i xs) ≡ f v ++ spread f (drop (i + 1) xs) =
        spread_at f xs i h ∙ ap (λ (w : ℕ). f w ++ spread f (drop (i + 1) xs)) (sym e) in
        record {
          inside = omega arith;
          kept = k ∙ s.kept;
          room = room-then (subst (λ (l : List ℕ). Room out next l) g s.room) p k;
          whole = λ after r q.
              s.whole after r (subst (λ (l : List ℕ). Laid l out next after r) (sym g) (laid-append p q));
        }

    pub stage-end : length xs ≤ i → Laid (spread f xs) before at out next
    unfolding flatten
    stage-end h =
        s.whole out next
        (subst (λ (l : List ℕ). Laid (spread f l) out next out next) (sym (drop_of_length-le xs h))
        (laid_none out next (omega (arith, s.room))))

-- numbers that are their own values
pub same_values : (xs : List ℕ) → map (λ (x : ℕ). x) xs ≡ xs
same_values [] = refl
same_values (x ∷ xs) = ap (λ (l : List ℕ). x ∷ l) (same_values xs)

-- the value of the entry at i
pub value_at : {A : Type 0} (f : A → ℕ) (xs : List A) (i : ℕ) (x : A) (v : ℕ) → i < length xs → x ≡ get_or xs i x
    → v ≡ f x → v ≡ get_or (map f xs) i 0
value_at f [] i x v h e is = absurd (omega arith)
value_at f (y ∷ ys) zero x v h e is = is ∙ ap f e
value_at f (y ∷ ys) (suc i) x v h e is = value_at f ys i x v (omega arith) e is

-- a line for each entry that passes the test
spread-kept : (p : ℕ → Bool) (f : ℕ → List ℕ) (xs : List ℕ)
    → spread (λ x. cond (p x) (f x) []) xs ≡ spread f (keep p xs)
unfolding flatten keep collect
spread-kept p f [] = refl
spread-kept p f (x ∷ xs) = at (p x) (spread-kept p f xs)
  where
    at : (b : Bool) → spread (λ x. cond (p x) (f x) []) xs ≡ spread f (collect p (λ x. x) xs)
        → cond b (f x) [] ++ spread (λ x. cond (p x) (f x) []) xs
        ≡ spread f (cond b (x ∷ collect p (λ x. x) xs) (collect p (λ x. x) xs))
    at true h = ap (λ (l : List ℕ). f x ++ l) h
    at false h = h

-- the lines of what is missing, fact by fact
missing-lines : (m : ℕ) → spread (missing_line m) (up_to most_facts) ≡ missing_lines m
unfolding missing_lines lines standing
missing-lines m = spread-kept (λ f. has f m) (line (word "missing")) (up_to most_facts)

module _ (m : ℕ) {before : List ℕ} {at : ℕ} where
  pub missing-begin : Room before at (missing_lines m) → Stage (missing_line m) (up_to most_facts) before at before at 0
  missing-begin h = stage-begin (subst (λ (l : List ℕ). Room before at l) (sym (missing-lines m)) h)

  pub missing-end : {out : List ℕ} {next i : ℕ} → Stage (missing_line m) (up_to most_facts) before at out next i
      → most_facts ≤ i → Laid (missing_lines m) before at out next
  missing-end {out} {next} s h =
      subst (λ (l : List ℕ). Laid l before at out next) (missing-lines m)
      (stage-end s (omega (arith, up_to_length most_facts)))

module _ (m f : ℕ) (b : Bool) (e : b ≡ has f m) (out : List ℕ) (at : ℕ) (room : Room out at (missing_line m f)) where
  pub fact-room : b ≡ true → Room out at (line (word "missing") f)
  fact-room h = let q = sym e ∙ h in rw q at room

  pub fact-put : b ≡ true → (after : List ℕ) (r : ℕ) → Laid (line (word "missing") f) out at after r
      → Laid (missing_line m f) out at after r
  fact-put h after r l = rw (← e, h) l

-- ---- a member's plan

pub plan-part : (plans ends : List ℕ) (i from to : ℕ) → from ≡ beginning ends i → to ≡ get_or ends i 0
    → slice from to plans ≡ plan_of plans ends i
plan-part plans ends i from to f t = ap₂ (λ (a e : ℕ). slice a e plans) f t

-- ---- the conflict's lines are short

-- every entry has 64 bits
abbrev pub Small : List ℕ → Type 0
Small xs = (i : ℕ) → get_or xs i 0 < 2 ^ 64

small-take : (e : ℕ) (xs : List ℕ) → Small xs → Small (take e xs)
small-take zero xs h i = omega arith
small-take (suc e) [] h i = omega arith
small-take (suc e) (x ∷ xs) h zero = h 0
small-take (suc e) (x ∷ xs) h (suc i) = small-take e xs (λ k. h (suc k)) i

small_slice : (b e : ℕ) (xs : List ℕ) → Small xs → Small (slice b e xs)
small_slice b e xs h i = rw (get_or-drop b (take e xs) i 0) (small-take e xs h (b + i))

lines-short : (w xs : List ℕ) → length w ≤ 10 → Small xs → length (lines w xs) ≤ most_line * length xs
unfolding lines flatten
lines-short w [] k h = omega arith
lines-short w (x ∷ xs) k h =
    omega (arith, length-append (line w x) (lines w xs), line-short w x k (h 0), lines-short w xs k (λ i. h (suc i)))

small-numbers : (k c : ℕ) → k + c ≤ 2 ^ 64 → Small (numbers_from k c)
unfolding numbers_from
small-numbers k zero h i = omega arith
small-numbers k (suc c) h zero = omega arith
small-numbers k (suc c) h (suc i) = small-numbers (suc k) c (omega arith) i

-- so are the lines of what is missing
missing-short : (m : ℕ) (xs : List ℕ) → Small xs → length (spread (missing_line m) xs) ≤ most_line * length xs
unfolding flatten word numbers_from
missing-short m [] h = omega arith
missing-short m (x ∷ xs) h =
    omega (
      arith,
      length-append (missing_line m x) (spread (missing_line m) xs),
      one (has x m),
      missing-short m xs (λ i. h (suc i)),
    )
  where
    one : (b : Bool) → length (cond b (line (word "missing") x) []) ≤ most_line
    one true = line-short (word "missing") x (omega arith) (h 0)
    one false = omega arith

missing-most : (m : ℕ) → length (missing_lines m) ≤ most_line * most_facts
missing-most m =
    omega (
      arith,
      ap length (missing-lines m),
      missing-short m (up_to most_facts) (small-numbers 0 most_facts (omega arith)),
      up_to_length most_facts,
    )

module _ (n : ℕ) (plans ends : List ℕ) (p : Inside n plans ends) (few : n ≤ 2 ^ 64) (h : Small plans) where
  plan-short : (j : ℕ) → j < n
      → length (plan_lines plans ends j) + most_line * beginning ends j ≤ most_line * (1 + get_or ends j 0)
  unfolding word numbers_from
  plan-short j l =
      omega (
        arith,
        length-append (line (word "plan") j) (lines (word "action") (plan_of plans ends j)),
        line-short (word "plan") j (omega arith) (omega arith),
        lines-short (word "action") (plan_of plans ends j) (omega arith)
            (small_slice (beginning ends j) (get_or ends j 0) plans h),
        length-slice (beginning ends j) (get_or ends j 0) plans (p.within j l),
        p.ordered j l,
      )

  plans-short : (k c : ℕ) → k + c ≤ n
      → length (spread (plan_lines plans ends) (numbers_from k c)) + most_line * beginning ends k ≤ most_line *
      (c + beginning ends (k + c))
  unfolding numbers_from flatten
  plans-short k zero g = let z : k ≡ k + 0 = omega arith in omega (arith, ap (beginning ends) z)
  plans-short k (suc c) g =
      let z : suc k + c ≡ k + suc c = omega arith in
      omega (
        arith,
        ap (beginning ends) z,
        length-append (plan_lines plans ends k) (spread (plan_lines plans ends) (numbers_from (suc k) c)),
        plan-short k (omega arith),
        plans-short (suc k) c (omega arith),
      )

  pub conflict-short : (picks : List ℕ) → Small picks
      → length (conflict_lines n plans ends picks) ≤ most_line * (n + length plans + length picks)
  unfolding plans_lines word numbers_from
  conflict-short picks s =
      let z : 0 + n ≡ n = omega arith in
      omega (
        arith,
        length-append (plans_lines n plans ends) (lines (word "pick") picks),
        subst (λ (m : ℕ). length (plans_lines n plans ends) + most_line * 0 ≤ most_line * (n + beginning ends m)) z
            (plans-short 0 n (omega arith)),
        lines-short (word "pick") picks (omega arith) s,
        last n p,
      )
    where
      last : (m : ℕ) → Inside m plans ends → beginning ends m ≤ length plans
      last zero q = omega arith
      last (suc m) q = q.within m (omega arith)

pub conflict-most : (answer : Answer (Verdict Failing)) (n : ℕ) (plans ends picks : List ℕ)
    → Holds answer n plans ends picks → n ≤ 2 ^ 64 → Small plans → Small picks
    → length (conflict_of answer n plans ends picks) ≤ most_line * (most_facts + n + length plans + length picks)
conflict-most (refused k) n plans ends picks h f s t = omega arith
conflict-most (gives (unsolvable i)) n plans ends picks h f s t = omega arith
conflict-most (gives (robust c)) n plans ends picks h f s t = omega arith
conflict-most (gives (not_robust told)) n plans ends picks h f s t =
    let k = conflict_picks told.fault told.picked in
    omega (
      arith,
      h.1,
      length-take-le k picks h.1,
      length-append (missing_lines told.missing) (conflict_lines n plans ends (take k picks)),
      missing-most told.missing,
      conflict-short n plans ends h.0 f s (take k picks) (small-take k picks t),
    )
