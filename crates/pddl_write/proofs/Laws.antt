-- Laws of bytes put into a slice: one text after the other, the place after them, and what the slice then holds.
use mir.Val.{bool_byte}
use mathlib.Core.Path.{◌≡◌, refl, sym, ap, subst, ◌∙◌}
use mathlib.Core.Bool.{Bool, true, false, cond}
use mathlib.Core.List.{List, [], ◌∷◌, ◌++◌, map, flatten, append_assoc}
use Prim.Native.Nat.{ℕ, zero, suc, ◌+◌, ◌-◌, ◌*◌, ◌/◌, ◌^◌, ◌≤◌, ◌<◌}
use native.Mathlib.Omega.{arith}
use native.Mathlib.Nat.{add-zero, pow-suc}
use native.Mathlib.Numerals.{add-one}
use lib.ListN.{length, get_or, take, drop, set, replicate, drop_of_length-le}
use lib.Seq.{drop-cons, set_out, sets, sets-eq, take-append_seam}
use lib.Pow.{pow_pos}
use lib.Dec.{eqb}
use borrow.Author.Tests.{lt-ltb, le-ltb, eq-eqb, ne_eqb}
use Rattle.semantics.specs.Base.{up_to, all_of, collect, keep, padded}
use Rattle.semantics.specs.Mask.{has, standing}
use Rattle.semantics.specs.Task.{facts, members, actions, check}
use Rattle.semantics.specs.PddlWrite.{own, order, each, numbered, members_text, law_text, action_waits, waits_text}
use Rattle.theory.proofs.Lists.{and_elim, true-all, up_to_mem, up_to_length}
use Rattle.theory.proofs.Masks.{has-suc}
use Rattle.theory.proofs.Loops.{up_to_at}
use Rattle.theory.proofs.Accepted.{accepted}
use Rattle.pddl_theory.specs.Inner.Limits.{most_facts}
use Rattle.pddl_write.proofs.Alone.{last_has}
use Rattle.pddl_write.specs.declared.Part.{Part}
use Rattle.pddl_write.specs.declared.Part.TheVariants.{Law, Waits}
use Rattle.pddl_write.specs.Inner.Parts.{of_member, text_of}
use Rattle.pddl_write.specs.Inner.Put.{Slot, slot, most, next, put_all, Put, chosen, one, is_own}

-- ---- places

pub next-inside : (at : ℕ) → at < most → at + 1 ≡ next at
unfolding next
next-inside at h = rw (lt-ltb at most h)

pub next_last : (at : ℕ) → most ≤ at → at ≡ next at
unfolding next
next_last at h = rw (le-ltb at most h)

-- ---- one byte

pub byte_inside : (out : List ℕ) (at b r : ℕ) → r ≡ next at → Put (b ∷ []) out at (set out at b) r
unfolding put_all
byte_inside out at b r e = record { done = ap (slot (set out at b)) e }

pub byte-outside : (out : List ℕ) (at b r : ℕ) → length out ≤ at → r ≡ next at → Put (b ∷ []) out at out r
unfolding put_all
byte-outside out at b r h e = record { done = rw (set_out out at b h) (ap (slot out) e) }

-- ---- one text after another

put-append : (p q : List ℕ) (s : Slot) → put_all (p ++ q) s ≡ put_all q (put_all p s)
unfolding put_all
put-append [] q s = refl
put-append (b ∷ p) q s = put-append p q (slot (set s.out s.at b) (next s.at))

module _ {p q before : List ℕ} {at : ℕ} {mid : List ℕ} {m : ℕ} where
  pub put_then : {after : List ℕ} {end : ℕ} → Put p before at mid m → Put q mid m after end
      → Put (p ++ q) before at after end
  put_then f g =
      record { done = g.done ∙ ap (put_all q) f.done ∙ sym (put-append p q (slot before at)) }

pub put-none : (out : List ℕ) (at : ℕ) → Put [] out at out at
unfolding put_all
put-none out at = record { done = refl }

-- ---- a loop

-- `rest` is still to be put, and putting it gives the whole
pub record Stage (whole before : List ℕ) (at : ℕ) (rest out : List ℕ) (next : ℕ) : Type 0 where
  pub kept : length out ≡ length before
  pub same : put_all whole (slot before at) ≡ put_all rest (slot out next)

module _ {whole before : List ℕ} {at : ℕ} where
  pub stage-begin : Stage whole before at whole before at
  stage-begin = record { kept = refl; same = refl }

  module _ {rest out : List ℕ} {next : ℕ} (s : Stage whole before at rest out next) where
    -- p is put
    pub stage-put : {p mid : List ℕ} {b : ℕ} (more : List ℕ) → Put p out next mid b → length mid ≡ length out
        → rest ≡ p ++ more → Stage whole before at more mid b
    stage-put {p} more f k e = record {
      kept = k ∙ s.kept;
      same =
          s.same ∙ ap (λ (q : List ℕ). put_all q (slot out next)) e ∙ put-append p more (slot out next)
          ∙ sym (ap (put_all more) f.done);
    }

    pub stage-end : rest ≡ [] → Put whole before at out next
    unfolding put_all
    stage-end e = record { done = sym (s.same ∙ ap (λ (p : List ℕ). put_all p (slot out next)) e) }

-- ---- the numbers below n that pass a test, from i on

pub from_at : (xs : List ℕ) (i : ℕ) → i < length xs → drop i xs ≡ (get_or xs i 0 ∷ []) ++ drop (i + 1) xs
from_at xs i h = drop-cons xs i 0 h ∙ rw (add-one i)

abbrev pub left : (ℕ → Bool) → ℕ → ℕ → List ℕ
left p n i = keep p (drop i (up_to n))

module _ (p : ℕ → Bool) (n i : ℕ) where
  up_to_from : i < n → drop i (up_to n) ≡ i ∷ drop (i + 1) (up_to n)
  up_to_from h =
      let l : i < length (up_to n) = omega (arith, up_to_length n) in
      from_at (up_to n) i l ∙ ap (λ (x : ℕ). x ∷ drop (i + 1) (up_to n)) (up_to_at n i h)

  left_at : i < n → left p n i ≡ cond (p i) (i ∷ left p n (i + 1)) (left p n (i + 1))
  unfolding keep collect
  left_at h = ap (keep p) (up_to_from h)

  -- the next of them, where it passes, then the texts of the others
  pub each_at : (g : ℕ → List ℕ) → i < n
      → each g (left p n i) ≡ chosen (p i) (g i) ++ each g (left p n (i + 1))
  unfolding each flatten chosen
  each_at g h = ap (each g) (left_at h) ∙ go (p i)
    where
      go : (b : Bool) → each g (cond b (i ∷ left p n (i + 1)) (left p n (i + 1)))
          ≡ chosen b (g i) ++ each g (left p n (i + 1))
      go true = refl
      go false = refl

  pub numbered-at : (g : ℕ → ℕ → List ℕ) (k : ℕ) → i < n
      → numbered g k (left p n i) ≡ chosen (p i) (g k i) ++ numbered g (k + one (p i)) (left p n (i + 1))
  unfolding numbered chosen one
  numbered-at g k h = ap (numbered g k) (left_at h) ∙ go (p i)
    where
      go : (b : Bool) → numbered g k (cond b (i ∷ left p n (i + 1)) (left p n (i + 1)))
          ≡ chosen b (g k i) ++ numbered g (k + one b) (left p n (i + 1))
      go true = rw (add-one k)
      go false = rw (add-zero k)

  pub length_at : i < n → length (left p n i) ≡ one (p i) + length (left p n (i + 1))
  unfolding one
  length_at h = ap length (left_at h) ∙ go (p i)
    where
      go : (b : Bool) → length (cond b (i ∷ left p n (i + 1)) (left p n (i + 1)))
          ≡ one b + length (left p n (i + 1))
      go true = omega arith
      go false = omega arith

  -- none is left
  pub left-none : n ≤ i → left p n i ≡ []
  unfolding keep collect
  left-none h =
      let l : length (up_to n) ≤ i = omega (arith, up_to_length n) in ap (keep p) (drop_of_length-le (up_to n) l)

  pub each_none : (g : ℕ → List ℕ) → n ≤ i → each g (left p n i) ≡ []
  unfolding each flatten
  each_none g h = ap (each g) (left-none h)

  pub numbered-none : (g : ℕ → ℕ → List ℕ) (k : ℕ) → n ≤ i → numbered g k (left p n i) ≡ []
  unfolding numbered
  numbered-none g k h = ap (numbered g k) (left-none h)

-- ---- bytes that are put only where a test holds

module _ (p out : List ℕ) (at : ℕ) where
  pub skip : (b x : Bool) → b ≡ x → b ≡ false → Put (chosen x p) out at out at
  unfolding chosen
  skip b x e f = subst (λ (y : Bool). Put (chosen y p) out at out at) (sym f ∙ e) (put-none out at)

  pub choose : (after : List ℕ) (end : ℕ) (b x : Bool) → b ≡ x → b ≡ true → Put p out at after end
      → Put (chosen x p) out at after end
  unfolding chosen
  choose after end b x e t h = subst (λ (y : Bool). Put (chosen y p) out at after end) (sym t ∙ e) h

  pub skip-other : (o x i : ℕ) → o ≡ x → (o ≡ i → ⊥) → Put (chosen (eqb x i) p) out at out at
  skip-other o x i e h = skip false (eqb x i) (sym (ne_eqb x i (λ q. h (e ∙ q)))) refl

  pub choose-own : (after : List ℕ) (end : ℕ) (o x i : ℕ) → o ≡ x → o ≡ i → Put p out at after end
      → Put (chosen (eqb x i) p) out at after end
  choose-own after end o x i e h f = choose after end true (eqb x i) (sym (eq-eqb x i (sym e ∙ h))) refl f

-- the byte of a test
pub one_byte : (o x i : ℕ) → o ≡ x → bool_byte (eqb o i) ≡ one (eqb x i)
unfolding one
one_byte o x i e = go (eqb o i) ∙ ap (λ (n : ℕ). one (eqb n i)) e
  where
    go : (b : Bool) → bool_byte b ≡ one b
    go true = refl
    go false = refl

-- ---- loops that number

one-few : (b : Bool) → one b ≤ 1
unfolding one
one-few true = omega arith
one-few false = omega arith

-- n of the numbers below a pass the test
pub record Counted (p : ℕ → Bool) (m n a : ℕ) : Type 0 where
  pub sum : length (keep p (up_to m)) ≡ n + length (left p m a)
  pub few : n ≤ a

module _ {p : ℕ → Bool} {m : ℕ} where
  pub counted-begin : Counted p m 0 0
  counted-begin = record { sum = omega arith; few = omega arith }

  pub counted-onward : {n a : ℕ} → Counted p m n a → a < m → (r : ℕ) → r ≡ one (p a) → Counted p m (n + r) (a + 1)
  counted-onward {n} {a} h l r e =
      record { sum = omega (arith, h.sum, length_at p m a l); few = omega (arith, h.few, one-few (p a)) }

  pub counted-end : {n a : ℕ} → Counted p m n a → m ≤ a → n ≡ length (keep p (up_to m))
  counted-end {n} {a} h l =
      let z : length (left p m a) ≡ 0 = ap length (left-none p m a l) in omega (arith, h.sum)

-- those below a that pass have been put, numbered from k on
pub record Turns (g : ℕ → ℕ → List ℕ) (p : ℕ → Bool) (m k : ℕ) (before : List ℕ) (at : ℕ) (out : List ℕ)
    (next number a : ℕ) : Type 0 where
  pub stage : Stage (numbered g k (keep p (up_to m))) before at (numbered g number (left p m a)) out next
  pub few : number ≤ k + a

module _ {g : ℕ → ℕ → List ℕ} {p : ℕ → Bool} {m k : ℕ} {before : List ℕ} {at : ℕ} where
  pub turns_begin : Turns g p m k before at before at k 0
  turns_begin = record { stage = stage-begin; few = omega arith }

  module _ {out : List ℕ} {next number a : ℕ} (h : Turns g p m k before at out next number a) where
    pub turns_onward : {mid : List ℕ} {b : ℕ} → a < m → Put (chosen (p a) (g number a)) out next mid b
        → length mid ≡ length out → (r : ℕ) → r ≡ one (p a) → Turns g p m k before at mid b (number + r) (a + 1)
    turns_onward l f e r q = record {
      stage = stage-put h.stage (numbered g (number + r) (left p m (a + 1))) f e
          (numbered-at p m a g number l
          ∙ ap (λ (x : ℕ). chosen (p a) (g number a) ++ numbered g (number + x) (left p m (a + 1))) (sym q));
      few = omega (arith, h.few, one-few (p a));
    }

    pub turns_end : m ≤ a → Put (numbered g k (keep p (up_to m))) before at out next
    turns_end l = stage-end h.stage (numbered-none p m a g number l)

-- ---- loops over the members

pub keep-few : (p : ℕ → Bool) (xs : List ℕ) → length (keep p xs) ≤ length xs
unfolding keep collect
keep-few p [] = omega arith
keep-few p (x ∷ xs) = go (p x) (keep-few p xs)
  where
    go : (b : Bool) → length (keep p xs) ≤ length xs → length (cond b (x ∷ keep p xs) (keep p xs)) ≤ suc (length xs)
    go true h = omega arith
    go false h = omega arith

pub own-few : (t : List ℕ) (i : ℕ) → length (own t i) ≤ actions t
unfolding own
own-few t i = omega (arith, keep-few (is_own t i) (up_to (actions t)), up_to_length (actions t))

-- numbering goes on from one list to the next
pub numbered-append : (g : ℕ → ℕ → List ℕ) (k : ℕ) (xs ys : List ℕ)
    → numbered g k (xs ++ ys) ≡ numbered g k xs ++ numbered g (k + length xs) ys
unfolding numbered
numbered-append g k [] ys = rw (add-zero k)
numbered-append g k (x ∷ xs) ys =
    let e : suc k + length xs ≡ k + suc (length xs) = omega arith in
    ap (λ (l : List ℕ). g k x ++ l)
    (numbered-append g (suc k) xs ys ∙ ap (λ (n : ℕ). numbered g (suc k) xs ++ numbered g n ys) e)
    ∙ sym (append_assoc (g k x) (numbered g (suc k) xs) (numbered g (k + suc (length xs)) ys))

-- a text of members is, where the first has action k as its first
abbrev pub of_members : Part → List ℕ → ℕ → List ℕ → List ℕ
of_members Law t k is = members_text t k is
of_members Waits t k is = numbered (action_waits t) k (flatten (map (own t) is))

members-none : (part : Part) (t : List ℕ) (k : ℕ) → of_members part t k [] ≡ []
unfolding members_text numbered flatten
members-none Law t k = refl
members-none Waits t k = refl

members-more : (part : Part) (t : List ℕ) (k i : ℕ) (is : List ℕ)
    → of_members part t k (i ∷ is) ≡ of_member part t k i ++ of_members part t (k + length (own t i)) is
unfolding members_text flatten
members-more Law t k i is = refl
members-more Waits t k i is = numbered-append (action_waits t) k (own t i) (flatten (map (own t) is))

text-members : (part : Part) (t : List ℕ) → of_members part t 0 (up_to (members t)) ≡ text_of part t
unfolding law_text waits_text order
text-members Law t = refl
text-members Waits t = refl

-- those below i have been put, and k is the number of the next action
pub record Across (part : Part) (t before out : List ℕ) (next k i : ℕ) : Type 0 where
  pub stage : Stage (text_of part t) before 0 (of_members part t k (drop i (up_to (members t)))) out next
  pub few : k ≤ 256 * i

module _ {part : Part} {t before : List ℕ} where
  pub across_begin : Across part t before before 0 0 0
  across_begin = record {
    stage = record { kept = refl; same = ap (λ (p : List ℕ). put_all p (slot before 0)) (sym (text-members part t)) };
    few = omega arith;
  }

  module _ {out : List ℕ} {next k i : ℕ} (h : Across part t before out next k i) where
    pub across_onward : {mid : List ℕ} {b : ℕ} → check t ≡ 0 → i < members t
        → Put (of_member part t k i) out next mid b → length mid ≡ length out → (r : ℕ) → r ≡ length (own t i)
        → Across part t before mid b (k + r) (i + 1)
    across_onward c l f e r q =
        let rest = drop (i + 1) (up_to (members t)) in
        record {
          stage = stage-put h.stage (of_members part t (k + r) rest) f e
              (ap (of_members part t k) (up_to_from (is_own t i) (members t) i l) ∙ members-more part t k i rest
              ∙ ap (λ (x : ℕ). of_member part t k i ++ of_members part t (k + x) rest) (sym q));
          few = omega (arith, h.few, own-few t i, (accepted t c).few-actions);
        }

    pub across_end : members t ≤ i → Put (text_of part t) before 0 out next
    across_end l =
        let past : length (up_to (members t)) ≤ i = omega (arith, up_to_length (members t)) in
        stage-end h.stage
        (ap (of_members part t k) (drop_of_length-le (up_to (members t)) past) ∙ members-none part t k)

-- ---- facts

pub facts-few : (t : List ℕ) → check t ≡ 0 → facts t ≤ most_facts
facts-few t c = (accepted t c).few-facts

-- the facts of a mask of the task
pub put-mask : (g : ℕ → List ℕ) (F x x' : ℕ) {before after : List ℕ} {at end : ℕ}
    → Put (each g (standing F x)) before at after end → x ≡ x'
    → Put (each g (standing F x')) before at after end
put-mask g F x x' {before} {after} {at} {end} h q =
    subst (λ (y : ℕ). Put (each g (standing F y)) before at after end) q h

-- every fact stands in the mask with every bit
pub full-has : (k f : ℕ) → f < k → has f (2 ^ k - 1) ≡ true
full-has zero f h = absurd (omega arith)
full-has (suc k) zero h = last_has (2 ^ suc k - 1) (omega (arith, pow-suc 2 k, pow_pos k))
full-has (suc k) (suc f) h =
    let e : (2 ^ suc k - 1) / 2 ≡ 2 ^ k - 1 = omega (arith, pow-suc 2 k, pow_pos k) in
    has-suc f (2 ^ suc k - 1) ∙ ap (has f) e ∙ full-has k f (omega arith)

-- what passes the test everywhere is kept
pub keep_all : (p : ℕ → Bool) (xs : List ℕ) → all_of p xs ≡ true → keep p xs ≡ xs
unfolding keep collect all_of
keep_all p [] h = refl
keep_all p (x ∷ xs) h =
    let r = and_elim (p x) (all_of p xs) h in rw r.0 (ap (λ (l : List ℕ). x ∷ l) (keep_all p xs r.1))

pub standing-all : (F : ℕ) → F ≤ most_facts → standing F (2 ^ most_facts - 1) ≡ up_to F
unfolding standing
standing-all F h =
    keep_all (λ f. has f (2 ^ most_facts - 1)) (up_to F)
    (true-all (λ f. has f (2 ^ most_facts - 1)) (up_to F)
    (λ f m. let l : f < most_facts = omega (arith, up_to_mem F m) in full-has most_facts f l))

pub put-all : (g : ℕ → List ℕ) (F x : ℕ) {before after : List ℕ} {at end : ℕ}
    → Put (each g (standing F x)) before at after end → x ≡ 2 ^ most_facts - 1 → F ≤ most_facts
    → Put (each g (up_to F)) before at after end
put-all g F x {before} {after} {at} {end} h e l =
    subst (λ (xs : List ℕ). Put (each g xs) before at after end) (ap (standing F) e ∙ standing-all F l) h

-- ---- a whole text, from the slice's front on

put_sets : (p out : List ℕ) (at : ℕ) → at + length p ≤ most
    → put_all p (slot out at) ≡ slot (sets out at p) (at + length p)
unfolding put_all
put_sets [] out at h = ap (slot out) (sym (add-zero at))
put_sets (b ∷ p) out at h =
    let e : next at ≡ suc at = sym (next-inside at (omega arith)) ∙ add-one at in
    let z : suc at + length p ≡ at + suc (length p) = omega arith in
    ap (λ (n : ℕ). put_all p (slot (set out at b) n)) e ∙ put_sets p (set out at b) (suc at) (omega arith)
    ∙ ap (slot (sets (set out at b) (suc at) p)) z

module _ {p out after : List ℕ} {end : ℕ} (f : Put p out 0 after end) (h : length p ≤ most) where
  place : slot after end ≡ slot (sets out 0 p) (length p)
  place = f.done ∙ put_sets p out 0 (omega arith) ∙ ap (slot (sets out 0 p)) (omega arith)

  pub put-length : end ≡ length p
  put-length = ap (λ (s : Slot). s.at) place

  module _ (l : length p ≤ length out) where
    held : after ≡ p ++ drop (length p) out
    held =
        let z : 0 + length p ≡ length p = omega arith in
        ap (λ (s : Slot). s.out) place ∙ sets-eq p out 0 (omega arith)
        ∙ ap (λ (n : ℕ). p ++ drop n out) z

    -- with zeros after it
    pub put-padded : length after ≡ length out
        → take end after ++ replicate (length after - end) 0 ≡ padded (length out) p
    put-padded k =
        ap (λ (n : ℕ). take n after ++ replicate (length after - n) 0) put-length
        ∙ ap (λ (n : ℕ). take (length p) after ++ replicate (n - length p) 0) k
        ∙ ap (λ (xs : List ℕ). xs ++ replicate (length out - length p) 0)
        (ap (take (length p)) held ∙ take-append_seam p (drop (length p) out))
