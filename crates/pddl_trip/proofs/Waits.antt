-- The text of the waits: its records, their numbers, and the masks that they make up. Assumes nothing.
use mathlib.Core.Path.{◌≡◌, refl, sym, ap, ap₂, subst, ◌∙◌}
use mathlib.Core.Bool.{Bool, true, cond}
use mathlib.Core.List.{List, [], ◌∷◌, ◌++◌, flatten, append_assoc, Memᴰ}
use Prim.Native.Nat.{ℕ, suc, ◌+◌, ◌^◌, ◌≤◌, ◌<◌}
use native.Mathlib.Omega.{arith}
use lib.Bits.{bit_or, or_zero_l}
use lib.ListN.{length}
use borrow.Author.Tests.{lt-ltb, eq-eqb, ne_eqb}
use Rattle.semantics.specs.Base.{all_of}
use Rattle.semantics.specs.Mask.{below, standing}
use Rattle.semantics.specs.Task.{facts, actions, wait, check}
use Rattle.semantics.specs.Text.{comma, cr, lf, digits, records_from, records, is_record, text_words}
use Rattle.semantics.specs.Pddl.{wait_mask, waits_known}
use Rattle.semantics.specs.PddlWrite.{order, each, numbered, wait_text, action_waits, waits_text}
use Rattle.theory.proofs.Lists.{and_intro}
use Rattle.theory.proofs.Accepted.{accepted}
use Rattle.text.specs.Inner.Written.{row, is_word}
use Rattle.text.proofs.Lists.{words_of, words-text}
use Rattle.text.proofs.RoundTrip.{row_record, row_words, row_line}
use Rattle.pddl_theory.specs.Inner.Limits.{most_facts}
use Rattle.pddl_write.proofs.Laws.{numbered-append}
use Rattle.pddl_theory.proofs.RegroupedWords.{order-length}
use Rattle.pddl_trip.proofs.Masks.{mask_from, standing-mask, standing-below}

-- ---- records

-- the text has these words, in records of two
record Lines (text ws : List ℕ) : Type 0 where
  sound : all_of (is_record 2) (records text) ≡ true
  words : words_of (records text) ≡ ws

lines_none : Lines [] []
unfolding records_from all_of flatten
lines_none = record { sound = refl; words = refl }

abbrev pub pair : ℕ → ℕ → List ℕ
pair k f = k ∷ f ∷ []

wait-row : (k f : ℕ) (more : List ℕ) → wait_text k f ++ more ≡ row (pair k f) ++ (cr ∷ lf ∷ more)
unfolding wait_text row
wait-row k f more =
    append_assoc (digits k) (comma ∷ (digits f ++ (cr ∷ lf ∷ []))) more
    ∙ ap (λ (l : List ℕ). digits k ++ (comma ∷ l)) (append_assoc (digits f) (cr ∷ lf ∷ []) more)
    ∙ sym (append_assoc (digits k) (comma ∷ digits f) (cr ∷ lf ∷ more))

pair_fits : (k f : ℕ) → k < 2 ^ 64 → f < 2 ^ 64 → all_of is_word (pair k f) ≡ true
unfolding all_of
pair_fits k f h l = rw (lt-ltb k (2 ^ 64) h, lt-ltb f (2 ^ 64) l)

wait-line : (k f : ℕ) → k < 2 ^ 64 → f < 2 ^ 64 → (more ws : List ℕ) → Lines more ws
    → Lines (wait_text k f ++ more) (k ∷ f ∷ ws)
unfolding all_of flatten
wait-line k f h l more ws n =
    let fits = pair_fits k f h l in
    let some : 0 < 2 = omega arith in
    let e : records (wait_text k f ++ more) ≡ row (pair k f) ∷ records more =
    ap records (wait-row k f more) ∙ row_line 2 some (pair k f) refl fits more in
    record {
      sound = ap (all_of (is_record 2)) e ∙ and_intro (row_record 2 some (pair k f) refl fits) n.sound;
      words = ap words_of e ∙ ap₂ (λ (xs ys : List ℕ). xs ++ ys) (row_words 2 some (pair k f) refl fits) n.words;
    }

lines-each : (k : ℕ) → k < 2 ^ 64 → (fs : List ℕ) → ((f : ℕ) → Memᴰ f fs → f < 2 ^ 64)
    → (more ws : List ℕ) → Lines more ws → Lines (each (wait_text k) fs ++ more) (each (pair k) fs ++ ws)
unfolding each flatten
lines-each k h [] l more ws n = n
lines-each k h (f ∷ fs) l more ws n =
    subst (λ (q : List ℕ). Lines q (k ∷ f ∷ (each (pair k) fs ++ ws)))
    (sym (append_assoc (wait_text k f) (each (wait_text k) fs) more))
    (wait-line k f h (l f (Memᴰ.head refl)) (each (wait_text k) fs ++ more) (each (pair k) fs ++ ws)
    (lines-each k h fs (λ g m. l g (Memᴰ.tail m)) more ws n))

module _ (t : List ℕ) where
  -- an action's waits as words
  unfoldable pub action_pairs : ℕ → ℕ → List ℕ
  action_pairs k a = each (pair k) (standing (facts t) (wait t a))

  abbrev pub wait_words : List ℕ
  wait_words = numbered action_pairs 0 (order t)

  module _ (c : check t ≡ 0) where
    few : facts t ≤ most_facts
    few = (accepted t c).few-facts

    lines-numbered : (k : ℕ) (xs : List ℕ) → k + length xs ≤ 2 ^ 64
        → Lines (numbered (action_waits t) k xs) (numbered action_pairs k xs)
    unfolding numbered action_waits action_pairs
    lines-numbered k [] h = lines_none
    lines-numbered k (a ∷ xs) h =
        lines-each k (omega arith) (standing (facts t) (wait t a))
        (λ f m. omega (arith, few, standing-below (facts t) (wait t a) f m))
        (numbered (action_waits t) (suc k) xs) (numbered action_pairs (suc k) xs)
        (lines-numbered (suc k) xs (omega arith))

    waits-lines : Lines (waits_text t) wait_words
    unfolding waits_text
    waits-lines =
        lines-numbered 0 (order t) (omega (arith, order-length t (accepted t c), (accepted t c).few-actions))

    pub waits-sound : all_of (is_record 2) (records (waits_text t)) ≡ true
    waits-sound = waits-lines.sound

    pub waits-words : text_words (waits_text t) ≡ wait_words
    waits-words = words-text (waits_text t) (records (waits_text t)) refl ∙ waits-lines.words

    -- ---- numbers that are known

    known-each : (m k : ℕ) → k < m → (fs : List ℕ) → ((f : ℕ) → Memᴰ f fs → f < facts t) → (ws : List ℕ)
        → waits_known m (facts t) ws ≡ true → waits_known m (facts t) (each (pair k) fs ++ ws) ≡ true
    unfolding each flatten waits_known
    known-each m k h [] l ws n = n
    known-each m k h (f ∷ fs) l ws n =
        rw (lt-ltb k m h, lt-ltb f (facts t) (l f (Memᴰ.head refl)))
        (known-each m k h fs (λ g p. l g (Memᴰ.tail p)) ws n)

    known-numbered : (m k : ℕ) (xs : List ℕ) → k + length xs ≤ m
        → waits_known m (facts t) (numbered action_pairs k xs) ≡ true
    unfolding numbered action_pairs waits_known
    known-numbered m k [] h = refl
    known-numbered m k (a ∷ xs) h =
        known-each m k (omega arith) (standing (facts t) (wait t a))
        (λ f p. standing-below (facts t) (wait t a) f p) (numbered action_pairs (suc k) xs)
        (known-numbered m (suc k) xs (omega arith))

    pub waits-known : waits_known (actions t) (facts t) wait_words ≡ true
    waits-known = known-numbered (actions t) 0 (order t) (omega (arith, order-length t (accepted t c)))

  -- ---- masks

  skip-each : (b k : ℕ) → (k ≡ b → ⊥) → (fs ws : List ℕ) → wait_mask b (each (pair k) fs ++ ws) ≡ wait_mask b ws
  unfolding each flatten wait_mask
  skip-each b k h [] ws = refl
  skip-each b k h (f ∷ fs) ws =
      ap (λ (x : Bool). bit_or (cond x (2 ^ f) 0) (wait_mask b (each (pair k) fs ++ ws))) (ne_eqb k b h)
      ∙ or_zero_l (wait_mask b (each (pair k) fs ++ ws)) ∙ skip-each b k h fs ws

  take-each : (b : ℕ) (fs ws : List ℕ) → wait_mask b ws ≡ 0 → wait_mask b (each (pair b) fs ++ ws) ≡ mask_from fs
  unfolding each flatten wait_mask mask_from
  take-each b [] ws h = h
  take-each b (f ∷ fs) ws h =
      ap (λ (x : Bool). bit_or (cond x (2 ^ f) 0) (wait_mask b (each (pair b) fs ++ ws))) (eq-eqb b b refl)
      ∙ ap (bit_or (2 ^ f)) (take-each b fs ws h)

  later-none : (b k : ℕ) (xs : List ℕ) → b < k → wait_mask b (numbered action_pairs k xs) ≡ 0
  unfolding numbered action_pairs wait_mask
  later-none b k [] h = refl
  later-none b k (a ∷ xs) h =
      skip-each b k (λ (e : k ≡ b). omega arith) (standing (facts t) (wait t a)) (numbered action_pairs (suc k) xs)
      ∙ later-none b (suc k) xs (omega arith)

  before-none : (b k : ℕ) (xs ws : List ℕ) → k + length xs ≤ b
      → wait_mask b (numbered action_pairs k xs ++ ws) ≡ wait_mask b ws
  unfolding numbered action_pairs
  before-none b k [] ws h = refl
  before-none b k (a ∷ xs) ws h =
      let fs = standing (facts t) (wait t a) in
      let rest = numbered action_pairs (suc k) xs in
      ap (wait_mask b) (append_assoc (each (pair k) fs) rest ws)
      ∙ skip-each b k (λ (e : k ≡ b). omega arith) fs (rest ++ ws) ∙ before-none b (suc k) xs ws (omega arith)

  -- the facts for which the action at place b of the order waits
  pub wait-at : (front : List ℕ) (a : ℕ) (back : List ℕ) → below (facts t) (wait t a) ≡ true
      → wait_mask (length front) (numbered action_pairs 0 (front ++ (a ∷ back))) ≡ wait t a
  unfolding numbered action_pairs
  wait-at front a back h =
      let b = length front in
      let z : 0 + length front ≡ length front = omega arith in
      ap (wait_mask b)
      (numbered-append action_pairs 0 front (a ∷ back)
      ∙ ap (λ (n : ℕ). numbered action_pairs 0 front ++ numbered action_pairs n (a ∷ back)) z)
      ∙ before-none b 0 front (numbered action_pairs b (a ∷ back)) (omega arith)
      ∙ take-each b (standing (facts t) (wait t a)) (numbered action_pairs (suc b) back)
      (later-none b (suc b) back (omega arith))
      ∙ standing-mask (facts t) (wait t a) h
