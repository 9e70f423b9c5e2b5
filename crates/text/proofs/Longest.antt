-- How long a text of at most n records of w fields is: whoever has read one byte more need read no further.
-- A task's text has at most 50,350 bytes. Assumes nothing.
use mathlib.Core.Path.{◌≡◌, refl, sym, ap, subst, ◌∙◌}
use mathlib.Core.Bool.{Bool, true, false, ◌&&◌}
use mathlib.Core.List.{List, [], ◌∷◌, ◌++◌, append_assoc, append-nil}
use Prim.Native.Nat.{ℕ, ◌+◌, ◌-◌, ◌*◌, ◌^◌, ◌≤◌, ◌<◌}
use native.Mathlib.Nat.{mul-le-mul_right, pow-le-pow_right, pow-succ', mul_assoc, suc-mul}
use native.Mathlib.Omega.{arith}
use lib.ListN.{length, take, length-append}
use lib.Seq.{length-take-le, take_all}
use lib.Dec.{eqb, ltb, leb}
use borrow.Author.Tests.{ltb-true, ltb-false, le-leb, leb-true, eqb-true}
use Rattle.semantics.specs.Base.{all_of, zeroed}
use Rattle.semantics.specs.Task.{row_width, check}
use Rattle.semantics.specs.Text.{comma, cr, lf, most_records, is_digit, records_from, records, fields_from, fields, number}
use Rattle.semantics.specs.Text.{no_leading_zero, is_field, is_record, is_text, read_records, read_text}
use Rattle.text.proofs.Lists.{cond_ind, and_left, and_right, number-snoc, number-one, field_first}
use Rattle.text.proofs.Scanning.{too_short, no_text}
use Rattle.text.specs.Post.{most_words, reading}
use Rattle.refusal.specs.declared.Refusal.TheVariants as reason
use Rattle.std.specs.Prelude.{Err}

-- the digits of a field: 2^64 - 1 has 20
abbrev pub most_digits : ℕ
most_digits = 20

-- the bytes of a record of w fields: its digits and the commas between its fields
abbrev pub record_bytes : ℕ → ℕ
record_bytes w = w * most_digits + (w - 1)

-- the bytes of a text of n records of w fields: those of each record, CR and LF
abbrev pub text_bytes : ℕ → ℕ → ℕ
text_bytes w n = n * (record_bytes w + 2)

-- the bytes of a task's text
abbrev pub most_bytes : ℕ
most_bytes = text_bytes row_width most_records

pub most_bytes_lem : most_bytes ≡ 50350
most_bytes_lem = refl

-- ---- a field

-- each digit more makes the number at least ten times as large
pub number_scales : (ds s : List ℕ) → number ds * 10 ^ length s ≤ number (ds ++ s)
number_scales ds [] = rw append-nil (omega arith)
number_scales ds (b ∷ s) =
    let e : number (ds ++ (b ∷ [])) ≡ 10 * number ds + (b - 48) = number-snoc ds b in
    let g : number ((ds ++ (b ∷ [])) ++ s) ≡ number (ds ++ (b ∷ s)) = ap number (append_assoc ds (b ∷ []) s) in
    let l : number ds * 10 * 10 ^ length s ≤ number (ds ++ (b ∷ [])) * 10 ^ length s =
    mul-le-mul_right (10 ^ length s) (omega arith) in
    let h : number (ds ++ (b ∷ [])) * 10 ^ length s ≤ number ((ds ++ (b ∷ [])) ++ s) =
    number_scales (ds ++ (b ∷ [])) s in
    rw (pow-succ' 10 (length s), ← (mul_assoc (number ds) 10 (10 ^ length s))) (omega arith)

pub field_fits : (ds : List ℕ) → is_field ds ≡ true → number ds < 2 ^ 64
unfolding is_field
field_fits ds h =
    ltb-true (number ds) (2 ^ 64) (and_right (all_of is_digit ds && no_leading_zero ds) (ltb (number ds) (2 ^ 64)) h)

pub field_length : (ds : List ℕ) → is_field ds ≡ true → length ds ≤ most_digits
field_length [] h = omega arith
field_length (b ∷ []) h = omega arith
field_length (b ∷ c ∷ ds) h = go (ltb (length (c ∷ ds)) most_digits) refl
  where
    go : (t : Bool) → ltb (length (c ∷ ds)) most_digits ≡ t → length (b ∷ c ∷ ds) ≤ most_digits
    go true e = let l = ltb-true (length (c ∷ ds)) most_digits e in omega arith
    go false e =
        let l : 10 ^ 20 ≤ 10 ^ length (c ∷ ds) =
        pow-le-pow_right {n = 10} (omega arith) (ltb-false (length (c ∷ ds)) most_digits e) in
        let m : 1 * 10 ^ length (c ∷ ds) ≤ number (b ∷ []) * 10 ^ length (c ∷ ds) =
        mul-le-mul_right (10 ^ length (c ∷ ds)) (omega (arith, number-one b, field_first b c ds h)) in
        absurd (omega (arith, number_scales (b ∷ []) (c ∷ ds), field_fits (b ∷ c ∷ ds) h))

-- ---- records and texts

-- the bytes of some lists, with k more after each
unfoldable bytes : ℕ → List (List ℕ) → ℕ
bytes k [] = 0
bytes k (x ∷ xs) = length x + k + bytes k xs

-- where each list is no longer than n
bytes_most : (k n : ℕ) (test : List ℕ → Bool) → ((x : List ℕ) → test x ≡ true → length x ≤ n)
    → (xs : List (List ℕ)) → all_of test xs ≡ true → bytes k xs ≤ length xs * (n + k)
unfolding bytes all_of
bytes_most k n test short [] h = omega arith
bytes_most k n test short (x ∷ xs) h =
    let l : length x ≤ n = short x (and_left (test x) (all_of test xs) h) in
    let m : bytes k xs ≤ length xs * (n + k) = bytes_most k n test short xs (and_right (test x) (all_of test xs) h) in
    rw (suc-mul (length xs) (n + k)) (omega arith)

fields-bytes : (r q : List ℕ) → length r + length q + 1 ≡ bytes 1 (fields_from r q)
unfolding bytes fields_from
fields-bytes r [] = omega arith
fields-bytes r (b ∷ q) =
    cond_ind (λ (fs : List (List ℕ)). length r + length (b ∷ q) + 1 ≡ bytes 1 fs) (eqb b comma)
    (λ e. omega (arith, fields-bytes [] q))
    (λ e. omega (arith, fields-bytes (r ++ (b ∷ [])) q, length-append r (b ∷ [])))

records-bytes : (t p : List ℕ) → length p + length t ≤ bytes 2 (records_from p t)
unfolding bytes records_from
records-bytes [] [] = omega arith
records-bytes [] (c ∷ p) = omega arith
records-bytes (b ∷ []) [] = omega arith
records-bytes (b ∷ []) (c ∷ p) = omega (arith, length-append p (b ∷ []))
records-bytes (b ∷ d ∷ t) [] =
    cond_ind (λ (rs : List (List ℕ)). length {A = ℕ} [] + length (b ∷ d ∷ t) ≤ bytes 2 rs) (eqb b cr && eqb d lf)
    (λ e. omega (arith, records-bytes t []))
    (λ e. omega (arith, records-bytes (d ∷ t) (b ∷ [])))
records-bytes (b ∷ d ∷ t) (c ∷ p) =
    cond_ind (λ (rs : List (List ℕ)). length (c ∷ p) + length (b ∷ d ∷ t) ≤ bytes 2 rs) (eqb b cr && eqb d lf)
    (λ e. omega (arith, records-bytes t []))
    (λ e. omega (arith, records-bytes (d ∷ t) (c ∷ (p ++ (b ∷ []))), length-append p (b ∷ [])))

pub record_length : (w : ℕ) (r : List ℕ) → is_record w r ≡ true → length r ≤ record_bytes w
unfolding is_record
record_length w r h =
    let wide : length (fields r) ≡ w =
    eqb-true (length (fields r)) w (and_left (eqb (length (fields r)) w) (all_of is_field (fields r)) h) in
    let sound : all_of is_field (fields r) ≡ true = and_right (eqb (length (fields r)) w) (all_of is_field (fields r)) h in
    let l : bytes 1 (fields r) ≤ w * (most_digits + 1) =
    subst (λ (x : ℕ). bytes 1 (fields r) ≤ x * (most_digits + 1)) wide
    (bytes_most 1 most_digits is_field field_length (fields r) sound) in
    omega (arith, fields-bytes [] r)

module _ (w n : ℕ) (text : List ℕ) where
  pub longest_text : is_text w n text ≡ true → length text ≤ text_bytes w n
  unfolding is_text
  longest_text h =
      let few : length (records text) ≤ n =
      leb-true (length (records text)) n
      (and_left (leb (length (records text)) n) (all_of (is_record w) (records text)) h) in
      let sound : all_of (is_record w) (records text) ≡ true =
      and_right (leb (length (records text)) n) (all_of (is_record w) (records text)) h in
      let l : length (records text) * (record_bytes w + 2) ≤ n * (record_bytes w + 2) =
      mul-le-mul_right (record_bytes w + 2) few in
      let m : bytes 2 (records text) ≤ length (records text) * (record_bytes w + 2) =
      bytes_most 2 (record_bytes w) (is_record w) (record_length w) (records text) sound in
      omega (arith, records-bytes text [])

  pub long-no-text : text_bytes w n < length text → is_text w n text ≡ false
  long-no-text l = go (is_text w n text) refl
    where
      go : (t : Bool) → is_text w n text ≡ t → is_text w n text ≡ false
      go true e = absurd (omega (arith, longest_text e))
      go false e = e

-- ---- any number of records

-- a text has no more records than bytes
records-few : (t p : List ℕ) → length (records_from p t) ≤ length p + length t
unfolding records_from
records-few [] [] = omega arith
records-few [] (c ∷ p) = omega arith
records-few (b ∷ []) [] = omega arith
records-few (b ∷ []) (c ∷ p) = omega arith
records-few (b ∷ d ∷ t) [] =
    cond_ind (λ (rs : List (List ℕ)). length rs ≤ length {A = ℕ} [] + length (b ∷ d ∷ t)) (eqb b cr && eqb d lf)
    (λ e. omega (arith, records-few t []))
    (λ e. omega (arith, records-few (d ∷ t) (b ∷ [])))
records-few (b ∷ d ∷ t) (c ∷ p) =
    cond_ind (λ (rs : List (List ℕ)). length rs ≤ length (c ∷ p) + length (b ∷ d ∷ t)) (eqb b cr && eqb d lf)
    (λ e. omega (arith, records-few t []))
    (λ e. omega (arith, records-few (d ∷ t) (c ∷ (p ++ (b ∷ []))), length-append p (b ∷ [])))

-- so its length is a limit that refuses none
pub any-number : (w : ℕ) (text : List ℕ) → is_text w (length text) text ≡ all_of (is_record w) (records text)
unfolding is_text
any-number w text = rw (le-leb (length (records text)) (length text) (omega (arith, records-few text [])))

-- ---- reading no further

-- a longer text is refused with 15, whatever it is
module _ (w n : ℕ) (refusal : List ℕ → ℕ) (text words : List ℕ) where
  pub long-records-refused : text_bytes w n < length text → w * n ≤ length words
      → read_records w n refusal text words ≡ reading (Err reason.Text) (zeroed words)
  long-records-refused l long = sym (no_text w n refusal text words long (long-no-text w n text l))

-- the answer to a text is the answer to its front, one byte longer than the longest
pub read-records-front : (w n : ℕ) (refusal : List ℕ → ℕ) (text words : List ℕ)
    → read_records w n refusal (take (text_bytes w n + 1) text) words ≡ read_records w n refusal text words
read-records-front w n refusal text words =
    go (ltb (text_bytes w n) (length text)) refl (ltb (length words) (w * n)) refl
  where
    go : (long : Bool) → ltb (text_bytes w n) (length text) ≡ long → (short : Bool) → ltb (length words) (w * n) ≡ short
        → read_records w n refusal (take (text_bytes w n + 1) text) words ≡ read_records w n refusal text words
    go false e short s =
        ap (λ (t : List ℕ). read_records w n refusal t words)
        (take_all (text_bytes w n + 1) text (omega (arith, ltb-false (text_bytes w n) (length text) e)))
    go true e true s =
        let h = ltb-true (length words) (w * n) s in
        sym (too_short w n refusal (take (text_bytes w n + 1) text) words h) ∙ too_short w n refusal text words h
    go true e false s =
        let l : text_bytes w n < length text = ltb-true (text_bytes w n) (length text) e in
        let h = ltb-false (length words) (w * n) s in
        let k : length (take (text_bytes w n + 1) text) ≡ text_bytes w n + 1 =
        length-take-le (text_bytes w n + 1) text (omega arith) in
        long-records-refused w n refusal (take (text_bytes w n + 1) text) words (omega arith) h
        ∙ sym (long-records-refused w n refusal text words l h)

-- of a task's text: 50,350 bytes at most, so its first 50,351 tell
pub long-refused : (text words : List ℕ) → most_bytes < length text → most_words ≤ length words
    → read_text text words ≡ reading (Err reason.Text) (zeroed words)
unfolding read_text
long-refused text words l long = long-records-refused row_width most_records check text words l long

pub read-front : (text words : List ℕ) → read_text (take (most_bytes + 1) text) words ≡ read_text text words
unfolding read_text
read-front text words = read-records-front row_width most_records check text words
