-- A text that is written from words reads back to them. Assumes nothing.
use mathlib.Core.Path.{◌≡◌, refl, sym, ap, ap₂, subst, ◌∙◌}
use mathlib.Core.Bool.{Bool, true, false, not, ◌&&◌, false≢true}
use mathlib.Core.List.{List, [], ◌∷◌, ◌++◌, map, flatten, append_assoc, append-nil}
use Prim.Native.Nat.{ℕ, zero, suc, ◌+◌, ◌*◌, ◌/◌, ◌%◌, ◌^◌, ◌≤◌, ◌<◌}
use native.Mathlib.Nat.{mul-suc}
use native.Mathlib.Omega.{arith}
use lib.ListN.{length, take, drop, length-map, length-drop, take-append-drop}
use lib.Seq.{length-take-le}
use lib.Dec.{eqb, ltb}
use borrow.Author.Tests.{le-leb, ltb-true, ltb-false, ne_eqb}
use Rattle.semantics.specs.Base.{all_of, gives, padded}
use Rattle.semantics.specs.Task.{row_width, check}
use Rattle.semantics.specs.Text.{comma, cr, lf, most_records, is_digit, records_from, records, fields_from, fields, number}
use Rattle.semantics.specs.Text.{is_field, is_record, is_text, text_words, read_records, read_text, digits_in, digits}
use Rattle.text.proofs.Lists.{cond_ind, and_left, and_right, all_append, all_one, all_cons, all_both}
use Rattle.text.proofs.Lists.{number-snoc, number-one, digit_low, field_digits, field_none, field_one}
use Rattle.text.proofs.Lists.{field_more, fields-comma, fields-byte, fields-last, record_made, records-end}
use Rattle.text.proofs.Lists.{records-line, records-byte, words_of, words-text, text-good}
use Rattle.text.proofs.Scanning.{accepts}
use Rattle.text.specs.Post.{most_words, reading}
use Rattle.std.specs.Prelude.{Ok}
use Rattle.text.specs.Inner.Written.{row, written, unended, is_word}

-- ---- digits

digit : (b : ℕ) → 48 ≤ b → b < 58 → is_digit b ≡ true
digit b l h =
    let g : b ≤ 57 = omega arith in
    rw (le-leb 48 b l, le-leb b 57 g)

pub digits_field : (most n : ℕ) → n ≤ most → n < 2 ^ 64
    → (is_field (digits_in most n) ≡ true) × (number (digits_in most n) ≡ n)
unfolding digits_in
digits_field zero n h l =
    (field_one (48 + n) (digit (48 + n) (omega arith) (omega arith)), number-one (48 + n) ∙ omega arith)
digits_field (suc most) n h l =
    cond_ind (λ (ds : List ℕ). (is_field ds ≡ true) × (number ds ≡ n)) (ltb n 10)
    (λ e. one (ltb-true n 10 e))
    (λ e. more (ltb-false n 10 e) (λ (g : 10 ≤ n). digits_field most (n / 10) (omega arith) (omega arith)))
  where
    one : n < 10 → (is_field ((48 + n) ∷ []) ≡ true) × (number ((48 + n) ∷ []) ≡ n)
    one g = (field_one (48 + n) (digit (48 + n) (omega arith) (omega arith)), number-one (48 + n) ∙ omega arith)

    more : 10 ≤ n → (10 ≤ n → (is_field (digits_in most (n / 10)) ≡ true) × (number (digits_in most (n / 10)) ≡ n / 10))
        → (is_field (digits_in most (n / 10) ++ ((48 + n % 10) ∷ [])) ≡ true)
        × (number (digits_in most (n / 10) ++ ((48 + n % 10) ∷ [])) ≡ n)
    more g rec =
        let r = rec g in
        let v : number (digits_in most (n / 10)) ≡ n / 10 = r.1 in (
          field_more (digits_in most (n / 10)) (48 + n % 10) r.0 (λ z. omega arith)
              (digit (48 + n % 10) (omega arith) (omega arith)) (omega arith),
          number-snoc (digits_in most (n / 10)) (48 + n % 10) ∙ omega arith,
        )

module _ (x : ℕ) (h : is_word x ≡ true) where
  pub word_field : is_field (digits x) ≡ true
  word_field = (digits_field x x (omega arith) (ltb-true x (2 ^ 64) h)).0

  pub word_number : number (digits x) ≡ x
  word_number = (digits_field x x (omega arith) (ltb-true x (2 ^ 64) h)).1

-- ---- a row

-- digits go into the present field
pub fields-digits : (r ds q : List ℕ) → all_of is_digit ds ≡ true → fields_from r (ds ++ q) ≡ fields_from (r ++ ds) q
fields-digits r [] q h = ap (λ (s : List ℕ). fields_from s q) (sym (append-nil r))
fields-digits r (b ∷ ds) q h =
    let d : is_digit b ≡ true = and_left (is_digit b) (all_of is_digit ds) (sym (all_cons is_digit b ds) ∙ h) in
    let g : all_of is_digit ds ≡ true = and_right (is_digit b) (all_of is_digit ds) (sym (all_cons is_digit b ds) ∙ h) in
    fields-byte r (ds ++ q) b (ne_eqb b comma (λ e. omega (arith, digit_low b d)))
    ∙ fields-digits (r ++ (b ∷ [])) ds q g ∙ ap (λ (s : List ℕ). fields_from s q) (append_assoc r (b ∷ []) ds)

pub row-fields : (x : ℕ) (xs : List ℕ) → all_of is_word (x ∷ xs) ≡ true → fields (row (x ∷ xs)) ≡ map digits (x ∷ xs)
unfolding row
row-fields x [] h =
    let d = field_digits (digits x) (word_field x (sym (all_one is_word x) ∙ h)) in
    ap (fields_from []) (sym (append-nil (digits x))) ∙ fields-digits [] (digits x) [] d ∙ fields-last (digits x)
row-fields x (y ∷ xs) h =
    let c = sym (all_cons is_word x (y ∷ xs)) ∙ h in
    let d = field_digits (digits x) (word_field x (and_left (is_word x) (all_of is_word (y ∷ xs)) c)) in
    fields-digits [] (digits x) (comma ∷ row (y ∷ xs)) d ∙ fields-comma (digits x) (row (y ∷ xs))
    ∙ ap (λ (fs : List (List ℕ)). digits x ∷ fs) (row-fields y xs (and_right (is_word x) (all_of is_word (y ∷ xs)) c))

pub digits-fields : (xs : List ℕ) → all_of is_word xs ≡ true → all_of is_field (map digits xs) ≡ true
unfolding all_of
digits-fields [] h = refl
digits-fields (x ∷ xs) h =
    rw (word_field x (and_left (is_word x) (all_of is_word xs) h))
    (digits-fields xs (and_right (is_word x) (all_of is_word xs) h))

pub digits-numbers : (xs : List ℕ) → all_of is_word xs ≡ true → map number (map digits xs) ≡ xs
unfolding all_of
digits-numbers [] h = refl
digits-numbers (x ∷ xs) h =
    ap₂ (λ (n : ℕ) (ns : List ℕ). n ∷ ns) (word_number x (and_left (is_word x) (all_of is_word xs) h))
    (digits-numbers xs (and_right (is_word x) (all_of is_word xs) h))

-- bytes that are no CR
abbrev no_cr : ℕ → Bool
no_cr b = not (eqb b cr)

digits-no-cr : (ds : List ℕ) → all_of is_digit ds ≡ true → all_of no_cr ds ≡ true
unfolding all_of
digits-no-cr [] h = refl
digits-no-cr (b ∷ ds) h =
    rw (ne_eqb b cr (λ e. omega (arith, digit_low b (and_left (is_digit b) (all_of is_digit ds) h))))
    (digits-no-cr ds (and_right (is_digit b) (all_of is_digit ds) h))

row-no-cr : (xs : List ℕ) → all_of is_word xs ≡ true → all_of no_cr (row xs) ≡ true
unfolding all_of row
row-no-cr [] h = refl
row-no-cr (x ∷ []) h = digits-no-cr (digits x) (field_digits (digits x) (word_field x (and_left (is_word x) true h)))
row-no-cr (x ∷ y ∷ xs) h =
    all_both no_cr (digits x) (comma ∷ row (y ∷ xs))
    (digits-no-cr (digits x) (field_digits (digits x) (word_field x (and_left (is_word x) (all_of is_word (y ∷ xs)) h))))
    (row-no-cr (y ∷ xs) (and_right (is_word x) (all_of is_word (y ∷ xs)) h))

records-plain : (p ps q : List ℕ) → all_of no_cr ps ≡ true → records_from p (ps ++ q) ≡ records_from (p ++ ps) q
records-plain p [] q h = ap (λ (s : List ℕ). records_from s q) (sym (append-nil p))
records-plain p (b ∷ ps) q h =
    let c = sym (all_cons no_cr b ps) ∙ h in
    records-byte p (ps ++ q) b (no (eqb b cr) (and_left (no_cr b) (all_of no_cr ps) c))
    ∙ records-plain (p ++ (b ∷ [])) ps q (and_right (no_cr b) (all_of no_cr ps) c)
    ∙ ap (λ (s : List ℕ). records_from s q) (append_assoc p (b ∷ []) ps)
  where
    no : (t : Bool) → not t ≡ true → t ≡ false
    no true e = sym e
    no false e = refl

-- a row of w words, of which there is one at least
module _ (w : ℕ) (some : 0 < w) (xs : List ℕ) (wide : length xs ≡ w) (fits : all_of is_word xs ≡ true) where
  words-fields : fields (row xs) ≡ map digits xs
  words-fields = go xs wide fits
    where
      go : (ys : List ℕ) → length ys ≡ w → all_of is_word ys ≡ true → fields (row ys) ≡ map digits ys
      go [] e h = absurd (omega arith)
      go (y ∷ ys) e h = row-fields y ys h

  all-fields : all_of is_field (fields (row xs)) ≡ true
  all-fields = ap (all_of is_field) words-fields ∙ digits-fields xs fits

  pub row_record : is_record w (row xs) ≡ true
  row_record = record_made w (row xs) (ap length words-fields ∙ length-map xs digits ∙ wide) all-fields

  pub row_words : map number (fields (row xs)) ≡ xs
  row_words = ap (map number) words-fields ∙ digits-numbers xs fits

  row-some : row xs ≡ [] → ⊥
  row-some e =
      let z : all_of is_field ([] ∷ []) ≡ true = ap (all_of is_field) (sym (ap fields e ∙ fields-last [])) ∙ all-fields in
      false≢true (sym (all_one is_field [] ∙ field_none) ∙ z)

  pub row_line : (t : List ℕ) → records (row xs ++ (cr ∷ lf ∷ t)) ≡ row xs ∷ records t
  row_line t = records-plain [] (row xs) (cr ∷ lf ∷ t) (row-no-cr xs fits) ∙ records-line (row xs) t

  pub row_last : records (row xs) ≡ row xs ∷ []
  row_last =
      ap (records_from []) (sym (append-nil (row xs))) ∙ records-plain [] (row xs) [] (row-no-cr xs fits)
      ∙ records-end (row xs) row-some

-- ---- the text

-- a text of at most n records of w fields, its records and its words
pub record ReadsBack (w n : ℕ) (text ws : List ℕ) (r : ℕ) : Type 0 where
  pub good : is_text w n text ≡ true
  pub count : length (records text) ≡ r
  pub words : text_words text ≡ ws

-- records of w fields, and their words
record Rows (w : ℕ) (rs : List (List ℕ)) (ws : List ℕ) (r : ℕ) : Type 0 where
  sound : all_of (is_record w) rs ≡ true
  count : length rs ≡ r
  words : words_of rs ≡ ws

rows_none : (w : ℕ) (ws : List ℕ) → length ws ≡ 0 → Rows w [] ws 0
unfolding all_of flatten
rows_none w [] e = record { sound = refl; count = refl; words = refl }
rows_none w (x ∷ ws) e = absurd (omega arith)

module _ (w : ℕ) (some : 0 < w) where
  module _ (ws : List ℕ) (n : ℕ) (len : length ws ≡ w * suc n) (fits : all_of is_word ws ≡ true) where
    head-wide : length (take w ws) ≡ w
    head-wide = length-take-le w ws (omega (arith, mul-suc w n))

    parts : (all_of is_word (take w ws) && all_of is_word (drop w ws)) ≡ true
    parts = sym (all_append is_word (take w ws) (drop w ws)) ∙ ap (all_of is_word) (take-append-drop w ws) ∙ fits

    head-fits : all_of is_word (take w ws) ≡ true
    head-fits = and_left (all_of is_word (take w ws)) (all_of is_word (drop w ws)) parts

    rest-fits : all_of is_word (drop w ws) ≡ true
    rest-fits = and_right (all_of is_word (take w ws)) (all_of is_word (drop w ws)) parts

    rest-length : length (drop w ws) ≡ w * n
    rest-length = length-drop w ws ∙ omega (arith, mul-suc w n)

    -- a row before others
    rows-cons : (rs : List (List ℕ)) (r : ℕ) → Rows w rs (drop w ws) r → Rows w (row (take w ws) ∷ rs) ws (suc r)
    unfolding all_of flatten
    rows-cons rs r h = record {
      sound = rw (row_record w some (take w ws) head-wide head-fits) h.sound;
      count = ap suc h.count;
      words =
          ap₂ (λ (xs ys : List ℕ). xs ++ ys) (row_words w some (take w ws) head-wide head-fits) h.words
          ∙ take-append-drop w ws;
    }

    -- its line before the text of the others
    line-cons : (t : List ℕ) (r : ℕ) → Rows w (records t) (drop w ws) r
        → Rows w (records (row (take w ws) ++ (cr ∷ lf ∷ t))) ws (suc r)
    line-cons t r h =
        subst (λ (rs : List (List ℕ)). Rows w rs ws (suc r)) (sym (row_line w some (take w ws) head-wide head-fits t))
        (rows-cons (records t) r h)

  rows_written : (r : ℕ) (ws : List ℕ) → length ws ≡ w * r → all_of is_word ws ≡ true
      → Rows w (records (written w r ws)) ws r
  unfolding written records_from
  rows_written zero ws e h = rows_none w ws (e ∙ omega arith)
  rows_written (suc r) ws e h =
      line-cons ws r e h (written w r (drop w ws)) r
      (rows_written r (drop w ws) (rest-length ws r e h) (rest-fits ws r e h))

  rows-unended : (r : ℕ) (ws : List ℕ) → length ws ≡ w * suc r → all_of is_word ws ≡ true
      → Rows w (records (unended w r ws)) ws (suc r)
  unfolding unended
  rows-unended zero ws e h =
      subst (λ (rs : List (List ℕ)). Rows w rs ws 1)
      (sym (row_last w some (take w ws) (head-wide ws 0 e h) (head-fits ws 0 e h)))
      (rows-cons ws 0 e h [] 0 (rows_none w (drop w ws) (rest-length ws 0 e h ∙ omega arith)))
  rows-unended (suc r) ws e h =
      line-cons ws (suc r) e h (unended w r (drop w ws)) (suc r)
      (rows-unended r (drop w ws) (rest-length ws (suc r) e h) (rest-fits ws (suc r) e h))

reads-rows : (w n : ℕ) (text ws : List ℕ) (r : ℕ) → r ≤ n → Rows w (records text) ws r → ReadsBack w n text ws r
reads-rows w n text ws r l h = record {
  good = text-good w n text (omega (arith, h.count)) h.sound;
  count = h.count;
  words = words-text text (records text) refl ∙ h.words;
}

-- the text of words reads back to them
module _ (w n : ℕ) (some : 0 < w) (r : ℕ) (ws : List ℕ) (fits : all_of is_word ws ≡ true) where
  pub reads-back : r ≤ n → length ws ≡ w * r → ReadsBack w n (written w r ws) ws r
  reads-back l e = reads-rows w n (written w r ws) ws r l (rows_written w some r ws e fits)

  pub reads-back-unended : r < n → length ws ≡ w * suc r → ReadsBack w n (unended w r ws) ws (suc r)
  reads-back-unended l e = reads-rows w n (unended w r ws) ws (suc r) l (rows-unended w some r ws e fits)

-- the reader of records gives words back that have no refusal of their own
pub reads-words : (w n : ℕ) (refusal : List ℕ → ℕ) (text ws out : List ℕ) (r : ℕ) → ReadsBack w n text ws r
    → w * n ≤ length out → refusal ws ≡ 0
    → read_records w n refusal text out ≡ record { answer = gives r; words = padded (length out) ws }
reads-words w n refusal text ws out r h l c =
    sym (accepts w n refusal text out l r h.good (ap refusal h.words ∙ c) (sym h.count))
    ∙ ap (λ (xs : List ℕ). reading (Ok r) (padded (length out) xs)) h.words

-- the text reader gives a task's words back
pub reads-task : (text ws out : List ℕ) (r : ℕ) → ReadsBack row_width most_records text ws r → most_words ≤ length out
    → check ws ≡ 0 → read_text text out ≡ record { answer = gives r; words = padded (length out) ws }
unfolding read_text
reads-task text ws out r h l c = reads-words row_width most_records check text ws out r h l c
