-- Document 01, "Text and verdict program": what is a text of records, the words it gives, and the text reader.
use Rattle.std.specs.Prelude.{Bool, true, false, cond, not, ◌&&◌, ℕ, zero, suc, ◌+◌, ◌-◌, ◌*◌, ◌/◌, ◌%◌, ◌^◌, length, eqb, ltb, leb}
use mathlib.Core.List.{List, [], ◌∷◌, ◌++◌, map, foldl, flatten}
use Rattle.semantics.specs.Base.{all_of, ◌if◌, ◌else◌, Answer, refused, gives, ◌leaves◌otherwise◌, padded, zeroed}
use Rattle.semantics.specs.Task.{row_width, check, between}

abbrev pub comma : ℕ
comma = 44

abbrev pub cr : ℕ
cr = 13

abbrev pub lf : ℕ
lf = 10

abbrev pub is_digit : ℕ → Bool
is_digit b = between 48 b 57

-- the records of a text, what was read of the first standing before: each ends in CR LF, the last may lack it
unfoldable pub records_from : List ℕ → List ℕ → List (List ℕ)
records_from [] [] = []
records_from (c ∷ read) [] = (c ∷ read) ∷ []
records_from read (b ∷ []) = (read ++ (b ∷ [])) ∷ []
records_from read (b ∷ c ∷ text) =
    let ended = read ∷ records_from [] text in
    let on = records_from (read ++ (b ∷ [])) (c ∷ text) in
    cond (eqb b cr && eqb c lf) ended on

abbrev pub records : List ℕ → List (List ℕ)
records text = records_from [] text

-- the fields of a record, between commas, what was read of the first standing before
unfoldable pub fields_from : List ℕ → List ℕ → List (List ℕ)
fields_from read [] = read ∷ []
fields_from read (b ∷ bs) =
    let ended = read ∷ fields_from [] bs in
    let on = fields_from (read ++ (b ∷ [])) bs in
    cond (eqb b comma) ended on

abbrev pub fields : List ℕ → List (List ℕ)
fields record' = fields_from [] record'

-- the number that digits write in base ten
unfoldable pub number : List ℕ → ℕ
number digits = foldl (λ x b. 10 * x + (b - 48)) 0 digits

-- the digits of n in base ten; the first argument bounds the number of divisions, and n itself is bound enough
unfoldable pub digits_in : ℕ → ℕ → List ℕ
digits_in zero n = (48 + n) ∷ []
digits_in (suc most) n =
    let more = digits_in most (n / 10) ++ ((48 + n % 10) ∷ []) in
    cond (ltb n 10) ((48 + n) ∷ []) more

abbrev pub digits : ℕ → List ℕ
digits n = digits_in n n

-- no leading zero, 0 itself excepted
abbrev pub no_leading_zero : List ℕ → Bool
no_leading_zero [] = false
no_leading_zero (b ∷ []) = true
no_leading_zero (b ∷ c ∷ bs) = not (eqb b 48)

unfoldable pub is_field : List ℕ → Bool
is_field f = all_of is_digit f && no_leading_zero f && ltb (number f) (2 ^ 64)

-- a record of w fields
unfoldable pub is_record : ℕ → List ℕ → Bool
is_record w r = eqb (length (fields r)) w && all_of is_field (fields r)

-- a text of at most n records, each of w fields
unfoldable pub is_text : ℕ → ℕ → List ℕ → Bool
is_text w n text = leb (length (records text)) n && all_of (is_record w) (records text)

unfoldable pub text_words : List ℕ → List ℕ
text_words text = flatten (map (λ r. map number (fields r)) (records text))

-- the operation: its answer, the number of records, and the word slice after it
pub record Reading : Type 0 where
  pub answer : Answer ℕ
  pub words : List ℕ

-- refused with this number, and the word slice then holds these words
abbrev pub refused_with : List ℕ → ℕ → Reading
refused_with words r = record { answer = refused r; words = words }

-- the reader of a text of at most n records of w fields: 14 writes nothing; 15 and the words' own refusal leave the
-- word slice all zeros
unfoldable pub read_records : ℕ → ℕ → (List ℕ → ℕ) → List ℕ → List ℕ → Reading
read_records w n refusal text words =
    (14 if ltb (length words) (w * n)) leaves refused_with words otherwise
    ((15 if not (is_text w n text)) else refusal (text_words text)) leaves refused_with (zeroed words) otherwise
    record { answer = gives (length (records text)); words = padded (length words) (text_words text) }

-- ---- the text of a task

abbrev pub most_records : ℕ
most_records = 265

unfoldable pub read_text : List ℕ → List ℕ → Reading
read_text text words = read_records row_width most_records check text words
