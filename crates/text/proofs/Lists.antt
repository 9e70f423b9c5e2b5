-- Laws of the meanings' records, fields and numbers, over lists of bytes. Assumes nothing.
use mathlib.Core.Path.{◌≡◌, refl, sym, ap, ◌∙◌}
use mathlib.Core.Bool.{Bool, true, false, cond, not, ◌&&◌}
use mathlib.Core.List.{List, [], ◌∷◌, ◌++◌, map, foldl-append, flatten, append_assoc, append-nil}
use Prim.Native.Nat.{ℕ, ◌+◌, ◌-◌, ◌*◌, ◌^◌, ◌≤◌, ◌<◌}
use native.Mathlib.Omega.{arith}
use lib.ListN.{length, length-append}
use lib.Dec.{eqb, ltb, leb}
use borrow.Author.Tests.{lt-ltb, le-ltb, le-leb, lt-leb, leb-true, eq-eqb, ne_eqb, eqb-false}
use Rattle.theory.proofs.Lists.{and_elim}
use Rattle.semantics.specs.Base.{all_of}
use Rattle.semantics.specs.Text.{comma, cr, lf, is_digit, records_from, records, fields_from, fields, number}
use Rattle.semantics.specs.Text.{no_leading_zero, is_field, is_record, is_text, text_words}

-- ---- tests

pub cond_ind : {A : Type 0} (P : A → Type 0) (b : Bool) {x y : A} → (b ≡ true → P x) → (b ≡ false → P y)
    → P (cond b x y)
cond_ind P true f g = f refl
cond_ind P false f g = g refl

pub and-false : (b : Bool) → (b && false) ≡ false
and-false true = refl
and-false false = refl

pub and_left : (a b : Bool) → (a && b) ≡ true → a ≡ true
and_left a b h = (and_elim a b h).0

pub and_right : (a b : Bool) → (a && b) ≡ true → b ≡ true
and_right a b h = (and_elim a b h).1

module _ {A : Type 0} (test : A → Bool) where
  pub all_append : (xs ys : List A) → all_of test (xs ++ ys) ≡ (all_of test xs && all_of test ys)
  unfolding all_of
  all_append [] ys = refl
  all_append (x ∷ xs) ys = go (test x) (all_append xs ys)
    where
      go : (b : Bool) → all_of test (xs ++ ys) ≡ (all_of test xs && all_of test ys)
          → (b && all_of test (xs ++ ys)) ≡ ((b && all_of test xs) && all_of test ys)
      go true h = h
      go false h = refl

  pub all_one : (x : A) → all_of test (x ∷ []) ≡ test x
  unfolding all_of
  all_one x = go (test x)
    where
      go : (b : Bool) → (b && true) ≡ b
      go true = refl
      go false = refl

  -- one that fails
  pub all-fails : (xs ys : List A) → all_of test ys ≡ false → all_of test (xs ++ ys) ≡ false
  all-fails xs ys h = all_append xs ys ∙ rw h (and-false (all_of test xs))

  pub all_cons : (x : A) (xs : List A) → all_of test (x ∷ xs) ≡ (test x && all_of test xs)
  unfolding all_of
  all_cons x xs = refl

  pub all_head : (x : A) (xs : List A) → test x ≡ false → all_of test (x ∷ xs) ≡ false
  unfolding all_of
  all_head x xs h = rw h

  pub all_both : (xs ys : List A) → all_of test xs ≡ true → all_of test ys ≡ true → all_of test (xs ++ ys) ≡ true
  all_both xs ys h g = all_append xs ys ∙ rw (h, g)

-- ---- numbers and fields

pub number-snoc : (ds : List ℕ) (b : ℕ) → number (ds ++ (b ∷ [])) ≡ 10 * number ds + (b - 48)
unfolding number
number-snoc ds b = foldl-append (λ (x : ℕ) (c : ℕ). 10 * x + (c - 48)) 0 ds (b ∷ [])

pub number_grows : (ds s : List ℕ) → number ds ≤ number (ds ++ s)
number_grows ds [] = rw append-nil (omega arith)
number_grows ds (b ∷ s) =
    let h : number (ds ++ (b ∷ [])) ≤ number ((ds ++ (b ∷ [])) ++ s) = number_grows (ds ++ (b ∷ [])) s in
    let e : number (ds ++ (b ∷ [])) ≡ 10 * number ds + (b - 48) = number-snoc ds b in
    let g : number ((ds ++ (b ∷ [])) ++ s) ≡ number (ds ++ (b ∷ s)) = ap number (append_assoc ds (b ∷ []) s) in
    omega arith

pub number-one : (b : ℕ) → number (b ∷ []) ≡ b - 48
unfolding number
number-one b = omega arith

module _ (ds : List ℕ) (h : is_field ds ≡ true) where
  pub field_digits : all_of is_digit ds ≡ true
  unfolding is_field
  field_digits =
      and_left (all_of is_digit ds) (no_leading_zero ds)
      (and_left (all_of is_digit ds && no_leading_zero ds) (ltb (number ds) (2 ^ 64)) h)

  pub field_leads : no_leading_zero ds ≡ true
  unfolding is_field
  field_leads =
      and_right (all_of is_digit ds) (no_leading_zero ds)
      (and_left (all_of is_digit ds && no_leading_zero ds) (ltb (number ds) (2 ^ 64)) h)

pub field_made : (ds : List ℕ) → all_of is_digit ds ≡ true → no_leading_zero ds ≡ true → number ds < 2 ^ 64
    → is_field ds ≡ true
unfolding is_field
field_made ds a z l = rw (a, z, lt-ltb (number ds) (2 ^ 64) l)

pub digit_low : (b : ℕ) → is_digit b ≡ true → 48 ≤ b
digit_low b h = leb-true 48 b (and_left (leb 48 b) (leb b 57) h)

pub digit-high : (b : ℕ) → is_digit b ≡ true → b ≤ 57
digit-high b h = leb-true b 57 (and_right (leb 48 b) (leb b 57) h)

-- a byte that is no digit
pub field_other : (ds : List ℕ) (b : ℕ) → is_digit b ≡ false → (s : List ℕ) → is_field ((ds ++ (b ∷ [])) ++ s) ≡ false
unfolding is_field
field_other ds b h s =
    rw (append_assoc ds (b ∷ []) s, all-fails is_digit ds (b ∷ s) (all_head is_digit b s h))

-- a number that does not fit
pub field_large : (ds : List ℕ) → 2 ^ 64 ≤ number ds → (s : List ℕ) → is_field (ds ++ s) ≡ false
unfolding is_field
field_large ds h s =
    let l : 2 ^ 64 ≤ number (ds ++ s) = omega (arith, number_grows ds s) in
    rw (le-ltb (number (ds ++ s)) (2 ^ 64) l) (and-false (all_of is_digit (ds ++ s) && no_leading_zero (ds ++ s)))

pub field_none : is_field [] ≡ false
unfolding is_field all_of
field_none = refl

-- the first of several digits is not 0
pub field_first : (b c : ℕ) (ds : List ℕ) → is_field (b ∷ c ∷ ds) ≡ true → 48 < b
field_first b c ds h =
    let d = sym (all_cons is_digit b (c ∷ ds)) ∙ field_digits (b ∷ c ∷ ds) h in
    let l : 48 ≤ b = digit_low b (and_left (is_digit b) (all_of is_digit (c ∷ ds)) d) in
    let n : b ≡ 48 → ⊥ = not-zero (eqb b 48) refl (field_leads (b ∷ c ∷ ds) h) in
    omega arith
  where
    not-zero : (t : Bool) → eqb b 48 ≡ t → not t ≡ true → b ≡ 48 → ⊥
    not-zero true q n g = let z : ◌≡◌ {A = ℕ} 0 1 = cc in omega arith
    not-zero false q n g = eqb-false b 48 q g

-- 0 alone has the value 0
pub zero_field : (ds : List ℕ) → is_field ds ≡ true → number ds ≡ 0 → ds ≡ 48 ∷ []
zero_field [] h e = absurd (let z : ◌≡◌ {A = ℕ} 0 1 = cc field_none in omega arith)
zero_field (b ∷ []) h e =
    let l : 48 ≤ b = digit_low b (sym (all_one is_digit b) ∙ field_digits (b ∷ []) h) in
    let g : b ≡ 48 = omega (arith, number-one b) in
    ap (λ (n : ℕ). n ∷ []) g
zero_field (b ∷ c ∷ ds) h e =
    let m : number (b ∷ []) ≤ number (b ∷ c ∷ ds) = number_grows (b ∷ []) (c ∷ ds) in
    absurd (omega (arith, number-one b, field_first b c ds h))

-- a digit after a leading zero
pub field_zero : (ds : List ℕ) (b : ℕ) → is_field ds ≡ true → number ds ≡ 0 → (s : List ℕ)
    → is_field ((ds ++ (b ∷ [])) ++ s) ≡ false
unfolding is_field
field_zero ds b h e s = rw (zero_field ds h e, and-false (all_of is_digit (48 ∷ b ∷ s)))

pub field_one : (b : ℕ) → is_digit b ≡ true → is_field (b ∷ []) ≡ true
field_one b h =
    field_made (b ∷ []) (all_one is_digit b ∙ h) refl (omega (arith, number-one b, digit-high b h))

-- a digit more
pub field_more : (ds : List ℕ) (b : ℕ) → is_field ds ≡ true → (number ds ≡ 0 → ⊥) → is_digit b ≡ true
    → 10 * number ds + (b - 48) < 2 ^ 64 → is_field (ds ++ (b ∷ [])) ≡ true
field_more ds b h z d l =
    field_made (ds ++ (b ∷ []))
    (all_both is_digit ds (b ∷ []) (field_digits ds h) (all_one is_digit b ∙ d))
    (leads ds h z)
    (rw (number-snoc ds b) l)
  where
    leads : (ds : List ℕ) → is_field ds ≡ true → (number ds ≡ 0 → ⊥) → no_leading_zero (ds ++ (b ∷ [])) ≡ true
    leads [] h z = absurd (let z : ◌≡◌ {A = ℕ} 0 1 = cc field_none in omega arith)
    leads (c ∷ []) h z =
        let e : eqb c 48 ≡ false = ne_eqb c 48 (λ (g : c ≡ 48). z (number-one c ∙ omega arith)) in
        rw e
    leads (c ∷ c' ∷ ds) h z = field_leads (c ∷ c' ∷ ds) h

-- ---- the fields of a record

pub fields-comma : (r q : List ℕ) → fields_from r (comma ∷ q) ≡ r ∷ fields_from [] q
unfolding fields_from
fields-comma r q = refl

pub fields-byte : (r q : List ℕ) (b : ℕ) → eqb b comma ≡ false → fields_from r (b ∷ q) ≡ fields_from (r ++ (b ∷ [])) q
unfolding fields_from
fields-byte r q b h = rw h

pub fields-last : (r : List ℕ) → fields_from r [] ≡ r ∷ []
unfolding fields_from
fields-last r = refl

pub fields-some : (r q : List ℕ) → 0 < length (fields_from r q)
unfolding fields_from
fields-some r [] = omega arith
fields-some r (b ∷ q) =
    cond_ind (λ (fs : List (List ℕ)). 0 < length fs) (eqb b comma)
    (λ e. omega arith) (λ e. fields-some (r ++ (b ∷ [])) q)

-- no way on makes the first field one
pub fields_bad : (r q : List ℕ) → ((s : List ℕ) → is_field (r ++ s) ≡ false) → all_of is_field (fields_from r q) ≡ false
unfolding fields_from
fields_bad r [] h = all_one is_field r ∙ ap is_field (sym (append-nil r)) ∙ h []
fields_bad r (b ∷ q) h =
    cond_ind (λ (fs : List (List ℕ)). all_of is_field fs ≡ false) (eqb b comma)
    (λ e. all_head is_field r (fields_from [] q) (ap is_field (sym (append-nil r)) ∙ h []))
    (λ e. fields_bad (r ++ (b ∷ [])) q (λ s. ap is_field (append_assoc r (b ∷ []) s) ∙ h (b ∷ s)))

-- the bytes p are the fields done, each with its comma, and then ds
abbrev pub Parsed : List ℕ → List (List ℕ) → List ℕ → Type 0
Parsed p done ds = (q : List ℕ) → fields_from [] (p ++ q) ≡ done ++ fields_from ds q

pub parsed-none : Parsed [] [] []
parsed-none q = refl

module _ (p : List ℕ) (done : List (List ℕ)) (ds : List ℕ) (parsed : Parsed p done ds) where
  pub parsed-byte : (b : ℕ) → eqb b comma ≡ false → Parsed (p ++ (b ∷ [])) done (ds ++ (b ∷ []))
  parsed-byte b h q =
      ap (fields_from []) (append_assoc p (b ∷ []) q) ∙ parsed (b ∷ q)
      ∙ ap (λ (fs : List (List ℕ)). done ++ fs) (fields-byte ds q b h)

  pub parsed-comma : Parsed (p ++ (comma ∷ [])) (done ++ (ds ∷ [])) []
  parsed-comma q =
      ap (fields_from []) (append_assoc p (comma ∷ []) q) ∙ parsed (comma ∷ q)
      ∙ ap (λ (fs : List (List ℕ)). done ++ fs) (fields-comma ds q)
      ∙ sym (append_assoc done (ds ∷ []) (fields_from [] q))

  pub parsed-fields : fields p ≡ done ++ (ds ∷ [])
  parsed-fields =
      ap (fields_from []) (sym (append-nil p)) ∙ parsed [] ∙ ap (λ (fs : List (List ℕ)). done ++ fs) (fields-last ds)

-- ---- records

-- no way on makes p a record of w fields
abbrev pub Dead : ℕ → List ℕ → Type 0
Dead w p = (q : List ℕ) → is_record w (p ++ q) ≡ false

module _ (w : ℕ) (p : List ℕ) where
  pub record_made : length (fields p) ≡ w → all_of is_field (fields p) ≡ true → is_record w p ≡ true
  unfolding is_record
  record_made l h = rw (h, eq-eqb (length (fields p)) w l)

  pub record_bad : all_of is_field (fields p) ≡ false → is_record w p ≡ false
  unfolding is_record
  record_bad h = rw h (and-false (eqb (length (fields p)) w))

  pub record_wrong : (length (fields p) ≡ w → ⊥) → is_record w p ≡ false
  unfolding is_record
  record_wrong h = rw (ne_eqb (length (fields p)) w h)

module _ (w : ℕ) (p : List ℕ) (done : List (List ℕ)) (ds : List ℕ) (parsed : Parsed p done ds) where
  pub dead_field : ((s : List ℕ) → is_field (ds ++ s) ≡ false) → Dead w p
  dead_field h q =
      record_bad w (p ++ q)
      (ap (all_of is_field) (parsed q) ∙ all-fails is_field done (fields_from ds q) (fields_bad ds q h))

  pub dead-many : w ≤ length done → Dead w p
  dead-many h q =
      let e : length (fields (p ++ q)) ≡ length done + length (fields_from ds q) =
      ap length (parsed q) ∙ length-append done (fields_from ds q) in
      record_wrong w (p ++ q) (λ g. omega (arith, fields-some ds q))

  pub dead-done : all_of is_field done ≡ false → Dead w p
  dead-done h q =
      record_bad w (p ++ q) (ap (all_of is_field) (parsed q) ∙ all_append is_field done (fields_from ds q) ∙ rw h)

pub snoc-some : (p : List ℕ) (b : ℕ) → p ++ (b ∷ []) ≡ [] → ⊥
snoc-some p b e = omega (arith, length-append p (b ∷ []), ap length e)

pub records-end : (p : List ℕ) → (p ≡ [] → ⊥) → records_from p [] ≡ p ∷ []
unfolding records_from
records-end [] h = absurd (h refl)
records-end (c ∷ p) h = refl

pub records-line : (p t : List ℕ) → records_from p (cr ∷ lf ∷ t) ≡ p ∷ records_from [] t
unfolding records_from
records-line [] t = refl
records-line (c ∷ p) t = refl

pub records-byte : (p t : List ℕ) (b : ℕ) → eqb b cr ≡ false → records_from p (b ∷ t) ≡ records_from (p ++ (b ∷ [])) t
unfolding records_from
records-byte [] [] b h = refl
records-byte (c ∷ p) [] b h = refl
records-byte [] (d ∷ t) b h = rw h
records-byte (c ∷ p) (d ∷ t) b h = rw h

pub records-cr : (p t : List ℕ) (b : ℕ) → eqb b lf ≡ false
    → records_from p (cr ∷ b ∷ t) ≡ records_from (p ++ (cr ∷ [])) (b ∷ t)
unfolding records_from
records-cr [] t b h = rw h
records-cr (c ∷ p) t b h = rw h

pub records-cr-end : (p : List ℕ) → records_from p (cr ∷ []) ≡ (p ++ (cr ∷ [])) ∷ []
unfolding records_from
records-cr-end [] = refl
records-cr-end (c ∷ p) = refl

module _ (w : ℕ) where
  pub records-next : (p t : List ℕ) (b : ℕ) → is_record w p ≡ false
      → all_of (is_record w) (records_from (p ++ (b ∷ [])) t) ≡ false → all_of (is_record w) (records_from p (b ∷ t)) ≡ false
  unfolding records_from
  records-next [] [] b n h = h
  records-next (c ∷ p) [] b n h = h
  records-next [] (d ∷ t) b n h =
      cond_ind (λ (rs : List (List ℕ)). all_of (is_record w) rs ≡ false) (eqb b cr && eqb d lf)
      (λ e. all_head (is_record w) [] (records_from [] t) n) (λ e. h)
  records-next (c ∷ p) (d ∷ t) b n h =
      cond_ind (λ (rs : List (List ℕ)). all_of (is_record w) rs ≡ false) (eqb b cr && eqb d lf)
      (λ e. all_head (is_record w) (c ∷ p) (records_from [] t) n) (λ e. h)

  pub dead-now : (p : List ℕ) → Dead w p → is_record w p ≡ false
  dead-now p h = ap (is_record w) (sym (append-nil p)) ∙ h []

  pub records-dead : (p t : List ℕ) → (p ≡ [] → ⊥) → Dead w p → all_of (is_record w) (records_from p t) ≡ false
  records-dead p [] n h = ap (all_of (is_record w)) (records-end p n) ∙ all_head (is_record w) p [] (dead-now p h)
  records-dead p (b ∷ t) n h =
      records-next p t b (dead-now p h)
      (records-dead (p ++ (b ∷ [])) t (snoc-some p b) (λ q. ap (is_record w) (append_assoc p (b ∷ []) q) ∙ h (b ∷ q)))

pub records-some : (p t : List ℕ) (b : ℕ) → 0 < length (records_from p (b ∷ t))
unfolding records_from
records-some [] [] b = omega arith
records-some (c ∷ p) [] b = omega arith
records-some [] (d ∷ t) b =
    cond_ind (λ (rs : List (List ℕ)). 0 < length rs) (eqb b cr && eqb d lf) (λ e. omega arith)
    (λ e. records-some (b ∷ []) t d)
records-some (c ∷ p) (d ∷ t) b =
    cond_ind (λ (rs : List (List ℕ)). 0 < length rs) (eqb b cr && eqb d lf) (λ e. omega arith)
    (λ e. records-some (c ∷ (p ++ (b ∷ []))) t d)

-- ---- texts

-- the words of some records
abbrev pub words_of : List (List ℕ) → List ℕ
words_of rs = flatten (map (λ r. map number (fields r)) rs)

pub words_snoc : (rs : List (List ℕ)) (p : List ℕ) → words_of (rs ++ (p ∷ [])) ≡ words_of rs ++ map number (fields p)
unfolding flatten
words_snoc [] p = append-nil (map number (fields p))
words_snoc (r ∷ rs) p =
    ap (λ (ws : List ℕ). map number (fields r) ++ ws) (words_snoc rs p)
    ∙ sym (append_assoc (map number (fields r)) (words_of rs) (map number (fields p)))

pub words-text : (text : List ℕ) (rs : List (List ℕ)) → records text ≡ rs → text_words text ≡ words_of rs
unfolding text_words
words-text text rs e = ap words_of e

module _ (w n : ℕ) (text : List ℕ) where
  pub text-good : length (records text) ≤ n → all_of (is_record w) (records text) ≡ true → is_text w n text ≡ true
  unfolding is_text
  text-good l h = rw (le-leb (length (records text)) n l, h)

  pub text_bad : all_of (is_record w) (records text) ≡ false → is_text w n text ≡ false
  unfolding is_text
  text_bad h = rw h (and-false (leb (length (records text)) n))

  pub text-long : n < length (records text) → is_text w n text ≡ false
  unfolding is_text
  text-long h = rw (lt-leb (length (records text)) n h)
