-- Where the reader stands in a text of at most `limit` records of w fields: what was read, as the meaning's records and
-- fields, and what each byte makes of it. Assumes nothing.
use mathlib.Core.Path.{◌≡◌, refl, sym, ap, ap₂, subst, ◌∙◌}
use mathlib.Core.Bool.{true, false}
use mathlib.Core.List.{List, [], ◌∷◌, ◌++◌, map, map-append, flatten, append_assoc, append-nil}
use Rattle.std.specs.Prelude.{Option, Some, None}
use Prim.Native.Nat.{ℕ, ◌+◌, ◌-◌, ◌*◌, ◌/◌, ◌^◌, ◌≤◌, ◌<◌}
use native.Mathlib.Nat.{mul-le-mul_left, mul-suc}
use native.Mathlib.Numerals.{add-one}
use native.Mathlib.Omega.{arith}
use lib.ListN.{length, length-append}
use lib.Dec.{eqb, ltb, leb}
use borrow.Author.Tests.{ltb-true, ltb-false, leb-true, leb-false, ne_eqb, eqb-true, eqb-false}
use Rattle.semantics.specs.Base.{all_of}
use Rattle.semantics.specs.Text.{comma, cr, lf, is_digit, records_from, records, fields, number, is_field, is_record}
use Rattle.semantics.specs.Text.{is_text, text_words}
use Rattle.text.proofs.Lists.{cond_ind, all_one, all-fails, all_head, all_both, number-snoc, number-one}
use Rattle.text.proofs.Lists.{digit_low, digit-high, field_other, field_large, field_none, field_zero, field_one}
use Rattle.text.proofs.Lists.{field_more, Parsed, parsed-none, parsed-byte, parsed-comma, parsed-fields, Dead}
use Rattle.text.proofs.Lists.{record_made, record_bad, record_wrong, dead_field, dead-many, dead-done, dead-now}
use Rattle.text.proofs.Lists.{snoc-some, records-end, records-line, records-byte, records-cr, records-cr-end}
use Rattle.text.proofs.Lists.{records-next, records-dead, records-some, words_of, words_snoc, words-text}
use Rattle.text.proofs.Lists.{text-good, text_bad, text-long}
use Rattle.text.specs.Inner.Byte.{ByteMeans}
use Rattle.text.specs.Inner.Place.{InReach, first, later, ended, step_in, last_in}
use Rattle.text.specs.declared.Byte.{Byte}
use Rattle.text.specs.declared.Byte.TheVariants.{Digit, Comma, Cr, Lf, Other}
use Rattle.text.specs.declared.Field.{Field}
use Rattle.text.specs.declared.Field.TheVariants.{Empty, Number, Ended}
use Rattle.text.specs.declared.Place.{Place}
use Rattle.text.specs.declared.Turn.{Turn}
use Rattle.text.specs.declared.Turn.TheVariants.{On, Word}
use Rattle.text.specs.declared.Last.{Last}
use Rattle.text.specs.declared.Last.TheVariants.{Records, Word as LastWord}

-- what was read and belongs to the next bytes: the CR
abbrev held : Field → List ℕ → List ℕ
held Empty t = t
held (Number v) t = t
held Ended t = cr ∷ t

-- the bytes p of the present record, after k records and f of its fields

-- the fields done, each with its comma, and no byte of the next
record Begun (w limit k f : ℕ) (p : List ℕ) (done : List (List ℕ)) : Type 0 where
  parsed : Parsed p done []
  fewer : f < w
  none : f ≡ 0 → p ≡ []
  some : (f ≡ 0 → ⊥) → (p ≡ [] → ⊥) × (k < limit)

-- the fields done, each with its comma, and digits ds that write v
record Written (w limit k f : ℕ) (p : List ℕ) (done : List (List ℕ)) (ds : List ℕ) (v : ℕ) : Type 0 where
  parsed : Parsed p done ds
  right : is_field ds ≡ true
  value : number ds ≡ v
  fewer : f < w
  some : p ≡ [] → ⊥
  counted : k < limit

-- the fields done, which are all of the record's; CR stands after it
record Over (w limit k f : ℕ) (p : List ℕ) (done : List (List ℕ)) : Type 0 where
  parsed : fields p ≡ done
  whole : f ≡ w
  dead : Dead w (p ++ (cr ∷ []))
  counted : k < limit

abbrev Within : ℕ → ℕ → ℕ → ℕ → List ℕ → List (List ℕ) → List ℕ → Field → Type 0
Within w limit k f p done ds Empty = Begun w limit k f p done
Within w limit k f p done ds (Number v) = Written w limit k f p done ds v
Within w limit k f p done ds Ended = Over w limit k f p done

-- k records and f fields are read, their words are ws, and t is left of the text
pub record Stands (w limit : ℕ) (text ws : List ℕ) (k f : ℕ) (field : Field) (t : List ℕ) : Type 0 where
  earlier : List (List ℕ)
  p : List ℕ
  done : List (List ℕ)
  ds : List ℕ
  split : records text ≡ earlier ++ records_from p (held field t)
  sound : all_of (is_record w) earlier ≡ true
  count : length earlier ≡ k
  most : k ≤ limit
  several : length done ≡ f
  right : all_of is_field done ≡ true
  words : ws ≡ words_of earlier ++ map number done
  size : length ws ≡ w * k + f
  wide : 0 < w
  within : Within w limit k f p done ds field

pub stands-first : (w limit : ℕ) (text : List ℕ) → 0 < w → Stands w limit text [] 0 0 Empty text
unfolding all_of flatten
stands-first w limit text some = record {
  earlier = [];
  p = [];
  done = [];
  ds = [];
  split = refl;
  sound = refl;
  count = refl;
  most = omega arith;
  several = refl;
  right = refl;
  words = refl;
  size = omega arith;
  wide = some;
  within = record { parsed = parsed-none; fewer = some; none = λ e. refl; some = λ n. absurd (n refl) };
}

-- what a byte leads to
abbrev pub After : ℕ → ℕ → List ℕ → List ℕ → List ℕ → Option Turn → Type 0
After w limit text ws t (Some (On q)) = Stands w limit text ws q.records q.fields q.field t
After w limit text ws t (Some (Word v q)) =
    (length ws < w * limit) × Stands w limit text (ws ++ (v ∷ [])) q.records q.fields q.field t
After w limit text ws t None = is_text w limit text ≡ false

-- the reader stands at a place that occurs
pub reach : {w limit : ℕ} {text ws : List ℕ} (q : Place) {t : List ℕ}
    → Stands w limit text ws q.records q.fields q.field t → InReach w limit q
reach {w} {limit} q s = record {
  field_within = λ v e. (written v e).fewer;
  record_within = λ v e. (written v e).counted;
  ended-within = λ e. (over e).counted;
}
  where
    written : (v : ℕ) → q.field ≡ Number v → Written w limit q.records q.fields s.p s.done s.ds v
    written v e = subst (Within w limit q.records q.fields s.p s.done s.ds) e s.within

    over : q.field ≡ Ended → Over w limit q.records q.fields s.p s.done
    over e = subst (Within w limit q.records q.fields s.p s.done s.ds) e s.within

-- ---- the places of words

-- the record after k
row_next : (w k : ℕ) → w * (k + 1) ≡ w * k + w
row_next w k = ap (λ (x : ℕ). w * x) (add-one k) ∙ mul-suc w k

-- the words of k records are before those of the limit
row_room : (w k limit : ℕ) → k < limit → w * k + w ≤ w * limit
row_room w k limit h =
    let l : w * (k + 1) ≤ w * limit = mul-le-mul_left w (omega arith) in
    omega (arith, row_next w k)

-- ---- what is no text

module _ (w limit : ℕ) (text : List ℕ) (earlier : List (List ℕ)) (p t : List ℕ) (b : ℕ)
    (split : records text ≡ earlier ++ records_from p (b ∷ t)) where
  no_text : all_of (is_record w) (records_from p (b ∷ t)) ≡ false → is_text w limit text ≡ false
  no_text h =
      text_bad w limit text (ap (all_of (is_record w)) split ∙ all-fails (is_record w) earlier (records_from p (b ∷ t)) h)

  -- what was read is no record, nor is it with the byte
  bad_both : is_record w p ≡ false → Dead w (p ++ (b ∷ [])) → is_text w limit text ≡ false
  bad_both n h = no_text (records-next w p t b n (records-dead w (p ++ (b ∷ [])) t (snoc-some p b) h))

  -- with a byte that ends no record it is none
  bad_byte : eqb b cr ≡ false → Dead w (p ++ (b ∷ [])) → is_text w limit text ≡ false
  bad_byte n h =
      no_text (ap (all_of (is_record w)) (records-byte p t b n) ∙ records-dead w (p ++ (b ∷ [])) t (snoc-some p b) h)

  -- a record too many
  bad_more : limit ≤ length earlier → is_text w limit text ≡ false
  bad_more h =
      text-long w limit text
      (omega (arith, ap length split, length-append earlier (records_from p (b ∷ t)), records-some p t b))

module _ (w : ℕ) where
  -- an empty field
  empty_record : (p : List ℕ) (done : List (List ℕ)) → Parsed p done [] → is_record w p ≡ false
  empty_record p done h =
      record_bad w p
      (ap (all_of is_field) (parsed-fields p done [] h)
      ∙ all-fails is_field done ([] ∷ []) (all_head is_field [] [] field_none))

  -- a byte that is no digit
  dead-other : (p : List ℕ) (done : List (List ℕ)) (ds : List ℕ) → Parsed p done ds → (b : ℕ) → eqb b comma ≡ false
      → is_digit b ≡ false → Dead w (p ++ (b ∷ []))
  dead-other p done ds h b c d =
      dead_field w (p ++ (b ∷ [])) done (ds ++ (b ∷ [])) (parsed-byte p done ds h b c) (field_other ds b d)

  dead-comma : (p : List ℕ) (done : List (List ℕ)) → Parsed p done [] → Dead w (p ++ (comma ∷ []))
  dead-comma p done h =
      dead-done w (p ++ (comma ∷ [])) (done ++ ([] ∷ [])) [] (parsed-comma p done [] h)
      (all-fails is_field done ([] ∷ []) (all_head is_field [] [] field_none))

-- ---- a field's first byte

digit-no-comma : (b : ℕ) → is_digit b ≡ true → eqb b comma ≡ false
digit-no-comma b h = ne_eqb b comma (λ e. omega (arith, digit_low b h))

digit-no-cr : (b : ℕ) → is_digit b ≡ true → eqb b cr ≡ false
digit-no-cr b h = ne_eqb b cr (λ e. omega (arith, digit_low b h))

module _ {w limit : ℕ} {text ws : List ℕ} {k f : ℕ} {t : List ℕ} (b : ℕ) where
  module _ (s : Stands w limit text ws k f Empty (b ∷ t)) where
    first-digit : (d : ℕ) → is_digit b ≡ true → d ≡ b - 48 → k < limit → Stands w limit text ws k f (Number d) t
    first-digit d h e l = record {
      earlier = s.earlier;
      p = s.p ++ (b ∷ []);
      done = s.done;
      ds = b ∷ [];
      split =
          s.split ∙ ap (λ (rs : List (List ℕ)). s.earlier ++ rs) (records-byte s.p t b (digit-no-cr b h));
      sound = s.sound;
      count = s.count;
      most = s.most;
      several = s.several;
      right = s.right;
      words = s.words;
      size = s.size;
      wide = s.wide;
      within = record {
        parsed = parsed-byte s.p s.done [] s.within.parsed b (digit-no-comma b h);
        right = field_one b h;
        value = number-one b ∙ sym e;
        fewer = s.within.fewer;
        some = snoc-some s.p b;
        counted = l;
      };
    }

    first-dead : Dead w (s.p ++ (b ∷ [])) → is_text w limit text ≡ false
    first-dead h =
        bad_both w limit text s.earlier s.p t b s.split (empty_record w s.p s.done s.within.parsed) h

    first_more : limit ≤ k → is_text w limit text ≡ false
    first_more h = bad_more w limit text s.earlier s.p t b s.split (omega (arith, s.count))

    first-other : eqb b comma ≡ false → is_digit b ≡ false → is_text w limit text ≡ false
    first-other c d = first-dead (dead-other w s.p s.done [] s.within.parsed b c d)

    first-comma : b ≡ comma → is_text w limit text ≡ false
    first-comma e =
        first-dead
        (subst (λ (n : ℕ). Dead w (s.p ++ (n ∷ []))) (sym e) (dead-comma w s.p s.done s.within.parsed))

  at_first : Stands w limit text ws k f Empty (b ∷ t) → (byte : Byte) → ByteMeans b byte
      → After w limit text ws t (first limit k f byte)
  at_first s (Digit d) m =
      cond_ind (After w limit text ws t) (ltb k limit)
      (λ e. first-digit s d m.0 m.1 (ltb-true k limit e))
      (λ e. first_more s (ltb-false k limit e))
  at_first s Comma m = first-comma s m
  at_first s Cr m = first-other s (rw m) (rw m)
  at_first s Lf m = first-other s (rw m) (rw m)
  at_first s Other m = first-other s (ne_eqb b comma m.1) m.0

-- ---- a byte after digits

-- the digits' word
words_more : {w limit : ℕ} {text ws : List ℕ} {k f v : ℕ} {t : List ℕ} (s : Stands w limit text ws k f (Number v) t)
    → ws ++ (v ∷ []) ≡ words_of s.earlier ++ map number (s.done ++ (s.ds ∷ []))
words_more {ws = ws} {v = v} s =
    ap₂ (λ (xs : List ℕ) (n : ℕ). xs ++ (n ∷ [])) s.words (sym s.within.value)
    ∙ append_assoc (words_of s.earlier) (map number s.done) (number s.ds ∷ [])
    ∙ ap (λ (xs : List ℕ). words_of s.earlier ++ xs) (sym (map-append number s.done (s.ds ∷ [])))

module _ {w limit : ℕ} {text ws : List ℕ} {k f v : ℕ} {t : List ℕ} (s : Stands w limit text ws k f (Number v) t) where
  -- the digits are a field of the record
  several-more : length (s.done ++ (s.ds ∷ [])) ≡ f + 1
  several-more = length-append s.done (s.ds ∷ []) ∙ omega (arith, s.several)

  right-more : all_of is_field (s.done ++ (s.ds ∷ [])) ≡ true
  right-more = all_both is_field s.done (s.ds ∷ []) s.right (all_one is_field s.ds ∙ s.within.right)

  size-more : length (ws ++ (v ∷ [])) ≡ w * k + (f + 1)
  size-more = length-append ws (v ∷ []) ∙ omega (arith, s.size)

  room : length ws < w * limit
  room = omega (arith, s.size, s.within.fewer, row_room w k limit s.within.counted)

module _ {w limit : ℕ} {text ws : List ℕ} {k f v : ℕ} {t : List ℕ} (b : ℕ) where
  module _ (s : Stands w limit text ws k f (Number v) (b ∷ t)) where
    later-digit : (d : ℕ) → is_digit b ≡ true → d ≡ b - 48 → (v ≡ 0 → ⊥) → v ≤ (2 ^ 64 - 1 - d) / 10
        → Stands w limit text ws k f (Number (10 * v + d)) t
    later-digit d h e z l =
        let n : number s.ds ≡ v = s.within.value in
        record {
          earlier = s.earlier;
          p = s.p ++ (b ∷ []);
          done = s.done;
          ds = s.ds ++ (b ∷ []);
          split =
              s.split ∙ ap (λ (rs : List (List ℕ)). s.earlier ++ rs) (records-byte s.p t b (digit-no-cr b h));
          sound = s.sound;
          count = s.count;
          most = s.most;
          several = s.several;
          right = s.right;
          words = s.words;
          size = s.size;
          wide = s.wide;
          within = record {
            parsed = parsed-byte s.p s.done s.ds s.within.parsed b (digit-no-comma b h);
            right = field_more s.ds b s.within.right (λ q. z (sym n ∙ q)) h (omega arith);
            value = number-snoc s.ds b ∙ omega arith;
            fewer = s.within.fewer;
            some = snoc-some s.p b;
            counted = s.within.counted;
          };
        }

    later_bad : is_digit b ≡ true → ((q : List ℕ) → is_field ((s.ds ++ (b ∷ [])) ++ q) ≡ false)
        → is_text w limit text ≡ false
    later_bad h g =
        bad_byte w limit text s.earlier s.p t b s.split (digit-no-cr b h)
        (dead_field w (s.p ++ (b ∷ [])) s.done (s.ds ++ (b ∷ []))
        (parsed-byte s.p s.done s.ds s.within.parsed b (digit-no-comma b h)) g)

    later-zero : is_digit b ≡ true → v ≡ 0 → is_text w limit text ≡ false
    later-zero h z = later_bad h (field_zero s.ds b s.within.right (s.within.value ∙ z))

    later_large : (d : ℕ) → is_digit b ≡ true → d ≡ b - 48 → (2 ^ 64 - 1 - d) / 10 < v → is_text w limit text ≡ false
    later_large d h e l =
        let n : number s.ds ≡ v = s.within.value in
        later_bad h (field_large (s.ds ++ (b ∷ [])) (omega (arith, number-snoc s.ds b, digit-high b h)))

    later-comma : b ≡ comma → f + 1 < w → Stands w limit text (ws ++ (v ∷ [])) k (f + 1) Empty t
    later-comma e l = record {
      earlier = s.earlier;
      p = s.p ++ (comma ∷ []);
      done = s.done ++ (s.ds ∷ []);
      ds = [];
      split =
          s.split ∙ ap (λ (n : ℕ). s.earlier ++ records_from s.p (n ∷ t)) e
          ∙ ap (λ (rs : List (List ℕ)). s.earlier ++ rs) (records-byte s.p t comma refl);
      sound = s.sound;
      count = s.count;
      most = s.most;
      several = several-more s;
      right = right-more s;
      words = words_more s;
      size = size-more s;
      wide = s.wide;
      within = record {
        parsed = parsed-comma s.p s.done s.ds s.within.parsed;
        fewer = l;
        none = λ z. absurd (omega arith);
        some = λ z. (snoc-some s.p comma, s.within.counted);
      };
    }

    later_sixth : b ≡ comma → w ≤ f + 1 → is_text w limit text ≡ false
    later_sixth e l =
        bad_byte w limit text s.earlier s.p t b s.split (rw e)
        (subst (λ (n : ℕ). Dead w (s.p ++ (n ∷ []))) (sym e)
        (dead-many w (s.p ++ (comma ∷ [])) (s.done ++ (s.ds ∷ [])) []
        (parsed-comma s.p s.done s.ds s.within.parsed) (omega (arith, several-more s))))

    later-cr : b ≡ cr → f + 1 ≡ w → Stands w limit text (ws ++ (v ∷ [])) k (f + 1) Ended t
    later-cr e l = record {
      earlier = s.earlier;
      p = s.p;
      done = s.done ++ (s.ds ∷ []);
      ds = [];
      split = s.split ∙ ap (λ (n : ℕ). s.earlier ++ records_from s.p (n ∷ t)) e;
      sound = s.sound;
      count = s.count;
      most = s.most;
      several = several-more s;
      right = right-more s;
      words = words_more s;
      size = size-more s;
      wide = s.wide;
      within = record {
        parsed = parsed-fields s.p s.done s.ds s.within.parsed;
        whole = l;
        dead = dead-other w s.p s.done s.ds s.within.parsed cr refl refl;
        counted = s.within.counted;
      };
    }

    later-few : b ≡ cr → (f + 1 ≡ w → ⊥) → is_text w limit text ≡ false
    later-few e l =
        let g : length (fields s.p) ≡ f + 1 =
        ap length (parsed-fields s.p s.done s.ds s.within.parsed) ∙ several-more s in
        bad_both w limit text s.earlier s.p t b s.split
        (record_wrong w s.p (λ h. l (sym g ∙ h)))
        (dead-other w s.p s.done s.ds s.within.parsed b (rw e) (rw e))

    later-other : eqb b cr ≡ false → eqb b comma ≡ false → is_digit b ≡ false → is_text w limit text ≡ false
    later-other r c d =
        bad_byte w limit text s.earlier s.p t b s.split r
        (dead-other w s.p s.done s.ds s.within.parsed b c d)

  at-later : Stands w limit text ws k f (Number v) (b ∷ t) → (byte : Byte) → ByteMeans b byte
      → After w limit text ws t (later w k f v byte)
  at-later s (Digit d) m =
      cond_ind (After w limit text ws t) (eqb v 0)
      (λ z. later-zero s m.0 (eqb-true v 0 z))
      (λ z. cond_ind (After w limit text ws t) (leb v ((2 ^ 64 - 1 - d) / 10))
      (λ l. later-digit s d m.0 m.1 (eqb-false v 0 z) (leb-true v ((2 ^ 64 - 1 - d) / 10) l))
      (λ l. later_large s d m.0 m.1 (leb-false v ((2 ^ 64 - 1 - d) / 10) l)))
  at-later s Comma m =
      cond_ind (After w limit text ws t) (ltb (f + 1) w)
      (λ e. (room s, later-comma s m (ltb-true (f + 1) w e)))
      (λ e. later_sixth s m (ltb-false (f + 1) w e))
  at-later s Cr m =
      cond_ind (After w limit text ws t) (eqb (f + 1) w)
      (λ e. (room s, later-cr s m (eqb-true (f + 1) w e)))
      (λ e. later-few s m (eqb-false (f + 1) w e))
  at-later s Lf m = later-other s (rw m) (rw m) (rw m)
  at-later s Other m = later-other s (ne_eqb b cr m.2) (ne_eqb b comma m.1) m.0

-- ---- the byte after CR

module _ {w limit : ℕ} {text ws : List ℕ} {k f : ℕ} {t : List ℕ} (b : ℕ) where
  module _ (s : Stands w limit text ws k f Ended (b ∷ t)) where
    ended_record : is_record w s.p ≡ true
    ended_record =
        record_made w s.p (ap length s.within.parsed ∙ s.several ∙ s.within.whole)
        (ap (all_of is_field) s.within.parsed ∙ s.right)

    ended-line : b ≡ lf → Stands w limit text ws (k + 1) 0 Empty t
    unfolding all_of
    ended-line e = record {
      earlier = s.earlier ++ (s.p ∷ []);
      p = [];
      done = [];
      ds = [];
      split =
          s.split ∙ ap (λ (n : ℕ). s.earlier ++ records_from s.p (cr ∷ n ∷ t)) e
          ∙ ap (λ (rs : List (List ℕ)). s.earlier ++ rs) (records-line s.p t)
          ∙ sym (append_assoc s.earlier (s.p ∷ []) (records_from [] t));
      sound =
          all_both (is_record w) s.earlier (s.p ∷ []) s.sound (all_one (is_record w) s.p ∙ ended_record);
      count = length-append s.earlier (s.p ∷ []) ∙ omega (arith, s.count);
      most = omega (arith, s.within.counted);
      several = refl;
      right = refl;
      words =
          s.words ∙ ap (λ (fs : List (List ℕ)). words_of s.earlier ++ map number fs) (sym s.within.parsed)
          ∙ sym (words_snoc s.earlier s.p) ∙ sym (append-nil (words_of (s.earlier ++ (s.p ∷ []))));
      size = s.size ∙ omega (arith, s.within.whole, row_next w k);
      wide = s.wide;
      within = record { parsed = parsed-none; fewer = s.wide; none = λ z. refl; some = λ z. absurd (z refl) };
    }

    ended_bad : eqb b lf ≡ false → is_text w limit text ≡ false
    ended_bad n =
        no_text w limit text s.earlier s.p (b ∷ t) cr s.split
        (ap (all_of (is_record w)) (records-cr s.p t b n)
        ∙ records-dead w (s.p ++ (cr ∷ [])) (b ∷ t) (snoc-some s.p cr) s.within.dead)

  at_ended : Stands w limit text ws k f Ended (b ∷ t) → (byte : Byte) → ByteMeans b byte
      → After w limit text ws t (ended k byte)
  at_ended s (Digit d) m = ended_bad s (ne_eqb b lf (λ e. omega (arith, digit_low b m.0)))
  at_ended s Comma m = ended_bad s (rw m)
  at_ended s Cr m = ended_bad s (rw m)
  at_ended s Lf m = ended-line s m
  at_ended s Other m = ended_bad s (ne_eqb b lf m.3)

-- a byte, wherever the reader stands
pub stands-next : {w limit : ℕ} {text ws : List ℕ} {k f : ℕ} {field : Field} {t : List ℕ} (b : ℕ)
    → Stands w limit text ws k f field (b ∷ t) → (byte : Byte) → ByteMeans b byte
    → After w limit text ws t (step_in w limit k f field byte)
stands-next {field = Empty} b s byte m = at_first b s byte m
stands-next {field = Number v} b s byte m = at-later b s byte m
stands-next {field = Ended} b s byte m = at_ended b s byte m

-- ---- the end of the text

pub record Whole (w limit : ℕ) (text ws : List ℕ) (r : ℕ) : Type 0 where
  pub good : is_text w limit text ≡ true
  pub count : r ≡ length (records text)
  pub words : text_words text ≡ ws
  pub size : length ws ≡ w * r

abbrev pub AtEnd : ℕ → ℕ → List ℕ → List ℕ → Option Last → Type 0
AtEnd w limit text ws (Some (Records r)) = Whole w limit text ws r
AtEnd w limit text ws (Some (LastWord v r)) = (length ws < w * limit) × Whole w limit text (ws ++ (v ∷ [])) r
AtEnd w limit text ws None = is_text w limit text ≡ false

module _ {w limit : ℕ} {text ws : List ℕ} {k f : ℕ} where
  empty-all : Stands w limit text ws k f Empty [] → f ≡ 0 → Whole w limit text ws k
  unfolding records_from
  empty-all s z =
      let e : records text ≡ s.earlier =
      s.split ∙ ap (λ (q : List ℕ). s.earlier ++ records_from q []) (s.within.none z) ∙ append-nil s.earlier in
      let n : s.done ≡ [] = none s.done (s.several ∙ z) in
      record {
        good =
            text-good w limit text (omega (arith, ap length e, s.count, s.most))
            (ap (all_of (is_record w)) e ∙ s.sound);
        count = omega (arith, ap length e, s.count);
        words =
            words-text text s.earlier e ∙ sym (append-nil (words_of s.earlier))
            ∙ ap (λ (fs : List (List ℕ)). words_of s.earlier ++ map number fs) (sym n) ∙ sym s.words;
        size = omega (arith, s.size);
      }
    where
      none : (fs : List (List ℕ)) → length fs ≡ 0 → fs ≡ []
      none [] h = refl
      none (x ∷ fs) h = absurd (omega arith)

  empty_bad : Stands w limit text ws k f Empty [] → (f ≡ 0 → ⊥) → is_text w limit text ≡ false
  empty_bad s z =
      text_bad w limit text
      (ap (all_of (is_record w)) s.split ∙ all-fails (is_record w) s.earlier (records_from s.p [])
      (ap (all_of (is_record w)) (records-end s.p (s.within.some z).0)
      ∙ all_head (is_record w) s.p [] (empty_record w s.p s.done s.within.parsed)))

  module _ {v : ℕ} (s : Stands w limit text ws k f (Number v) []) where
    last-split : records text ≡ s.earlier ++ (s.p ∷ [])
    last-split = s.split ∙ ap (λ (rs : List (List ℕ)). s.earlier ++ rs) (records-end s.p s.within.some)

    last-fields : fields s.p ≡ s.done ++ (s.ds ∷ [])
    last-fields = parsed-fields s.p s.done s.ds s.within.parsed

    last-count : length (fields s.p) ≡ f + 1
    last-count = ap length last-fields ∙ several-more s

    last-whole : f + 1 ≡ w → Whole w limit text (ws ++ (v ∷ [])) (k + 1)
    last-whole e =
        let l : length (records text) ≡ k + 1 =
        ap length last-split ∙ length-append s.earlier (s.p ∷ []) ∙ omega (arith, s.count) in
        let g : is_record w s.p ≡ true =
        record_made w s.p (last-count ∙ e) (ap (all_of is_field) last-fields ∙ right-more s) in
        record {
          good =
              text-good w limit text (omega (arith, l, s.within.counted))
              (ap (all_of (is_record w)) last-split
              ∙ all_both (is_record w) s.earlier (s.p ∷ []) s.sound (all_one (is_record w) s.p ∙ g));
          count = sym l;
          words =
              words-text text (s.earlier ++ (s.p ∷ [])) last-split ∙ words_snoc s.earlier s.p
              ∙ ap (λ (fs : List (List ℕ)). words_of s.earlier ++ map number fs) last-fields ∙ sym (words_more s);
          size = size-more s ∙ omega (arith, row_next w k);
        }

    last_bad : (f + 1 ≡ w → ⊥) → is_text w limit text ≡ false
    last_bad z =
        text_bad w limit text
        (ap (all_of (is_record w)) last-split ∙ all-fails (is_record w) s.earlier (s.p ∷ [])
        (all_head (is_record w) s.p [] (record_wrong w s.p (λ g. z (sym last-count ∙ g)))))

  ended-end : Stands w limit text ws k f Ended [] → is_text w limit text ≡ false
  ended-end s =
      text_bad w limit text
      (ap (all_of (is_record w)) s.split ∙ all-fails (is_record w) s.earlier (records_from s.p (cr ∷ []))
      (ap (all_of (is_record w)) (records-cr-end s.p)
      ∙ all_head (is_record w) (s.p ++ (cr ∷ [])) [] (dead-now w (s.p ++ (cr ∷ [])) s.within.dead)))

pub stands-last : {w limit : ℕ} {text ws : List ℕ} {k f : ℕ} {field : Field} → Stands w limit text ws k f field []
    → AtEnd w limit text ws (last_in w k f field)
stands-last {w} {limit} {text} {ws} {k} {f} {field = Empty} s =
    cond_ind (AtEnd w limit text ws) (eqb f 0) (λ e. empty-all s (eqb-true f 0 e)) (λ e. empty_bad s (eqb-false f 0 e))
stands-last {w} {limit} {text} {ws} {k} {f} {field = Number v} s =
    cond_ind (AtEnd w limit text ws) (eqb (f + 1) w)
    (λ e. (room s, last-whole s (eqb-true (f + 1) w e)))
    (λ e. last_bad s (eqb-false (f + 1) w e))
stands-last {field = Ended} s = ended-end s
