-- The scan's invariant, and the lent slice. Assumes nothing.
use mathlib.Core.Path.{◌≡◌, refl, sym, ap, ap₂, subst, ◌∙◌}
use mathlib.Core.List.{List, [], ◌∷◌, ◌++◌}
use mathlib.Core.Bool.{true, false}
use Rattle.std.specs.Prelude.{Option, Some, None, Result, Ok, Err}
use Prim.Native.Nat.{ℕ, zero, suc, ◌+◌, ◌-◌, ◌*◌, ◌^◌, ◌≤◌, ◌<◌}
use native.Mathlib.Nat.{sub-zero}
use native.Mathlib.Numerals.{add-one}
use native.Mathlib.Omega.{arith}
use lib.ListN.{length, get_or, take, drop, set, replicate, length-set, drop_of_length-le}
use lib.Seq.{drop-cons, take-suc-set, length-take-le}
use borrow.Author.Tests.{lt-ltb, le-ltb}
use mir.Syntax.{w64}
use mir.Val.{Fits}
use Rattle.semantics.specs.Base.{padded, zeroed}
use Rattle.semantics.specs.Task.{row_width, check}
use Rattle.semantics.specs.Text.{most_records, records, is_text, text_words, refused_with, read_records, read_text}
use Rattle.text.proofs.Stands.{Stands, After, AtEnd, Whole, stands-first, stands-next, stands-last, reach}
use Rattle.text.specs.Inner.Byte.{ByteMeans}
use Rattle.text.specs.Inner.Place.{at, InReach, step_of, last_of}
use Rattle.text.specs.Post.{most_words, Found, ScanMeans, reading}
use Rattle.text.specs.declared.Byte.{Byte}
use Rattle.text.specs.declared.Field.TheVariants.{Empty}
use Rattle.text.specs.declared.Place.{Place}
use Rattle.text.specs.declared.Turn.{Turn}
use Rattle.text.specs.declared.Turn.TheVariants.{On, Word}
use Rattle.text.specs.declared.Last.{Last}
use Rattle.text.specs.declared.Last.TheVariants.{Records, Word as LastWord}
use Rattle.refusal.specs.declared.Refusal.{Refusal}
use Rattle.refusal.specs.declared.Refusal.TheVariants as reason
use Rattle.refusal.specs.Number.{number}
use Rattle.refusal.proofs.Laws.{number-positive}

-- the first i bytes are read, and their words are the first count of the slice
pub record Scanning (w n : ℕ) (text words₀ words : List ℕ) (place : Place) (count i : ℕ) : Type 0 where
  pub within : i ≤ length text
  pub room : count ≤ length words
  pub enough : w * n ≤ length words
  pub kept : length words ≡ length words₀
  pub stands : Stands w n text (take count words) place.records place.fields place.field (drop i text)

pub begin : (w n : ℕ) (text words : List ℕ) (place : Place) → 0 < w → w * n ≤ length words → place ≡ at 0 0 Empty
    → Scanning w n text words words place 0 0
begin w n text words place some enough e = record {
  within = omega arith;
  room = omega arith;
  enough = enough;
  kept = refl;
  stands =
      subst (λ (q : Place). Stands w n text [] q.records q.fields q.field text) (sym e)
      (stands-first w n text some);
}

module _ {w n : ℕ} {text words₀ words : List ℕ} {place : Place} {count i : ℕ}
    (s : Scanning w n text words₀ words place count i) where
  pub scan-reach : InReach w n place
  scan-reach = reach place s.stands

  pub end-reach : Fits w64 n → InReach w (2 ^ 64 - 1) place
  end-reach f = record {
    field_within = scan-reach.field_within;
    record_within = λ v e. omega (arith, f.fits, scan-reach.record_within v e);
    ended-within = λ e. omega (arith, f.fits, scan-reach.ended-within e);
  }

  -- the next byte, and what it leads to
  module _ (byte : Byte) (r : Option Turn) (more : i < length text) (sorted : ByteMeans (get_or text i 0) byte)
      (led : r ≡ step_of w n place byte) where
    turned : After w n text (take count words) (drop (i + 1) text) r
    turned =
        subst (After w n text (take count words) (drop (i + 1) text)) (sym led)
        (rw add-one
        (stands-next (get_or text i 0)
        (subst (Stands w n text (take count words) place.records place.fields place.field)
        (drop-cons text i 0 more) s.stands)
        byte sorted))

    pub onward : (q : Place) → r ≡ Some (On q) → Scanning w n text words₀ words q count (i + 1)
    onward q e = record {
      within = omega arith;
      room = s.room;
      enough = s.enough;
      kept = s.kept;
      stands = subst (After w n text (take count words) (drop (i + 1) text)) e turned;
    }

    module _ (v : ℕ) (q : Place) (e : r ≡ Some (Word v q)) where
      read-on : (length (take count words) < w * n)
          × Stands w n text (take count words ++ (v ∷ [])) q.records q.fields q.field (drop (i + 1) text)
      read-on = subst (After w n text (take count words) (drop (i + 1) text)) e turned

      pub word_room : count < length words
      word_room = omega (arith, read-on.0, length-take-le count words s.room, s.enough)

      pub word_on : Scanning w n text words₀ (set words count v) q (count + 1) (i + 1)
      word_on = record {
        within = omega arith;
        room = omega (arith, length-set words count v, word_room);
        enough = omega (arith, length-set words count v, s.enough);
        kept = length-set words count v ∙ s.kept;
        stands =
            subst (λ (ws : List ℕ). Stands w n text ws q.records q.fields q.field (drop (i + 1) text))
            (sym (ap (λ (m : ℕ). take m (set words count v)) (add-one count) ∙ take-suc-set words count v word_room))
            read-on.1;
      }

    pub out : r ≡ None → is_text w n text ≡ false
    out e = subst (After w n text (take count words) (drop (i + 1) text)) e turned

  -- the end of the text, and what it leads to
  module _ (r : Option Last) (over : length text ≤ i) (led : r ≡ last_of w place) where
    finished : AtEnd w n text (take count words) r
    finished =
        subst (AtEnd w n text (take count words)) (sym led)
        (stands-last
        (subst (Stands w n text (take count words) place.records place.fields place.field)
        (drop_of_length-le text {i = i} over) s.stands))

    pub all_found : (k : ℕ) → r ≡ Some (Records k) → Found w n text words k
    all_found k e =
        let whole : Whole w n text (take count words) k = subst (AtEnd w n text (take count words)) e finished in
        let z : count ≡ w * k = sym (length-take-le count words s.room) ∙ whole.size in
        record {
          good = whole.good;
          count = whole.count;
          room = omega (arith, s.room);
          words = whole.words ∙ ap (λ (m : ℕ). take m words) z;
        }

    module _ (v k : ℕ) (e : r ≡ Some (LastWord v k)) where
      read-last : (length (take count words) < w * n) × Whole w n text (take count words ++ (v ∷ [])) k
      read-last = subst (AtEnd w n text (take count words)) e finished

      pub last-room : count < length words
      last-room = omega (arith, read-last.0, length-take-le count words s.room, s.enough)

      pub last_found : Found w n text (set words count v) k
      last_found =
          let whole = read-last.1 in
          let long : suc count ≤ length (set words count v) = omega (arith, length-set words count v, last-room) in
          let t : take (suc count) (set words count v) ≡ take count words ++ (v ∷ []) =
          take-suc-set words count v last-room in
          let z : suc count ≡ w * k =
          sym (length-take-le (suc count) (set words count v) long) ∙ ap length t ∙ whole.size in
          record {
            good = whole.good;
            count = whole.count;
            room = omega arith;
            words = whole.words ∙ sym t ∙ ap (λ (m : ℕ). take m (set words count v)) z;
          }

    pub no_end : r ≡ None → is_text w n text ≡ false
    no_end e = subst (AtEnd w n text (take count words)) e finished

-- ---- the reader's meaning, case by case

module _ (w n : ℕ) (refusal : List ℕ → ℕ) (text words : List ℕ) where
  pub too_short : length words < w * n → reading (Err reason.Short) words ≡ read_records w n refusal text words
  unfolding read_records
  too_short h = rw (lt-ltb (length words) (w * n) h)

  module _ (long : w * n ≤ length words) where
    pub no_text : is_text w n text ≡ false → reading (Err reason.Text) (zeroed words) ≡ read_records w n refusal text words
    unfolding read_records
    no_text h = rw (le-ltb (length words) (w * n) long, h)

    refuses-with : (r : ℕ) → 0 < r → is_text w n text ≡ true → r ≡ refusal (text_words text)
        → refused_with (zeroed words) r ≡ read_records w n refusal text words
    unfolding read_records
    refuses-with zero z h e = absurd (omega arith)
    refuses-with (suc r) z h e = rw (le-ltb (length words) (w * n) long, h, ← e)

    pub refuses : (e : Refusal) → is_text w n text ≡ true → number e ≡ refusal (text_words text)
        → reading (Err e) (zeroed words) ≡ read_records w n refusal text words
    refuses e h k = refuses-with (number e) (number-positive e) h k

    pub accepts : (r : ℕ) → is_text w n text ≡ true → refusal (text_words text) ≡ 0 → r ≡ length (records text)
        → reading (Ok r) (padded (length words) (text_words text)) ≡ read_records w n refusal text words
    unfolding read_records
    accepts r h e c = rw (le-ltb (length words) (w * n) long, h, e, c)

-- a slice that is cleared whole
pub cleared : (words out : List ℕ) → out ≡ replicate (length words - 0) 0 → out ≡ zeroed words
cleared words out o = o ∙ ap (λ (n : ℕ). replicate n 0) (sub-zero (length words))

-- ---- the text reader: the words that the scan left in the slice `scanned`

module _ (text scanned : List ℕ) (s : Option ℕ) (scans : ScanMeans row_width most_records text scanned s)
    (n : ℕ) (e : s ≡ Some n) where
  pub found : Found row_width most_records text scanned n
  found = subst (ScanMeans row_width most_records text scanned) e scans

  front_length : row_width * n ≡ length (take (row_width * n) scanned)
  front_length = sym (length-take-le (row_width * n) scanned found.room)

-- ---- and its ways out, with the slice `out`

module _ (text words : List ℕ) where
  pub read_short : (m : ℕ) → length words < m → m ≤ most_words → reading (Err reason.Short) words ≡ read_text text words
  unfolding read_text
  read_short m h l = too_short row_width most_records check text words (omega arith)

  module _ (scanned : List ℕ) (long : most_words ≤ length words) (kept : length scanned ≡ length words) (s : Option ℕ)
      (scans : ScanMeans row_width most_records text scanned s) where
    zeros : (out : List ℕ) → out ≡ zeroed scanned → out ≡ zeroed words
    zeros out e = e ∙ ap (λ (k : ℕ). replicate k 0) kept

    pub read_none : (out : List ℕ) (r : Result ℕ Refusal) → s ≡ None → r ≡ Err reason.Text → out ≡ zeroed scanned
        → reading r out ≡ read_text text words
    unfolding read_text
    read_none out r e is o =
        ap₂ reading is (zeros out o)
        ∙ no_text row_width most_records check text words long
        (subst (ScanMeans row_width most_records text scanned) e scans)

    module _ (n : ℕ) (e : s ≡ Some n) where
      there : Found row_width most_records text scanned n
      there = found text scanned s scans n e

      pub read-refused : (out : List ℕ) (r : Result ℕ Refusal) (reason : Refusal)
          → number reason ≡ check (take (row_width * n) scanned) → r ≡ Err reason → out ≡ zeroed scanned
          → reading r out ≡ read_text text words
      unfolding read_text
      read-refused out r reason checked is o =
          ap₂ reading is (zeros out o)
          ∙ refuses row_width most_records check text words long reason there.good
          (checked ∙ ap check (sym there.words))

      pub read-records : (out : List ℕ) → 0 ≡ check (take (row_width * n) scanned)
          → out ≡ take (row_width * n) scanned ++ replicate (length scanned - row_width * n) 0
          → reading (Ok n) out ≡ read_text text words
      unfolding read_text
      read-records out checked o =
          let l : length (text_words text) ≡ row_width * n =
          ap length there.words ∙ sym (front_length text scanned s scans n e) in
          let k : length scanned - row_width * n ≡ length words - length (text_words text) = omega arith in
          let q : out ≡ padded (length words) (text_words text) =
          o ∙ ap₂ (λ (xs : List ℕ) (i : ℕ). xs ++ replicate i 0) (sym there.words) k in
          ap (reading (Ok n)) q
          ∙ accepts row_width most_records check text words long n there.good
          (ap check there.words ∙ sym checked) there.count
