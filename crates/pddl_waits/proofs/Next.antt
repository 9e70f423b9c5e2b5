-- The record at an offset: what was read of it, and what each byte makes of it. Assumes nothing.
use mathlib.Core.Path.{◌≡◌, refl, sym, ap, ap₂, subst, ◌∙◌}
use mathlib.Core.Bool.{Bool, true, false}
use mathlib.Core.List.{List, [], ◌∷◌, ◌++◌, append_assoc, append-nil}
use Rattle.std.specs.Prelude.{Option, Some, None}
use Prim.Native.Nat.{ℕ, ◌+◌, ◌-◌, ◌/◌, ◌^◌, ◌≤◌, ◌<◌}
use native.Mathlib.Numerals.{add-one}
use native.Mathlib.Omega.{arith}
use lib.ListN.{length, get_or, drop, length-append, length-drop, drop_of_length-le}
use lib.Seq.{drop-cons}
use lib.Dec.{eqb, ltb, leb}
use borrow.Author.Tests.{ltb-true, ltb-false}
use mir.Syntax.{w64}
use mir.Val.{Fits}
use Rattle.semantics.specs.Text.{cr, lf, is_text, text_words}
use Rattle.text.proofs.Lists.{cond_ind}
use Rattle.text.proofs.Stands.{Stands, After, AtEnd, Whole, stands-first, stands-next, stands-last, reach}
use Rattle.text.specs.Inner.Byte.{ByteMeans}
use Rattle.text.specs.Inner.Place.{at, InReach, step_in, step_of, last_in, last_of}
use Rattle.text.specs.declared.Byte.{Byte}
use Rattle.text.specs.declared.Byte.TheVariants.{Digit, Comma, Cr, Lf, Other}
use Rattle.text.specs.declared.Field.{Field}
use Rattle.text.specs.declared.Field.TheVariants.{Empty, Number, Ended}
use Rattle.text.specs.declared.Place.{Place}
use Rattle.text.specs.declared.Turn.{Turn}
use Rattle.text.specs.declared.Turn.TheVariants.{On, Word}
use Rattle.text.specs.declared.Last.{Last}
use Rattle.text.specs.declared.Last.TheVariants.{Records, Word as LastWord}
use Rattle.pddl_waits.proofs.Parts.{Ends, sound_none, words-none, sound-parts, words-parts, text-sound}
use Rattle.pddl_waits.proofs.Parts.{text_unsound}
use Rattle.pddl_waits.specs.Inner.Wait.{in_pairs, Next}

-- ---- CR LF

-- CR was read where the reader says so
abbrev Line : List ℕ → Field → Type 0
Line read Empty = Unit {0}
Line read (Number v) = Unit {0}
Line read Ended = Ends read (cr ∷ [])

-- a byte of the first record, after which these bytes are read: only LF after CR leads to the second
abbrev Goes : List ℕ → Option Turn → Type 0
Goes read (Some (On q)) =
    (q.records ≡ 0 → Line read q.field)
    × ((q.records ≡ 0 → ⊥) → (q ≡ at 1 0 Empty) × Ends read (cr ∷ lf ∷ []))
Goes read (Some (Word v q)) = (q.records ≡ 0) × Line read q.field
Goes read None = Unit {0}

module _ (n f : ℕ) (read : List ℕ) (b : ℕ) where
  goes : (field : Field) → Line read field → (byte : Byte) → ByteMeans b byte
      → Goes (read ++ (b ∷ [])) (step_in 2 n 0 f field byte)
  goes Empty l (Digit d) m =
      cond_ind (Goes (read ++ (b ∷ []))) (ltb 0 n) (λ e. ((λ z. tt), (λ z. absurd (z refl)))) (λ e. tt)
  goes Empty l Comma m = tt
  goes Empty l Cr m = tt
  goes Empty l Lf m = tt
  goes Empty l Other m = tt
  goes (Number v) l (Digit d) m =
      cond_ind (Goes (read ++ (b ∷ []))) (eqb v 0) (λ e. tt)
      (λ e. cond_ind (Goes (read ++ (b ∷ []))) (leb v ((2 ^ 64 - 1 - d) / 10))
      (λ h. ((λ z. tt), (λ z. absurd (z refl)))) (λ h. tt))
  goes (Number v) l Comma m = cond_ind (Goes (read ++ (b ∷ []))) (ltb (f + 1) 2) (λ e. (refl, tt)) (λ e. tt)
  goes (Number v) l Cr m =
      cond_ind (Goes (read ++ (b ∷ []))) (eqb (f + 1) 2)
      (λ e. (refl, record { front = read; is = ap (λ (x : ℕ). read ++ (x ∷ [])) m })) (λ e. tt)
  goes (Number v) l Lf m = tt
  goes (Number v) l Other m = tt
  goes Ended l (Digit d) m = tt
  goes Ended l Comma m = tt
  goes Ended l Cr m = tt
  goes Ended l Lf m = (
    (λ z. absurd (omega arith)),
    (λ z. (
      refl,
      record {
        front = l.front;
        is =
            ap₂ (λ (xs : List ℕ) (x : ℕ). xs ++ (x ∷ [])) l.is m
            ∙ append_assoc l.front (cr ∷ []) (lf ∷ []);
      },
    )),
  )
  goes Ended l Other m = tt

-- the end of the text in the first record
abbrev Stops : Option Last → Type 0
Stops (Some (Records m)) = m ≡ 0
Stops (Some (LastWord v m)) = m ≡ 1
Stops None = Unit {0}

stops : (f : ℕ) (field : Field) → Stops (last_in 2 0 f field)
stops f Empty = cond_ind Stops (eqb f 0) (λ e. refl) (λ e. tt)
stops f (Number v) = cond_ind Stops (eqb (f + 1) 2) (λ e. refl) (λ e. tt)
stops f Ended = tt

-- ---- the last two words, zeros where there are fewer

abbrev LastTwo : List ℕ → ℕ → ℕ → Type 0
LastTwo ws a f = Ends (0 ∷ 0 ∷ ws) (a ∷ f ∷ [])

two-more : (ws : List ℕ) (a f v : ℕ) → LastTwo ws a f → LastTwo (ws ++ (v ∷ [])) f v
two-more ws a f v e = record {
  front = e.front ++ (a ∷ []);
  is =
      ap (λ (xs : List ℕ). xs ++ (v ∷ [])) e.is ∙ append_assoc e.front (a ∷ f ∷ []) (v ∷ [])
      ∙ sym (append_assoc e.front (a ∷ []) (f ∷ v ∷ []));
}

two-all : (ws : List ℕ) (a f : ℕ) → LastTwo ws a f → length ws ≡ 2 → ws ≡ a ∷ f ∷ []
two-all ws a f e l =
    let k : length e.front ≡ 2 =
    omega (arith, ap length e.is, length-append e.front (a ∷ f ∷ [])) in
    ap (drop 2) e.is ∙ behind e.front k
  where
    behind : (xs : List ℕ) → length xs ≡ 2 → drop 2 (xs ++ (a ∷ f ∷ [])) ≡ a ∷ f ∷ []
    behind [] h = absurd (omega arith)
    behind (x ∷ []) h = absurd (omega arith)
    behind (x ∷ y ∷ []) h = refl
    behind (x ∷ y ∷ z ∷ xs) h = absurd (omega arith)

-- ---- the reader in the record

-- the bytes from `from` up to i are read, whatever comes behind them
pub record Reads (n : ℕ) (waits : List ℕ) (from : ℕ) (place : Place) (action fact i : ℕ) : Type 0 where
  pub enough : length waits ≤ n
  pub after : from ≤ i
  pub within : i ≤ length waits
  read : List ℕ
  ws : List ℕ
  split : drop from waits ≡ read ++ drop i waits
  first : place.records ≡ 0
  stands : (t : List ℕ) → Stands 2 n (read ++ t) ws place.records place.fields place.field t
  line : Line read place.field
  two : LastTwo ws action fact

pub begin : (n : ℕ) (waits : List ℕ) (from : ℕ) (place : Place) → n ≡ length waits → from ≤ length waits
    → place ≡ at 0 0 Empty → Reads n waits from place 0 0 from
begin n waits from place enough within e = record {
  enough = omega arith;
  after = omega arith;
  within = within;
  read = [];
  ws = [];
  split = refl;
  first = ap (λ (q : Place). q.records) e;
  stands = λ t. subst (λ (q : Place). Stands 2 n t [] q.records q.fields q.field t) (sym e)
      (stands-first 2 n t (omega arith));
  line = subst (λ (q : Place). Line [] q.field) (sym e) tt;
  two = record { front = []; is = refl };
}

module _ {n : ℕ} {waits : List ℕ} {from : ℕ} {place : Place} {action fact i : ℕ}
    (s : Reads n waits from place action fact i) where
  pub in_reach : InReach 2 n place
  in_reach = reach place (s.stands [])

  pub end-reach : Fits w64 n → InReach 2 (2 ^ 64 - 1) place
  end-reach f = record {
    field_within = in_reach.field_within;
    record_within = λ v e. omega (arith, f.fits, in_reach.record_within v e);
    ended-within = λ e. omega (arith, f.fits, in_reach.ended-within e);
  }

  short : length (drop from waits) ≤ n
  short = omega (arith, s.enough, length-drop from waits)

  -- the next byte, and what it leads to
  module _ (byte : Byte) (r : Option Turn) (more : i < n) (all : n ≡ length waits)
      (sorted : ByteMeans (get_or waits i 0) byte)
      (led : r ≡ step_of 2 n place byte) where
    abbrev now : List ℕ
    now = s.read ++ (get_or waits i 0 ∷ [])

    split-on : drop from waits ≡ now ++ drop (i + 1) waits
    split-on =
        s.split
        ∙ ap (λ (t : List ℕ). s.read ++ t)
        (drop-cons waits i 0 (omega arith) ∙ ap (λ (k : ℕ). get_or waits i 0 ∷ drop k waits) (sym (add-one i)))
        ∙ sym (append_assoc s.read (get_or waits i 0 ∷ []) (drop (i + 1) waits))

    turned : (t : List ℕ) → After 2 n (now ++ t) s.ws t r
    turned t =
        let here : After 2 n (s.read ++ (get_or waits i 0 ∷ t)) s.ws t (step_of 2 n place byte) =
        stands-next (get_or waits i 0) (s.stands (get_or waits i 0 ∷ t)) byte sorted in
        subst (After 2 n (now ++ t) s.ws t) (sym led)
        (subst (λ (x : List ℕ). After 2 n x s.ws t (step_of 2 n place byte))
        (sym (append_assoc s.read (get_or waits i 0 ∷ []) t)) here)

    gone : Goes now r
    gone =
        subst (Goes now) (sym led)
        (subst (λ (k : ℕ). Goes now (step_in 2 n k place.fields place.field byte)) (sym s.first)
        (goes n place.fields s.read (get_or waits i 0) place.field s.line byte sorted))

    module _ (q : Place) (e : r ≡ Some (On q)) where
      on-stands : (t : List ℕ) → Stands 2 n (now ++ t) s.ws q.records q.fields q.field t
      on-stands t = subst (After 2 n (now ++ t) s.ws t) e (turned t)

      pub onward : q.records ≡ 0 → Reads n waits from q action fact (i + 1)
      onward z = record {
        enough = s.enough;
        after = omega (arith, s.after);
        within = omega arith;
        read = now;
        ws = s.ws;
        split = split-on;
        first = z;
        stands = on-stands;
        line = (subst (Goes now) e gone).0 z;
        two = s.two;
      }

      pub found : (q.records ≡ 0 → ⊥) → Next waits from action fact (i + 1)
      found z =
          let ended = (subst (Goes now) e gone).1 z in
          let whole : Whole 2 n (now ++ []) s.ws 1 =
          stands-last
          (subst (λ (p : Place). Stands 2 n (now ++ []) s.ws p.records p.fields p.field []) ended.0
          (on-stands [])) in
          record {
            onward = omega (arith, s.after);
            within = omega arith;
            pairs =
                ap in_pairs split-on
                ∙ sound-parts now (drop (i + 1) waits) ended.1 2
                (ap in_pairs (sym (append-nil now)) ∙ text-sound 2 n (now ++ []) whole.good);
            words =
                ap text_words split-on ∙ words-parts now (drop (i + 1) waits) ended.1
                ∙ ap (λ (ws : List ℕ). ws ++ text_words (drop (i + 1) waits))
                (ap text_words (sym (append-nil now)) ∙ whole.words
                ∙ two-all s.ws action fact s.two whole.size);
          }

    pub word_on : (v : ℕ) (q : Place) → r ≡ Some (Word v q) → Reads n waits from q fact v (i + 1)
    word_on v q e = record {
      enough = s.enough;
      after = omega (arith, s.after);
      within = omega arith;
      read = now;
      ws = s.ws ++ (v ∷ []);
      split = split-on;
      first = (subst (Goes now) e gone).0;
      stands = λ t. (subst (After 2 n (now ++ t) s.ws t) e (turned t)).1;
      line = (subst (Goes now) e gone).1;
      two = two-more s.ws action fact v s.two;
    }

    pub out : r ≡ None → in_pairs (drop from waits) ≡ false
    out e =
        text_unsound 2 n (drop from waits) short
        (ap (is_text 2 n) split-on
        ∙ subst (After 2 n (now ++ drop (i + 1) waits) s.ws (drop (i + 1) waits)) e (turned (drop (i + 1) waits)))

  -- the end of the text, and what it leads to
  module _ (r : Option Last) (over : n ≤ i) (led : r ≡ last_of 2 place) where
    none_left : drop i waits ≡ []
    none_left = drop_of_length-le waits {i = i} (omega (arith, s.enough))

    all_read : drop from waits ≡ s.read ++ []
    all_read = s.split ∙ ap (λ (t : List ℕ). s.read ++ t) none_left

    finished : AtEnd 2 n (s.read ++ []) s.ws r
    finished = subst (AtEnd 2 n (s.read ++ []) s.ws) (sym led) (stands-last (s.stands []))

    stopped : Stops r
    stopped =
        subst Stops (sym led)
        (subst (λ (k : ℕ). Stops (last_in 2 k place.fields place.field)) (sym s.first)
        (stops place.fields place.field))

    pub ended : (m : ℕ) → r ≡ Some (Records m) → (in_pairs (drop from waits) ≡ true)
        × (text_words (drop from waits) ≡ [])
    ended m e =
        let whole : Whole 2 n (s.read ++ []) s.ws m = subst (AtEnd 2 n (s.read ++ []) s.ws) e finished in
        let z : m ≡ 0 = subst Stops e stopped in (
          ap in_pairs all_read ∙ text-sound 2 n (s.read ++ []) whole.good,
          ap text_words all_read ∙ whole.words ∙ empty s.ws (omega (arith, whole.size)),
        )
      where
        empty : (xs : List ℕ) → length xs ≡ 0 → xs ≡ []
        empty [] h = refl
        empty (x ∷ xs) h = absurd (omega arith)

    -- some was read where there are words
    begun : (x : ℕ) (xs : List ℕ) → text_words (drop from waits) ≡ x ∷ xs → from < i
    begun x xs e = go (ltb from i) refl
      where
        go : (b : Bool) → ltb from i ≡ b → from < i
        go true h = ltb-true from i h
        go false h =
            let z : drop from waits ≡ [] =
            drop_of_length-le waits {i = from} (omega (arith, ltb-false from i h, s.enough)) in
            let l : length {A = ℕ} [] ≡ length (x ∷ xs) = ap length (sym words-none ∙ ap text_words (sym z) ∙ e) in
            absurd (omega arith)

    pub last_found : (v m : ℕ) → r ≡ Some (LastWord v m) → Next waits from fact v i
    last_found v m e =
        let whole : Whole 2 n (s.read ++ []) (s.ws ++ (v ∷ [])) m =
        (subst (AtEnd 2 n (s.read ++ []) s.ws) e finished).1 in
        let z : m ≡ 1 = subst Stops e stopped in
        let words : text_words (drop from waits) ≡ fact ∷ v ∷ [] =
        ap text_words all_read ∙ whole.words
        ∙ two-all (s.ws ++ (v ∷ [])) fact v (two-more s.ws action fact v s.two) (omega (arith, whole.size)) in
        record {
          onward = begun fact (v ∷ []) words;
          within = s.within;
          pairs =
              ap in_pairs all_read ∙ text-sound 2 n (s.read ++ []) whole.good
              ∙ sym (ap in_pairs none_left ∙ sound_none 2);
          words = words ∙ ap (λ (ws : List ℕ). fact ∷ v ∷ ws) (sym (ap text_words none_left ∙ words-none));
        }

    pub no_end : r ≡ None → in_pairs (drop from waits) ≡ false
    no_end e =
        text_unsound 2 n (drop from waits) short
        (ap (is_text 2 n) all_read ∙ subst (AtEnd 2 n (s.read ++ []) s.ws) e finished)
