-- The reader's ways out.
use mathlib.Core.Path.{◌≡◌, refl, sym, ap, ap₂, ◌∙◌}
use mathlib.Core.Bool.{true, false}
use mathlib.Core.List.{List, ◌++◌}
use Prim.Native.Nat.{ℕ, zero, suc, ◌+◌, ◌-◌, ◌*◌, ◌≤◌, ◌<◌}
use native.Mathlib.Omega.{arith}
use lib.ListN.{length, take, drop, replicate}
use lib.Seq.{length-take-le, take_at, paste, length-paste}
use lib.Dec.{ltb}
use borrow.Author.Tests.{lt-ltb, le-ltb}
use Rattle.semantics.specs.Base.{padded, zeroed}
use Rattle.semantics.specs.Task.{row_width}
use Rattle.semantics.specs.Pddl.{read_pddl}
use Rattle.std.specs.Prelude.{Ok, Err}
use Rattle.refusal.specs.declared.Refusal.{Refusal}
use Rattle.refusal.specs.declared.Refusal.TheVariants as refusal
use Rattle.refusal.specs.Number.{number}
use Rattle.refusal.proofs.Laws.{number-positive}
use Rattle.text.specs.Post.{reading}
use Rattle.text.proofs.Scanning.{cleared}
use Rattle.pddl.specs.Inner.Law.{law_words, law_refusal, LawIn}

refused-at : (text waits words : List ℕ) (e : Refusal) (r : ℕ) → r ≡ number e → r ≡ law_refusal text waits → 0 < r
    → reading (Err e) (zeroed words) ≡ read_pddl text waits words
unfolding read_pddl
refused-at text waits words e zero n i h = absurd (omega (arith, h))
refused-at text waits words e (suc r) n i h = rw (← i, ← n)

module _ {text waits table : List ℕ} (words : List ℕ) where
  pub read-refused : (e : Refusal) → LawIn text waits table (Err e) → (out : List ℕ)
      → out ≡ replicate (length words - 0) 0 → reading (Err e) out ≡ read_pddl text waits words
  read-refused e x out o =
      ap (reading (Err e)) (cleared words out o)
      ∙ refused-at text waits words e (number e) refl x.refusal (number-positive e)

  module _ (records : ℕ) (x : LawIn text waits table (Ok records)) where
    accepted : law_refusal text waits ≡ 0
    accepted = sym x.refusal

    size : length (law_words text waits) ≡ row_width * records
    size = ap length (sym x.law.words) ∙ length-take-le (row_width * records) table x.law.room

    pub read_short : length words < row_width * records
        → reading (Err refusal.Short) words ≡ read_pddl text waits words
    unfolding read_pddl
    read_short h =
        let s : ltb (length words) (length (law_words text waits)) ≡ true =
        lt-ltb (length words) (length (law_words text waits)) (omega (arith, size)) in
        rw (accepted, s)

    pub read_whole : row_width * records ≤ length words → (copied out : List ℕ)
        → copied ≡ paste words 0 table (row_width * records)
        → out ≡ take (row_width * records) copied ++ replicate (length copied - row_width * records) 0
        → reading (Ok records) out ≡ read_pddl text waits words
    unfolding read_pddl
    read_whole h copied out c o =
        let n : ℕ = row_width * records in
        let words-of : List ℕ = law_words text waits in
        let there : take n table ≡ words-of = x.law.words in
        let long : length words-of ≡ n = size in
        let fits : length words-of ≤ length words = omega arith in
        let front : take n copied ≡ words-of = rw (c, there) (take_at words-of (drop (0 + n) words) n long) in
        let all : length copied ≡ length words = rw c (length-paste words 0 table n (omega arith) x.law.room) in
        let gap : length copied - n ≡ length words - length words-of = omega arith in
        let filled : out ≡ padded (length words) words-of =
        o ∙ ap₂ (λ (xs : List ℕ) (k : ℕ). xs ++ replicate k 0) front gap in
        let s : ltb (length words) (length words-of) ≡ false = le-ltb (length words) (length words-of) fits in
        rw (accepted, s, x.law.number, filled)
