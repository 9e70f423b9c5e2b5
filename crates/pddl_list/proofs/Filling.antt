-- The loop that fills a table with the first names of a list that is read from an offset on, `from at`: one name a
-- turn.
-- Then the same of atoms.
use mathlib.Core.Path.{◌≡◌, refl, sym, ap, ◌∙◌}
use mathlib.Core.List.{List, [], ◌∷◌, ◌++◌, append_assoc, map-append}
use Prim.Native.Nat.{ℕ, zero, suc, ◌+◌, ◌≤◌, ◌<◌}
use native.Mathlib.Numerals.{add-one}
use native.Mathlib.Omega.{arith}
use lib.ListN.{length, set, take, length-set, length-append, length-map}
use lib.Seq.{take-suc-set, length-take-le}
use Rattle.std.proofs.lemmas.List.Elements.{All-append}
use Rattle.std.specs.Prelude.{Some, None}
use Rattle.std.specs.List.{All}
use Rattle.pddl_theory.specs.Inner.Limits.{most_facts}
use Rattle.pddl_name.specs.declared.Span.{Span}
use Rattle.pddl_name.specs.Inner.Table.{names_in, Spans}
use Rattle.pddl_name.proofs.Looking.{named}
use Rattle.pddl_form.specs.Inner.Place.{atoms_from, Atoms}
use Rattle.pddl_form.specs.declared.Word.{Word}
use Rattle.pddl_form.proofs.Lists.{atoms-next, atoms-none}
use Rattle.pddl_list.specs.Inner.Table.{Tabled}

-- the first n names, at most `most`, stand in the table; the others stand from i on
pub record Filling (most : ℕ) (from : ℕ → List (List ℕ)) (text : List ℕ) (at : ℕ) (start spans : List Span) (n i : ℕ)
    : Type 0 where
  pub stays : length spans ≡ length start
  pub room : most ≤ length spans
  pub few : n ≤ most
  pub spans_in : Spans (length text) (take n spans)
  pub whole : from at ≡ names_in text (take n spans) ++ from i

pub filling_begin : (most : ℕ) (from : ℕ → List (List ℕ)) (text : List ℕ) (at : ℕ) (spans : List Span)
    → most ≤ length spans → Filling most from text at spans spans 0 at
filling_begin most from text at spans h =
    record {
      stays = refl;
      room = h;
      few = omega arith;
      spans_in = record { below = λ k d l. absurd (omega (arith, l)) };
      whole = refl;
    }

empty : {A : Type 0} (xs : List A) → length xs ≡ 0 → xs ≡ []
empty [] h = refl
empty (y ∷ ys) h = absurd (omega (arith, h))

alone : {most : ℕ} (p : Span) → p.end ≤ most → All (λ q. q.end ≤ most) (p ∷ [])
alone p h zero d l = h
alone p h (suc k) d l = absurd (omega (arith, l))

module _ {most : ℕ} {from : ℕ → List (List ℕ)} {text : List ℕ} {at : ℕ} {start spans : List Span} {n i : ℕ}
    (g : Filling most from text at start spans n i) where
  filled : length (names_in text (take n spans)) ≡ n
  filled = length-map (take n spans) (named text) ∙ length-take-le n spans (omega (arith, g.few, g.room))

  -- the name of the part p, then those from m on
  module _ (below : n < most) (p : Span) (m : ℕ) (he : p.end ≤ length text)
      (next : from i ≡ named text p ∷ from m) where
    one_more : take (n + 1) (set spans n p) ≡ take n spans ++ (p ∷ [])
    one_more = rw add-one (take-suc-set spans n p (omega (arith, below, g.room)))

    names-on : names_in text (take (n + 1) (set spans n p)) ≡ names_in text (take n spans) ++ (named text p ∷ [])
    names-on = ap (names_in text) one_more ∙ map-append (named text) (take n spans) (p ∷ [])

    pub filling_next : Filling most from text at start (set spans n p) (n + 1) m
    filling_next =
        let l : length (set spans n p) ≡ length spans = length-set spans n p in
        record {
          stays = l ∙ g.stays;
          room = omega (arith, g.room, l);
          few = omega (arith, below);
          spans_in = rw one_more
              record {
                below = All-append (λ q. q.end ≤ length text) (take n spans) (p ∷ []) g.spans_in.below (alone p he);
              };
          whole = g.whole ∙ rw (names-on, next)
              (sym (append_assoc (names_in text (take n spans)) (named text p ∷ []) (from m)));
        }

  full : most ≤ n → length (from at) ≤ most → from i ≡ []
  full h k =
      let l : length (from at) ≡ length (names_in text (take n spans)) + length (from i) =
      ap length g.whole ∙ length-append (names_in text (take n spans)) (from i) in
      empty (from i) (omega (arith, h, k, l, filled))

-- ---- atoms

module _ {text : List ℕ} {at : ℕ} {start spans : List Span} {n i : ℕ}
    (g : Filling most_facts (atoms_from text) text at start spans n i) where
  pub filling_on : n < most_facts → {a : Word} → Atoms text i (Some a)
      → Filling most_facts (atoms_from text) text at start (set spans n (record { first = a.first; end = a.end }))
      (n + 1) a.next
  filling_on below {a} x =
      filling_next g below (record { first = a.first; end = a.end }) a.next x.onward.2 (atoms-next x)

  pub filling_out : Atoms text i None → Tabled text at spans (record { count = n; more = i })
  filling_out x =
      record {
        room = omega (arith, g.few, g.room);
        few = g.few;
        spans_in = g.spans_in;
        tabled = filled g;
        whole = g.whole;
        all = λ _. atoms-none x;
      }

  pub filling_end : most_facts ≤ n → Tabled text at spans (record { count = most_facts; more = i })
  filling_end h =
      let e : n ≡ most_facts = omega (arith, h, g.few) in
      let f : length (names_in text (take n spans)) ≡ n = filled g in
      record {
        room = g.room;
        few = omega arith;
        spans_in = rw e at g.spans_in;
        tabled = rw e at f;
        whole = rw e at g.whole;
        all = full g h;
      }
