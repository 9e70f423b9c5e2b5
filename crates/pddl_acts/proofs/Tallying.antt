-- The pass over the actions from an offset on: their number, their names, their rows, whether their facts are known.
use mathlib.Core.Path.{◌≡◌, refl, sym, ap, ◌∙◌}
use mathlib.Core.Bool.{Bool, true, ◌&&◌}
use mathlib.Core.List.{List, ◌++◌, append-nil}
use Prim.Native.Nat.{ℕ, suc, ◌+◌, ◌*◌, ◌≤◌, ◌<◌}
use native.Mathlib.Nat.{add-zero}
use native.Mathlib.Omega.{arith}
use lib.ListN.{length, take}
use Rattle.semantics.specs.Words.{row_words, states_in}
use Rattle.semantics.specs.Task.{row_width}
use Rattle.mask.specs.Number.{number}
use Rattle.mask.specs.Inner.Stored.{mask_at}
use Rattle.semantics.specs.Pddl.{known_action, own_rows, none_twice}
use Rattle.pddl_theory.proofs.Turns.{Numbered, numbered-begin, numbered_below, numbered-on, numbered-end}
use Rattle.pddl_theory.proofs.Turns.{Held, held-begin, held_on, held-end}
use Rattle.pddl_name.specs.declared.Span.{Span}
use Rattle.pddl_name.specs.Inner.Table.{names_in}
use Rattle.std.specs.Prelude.{Some, None}
use Rattle.pddl_form.specs.Inner.Place.{atoms_from}
use Rattle.pddl_list.proofs.Filling.{Filling, filling_begin, filling_next}
use Rattle.pddl_section.specs.Inner.Section.{Acts, Masks, actions_from}
use Rattle.pddl_section.specs.declared.Act.{Act}
use Rattle.pddl_section.proofs.Lists.{actions-next, actions-none}
use Rattle.pddl_theory.specs.Inner.Appended.{Appended}
use Rattle.pddl_words.specs.Inner.Built.{Waits}
use Rattle.pddl_theory.proofs.Appending.{Still, still-begin, still-on, still-end}
use Rattle.pddl_acts.specs.declared.Tally.{Tally}
use Rattle.pddl_acts.specs.Inner.Names.{called_from, Noted, NamesIn}
use Rattle.pddl_acts.specs.Inner.Own.{Placed, Tallied, OwnIn}
use Rattle.pddl_acts.proofs.Named.{called-next, called-none}

abbrev own_from : List ℕ → List Span → List ℕ → ℕ → ℕ → ℕ → List ℕ
own_from text spans waits owner a i = own_rows (names_in text spans) waits owner a (actions_from text i)

-- ---- tables that are full, and not

pub noted_full : (names : List Span) (n : ℕ) (name : Span) → 256 ≤ n → Noted names n name names
noted_full names n name h = record { stored = λ l. absurd (omega (arith, l)) }

pub placed_in : (masks table after : List ℕ) (k owner : ℕ) (a : Act) (w : ℕ) → w ≡ mask_at masks k
    → Appended table (row_width * k)
    (row_words owner (number a.needs) w (number a.adds) (number a.dels)) after
    → Placed masks table k owner a after
placed_in masks table after k owner a w e p = record { stored = λ _. rw (← e) p }

pub placed_full : (masks table : List ℕ) (k owner : ℕ) (a : Act) → 256 ≤ k → Placed masks table k owner a table
placed_full masks table k owner a h = record { stored = λ l. absurd (omega (arith, l)) }

-- ---- the pass

-- `count` actions stand before i; their names and rows are in the tables, if there is room for those of all
pub record Tallying (text : List ℕ) (spans : List Span) (more : ℕ) (masks table₀ : List ℕ) (names₀ : List Span)
    (start owner first : ℕ) (table : List ℕ) (names : List Span) (count : ℕ) (known : Bool) (i : ℕ) : Type 0 where
  few-masks : 256 ≤ states_in (length masks)
  pub table_kept : length table ≡ length table₀
  pub names-kept : length names ≡ length names₀
  pub numbered : Numbered (actions_from text) start count i
  pub facts : Held (known_action (names_in text spans ++ atoms_from text more)) (actions_from text) start known i
  pub named : length (actions_from text start) ≤ 256
      → Filling 256 (called_from text) text start names₀ names count i
  pub rows : first + length (actions_from text start) ≤ 256 → (waits : List ℕ) → Waits waits masks
      → Still table₀ (row_width * first) (own_from text spans waits owner first start) table
      (row_width * (first + count))
      (own_from text spans waits owner (first + count) i)

pub tallying_begin : (text : List ℕ) (spans : List Span) (more : ℕ)
    (masks table : List ℕ) (names : List Span) (start owner first : ℕ)
    → 256 ≤ states_in (length masks) → 256 ≤ length names
    → Tallying text spans more masks table names start owner first table names 0 true start
tallying_begin text spans more masks table names start owner first few h =
    record {
      few-masks = few;
      table_kept = refl;
      names-kept = refl;
      numbered = numbered-begin (actions_from text) start;
      facts = held-begin (known_action (names_in text spans ++ atoms_from text more)) (actions_from text) start;
      named = λ _. filling_begin 256 (called_from text) text start names h;
      rows = λ _ waits w. rw (add-zero first)
          (still-begin table (row_width * first) (own_from text spans waits owner first start));
    }

module _ {text : List ℕ} {spans : List Span} {more : ℕ} {masks table₀ : List ℕ} {names₀ : List Span}
    {start owner first : ℕ} {table : List ℕ} {names : List Span} {count : ℕ} {known : Bool} {i : ℕ}
    (g : Tallying text spans more masks table₀ names₀ start owner first table names count known i) where
  module _ {a : Act} (x : Acts text i (Some a)) where
    pub tallying_below : count + 1 ≤ length (actions_from text start)
    tallying_below = numbered_below g.numbered a.next (actions-next x)

    pub tallying_on : Masks text spans more a → (noted : List Span) (placed : List ℕ)
        → length noted ≡ length names → length placed ≡ length table
        → Noted names count (record { first = a.first; end = a.end }) noted
        → Placed masks table (first + count) owner a placed
        → Tallying text spans more masks table₀ names₀ start owner first placed noted (count + 1) (known && a.known)
        a.next
    unfolding own_rows
    tallying_on y noted placed l m stored put =
        record {
          few-masks = g.few-masks;
          table_kept = m ∙ g.table_kept;
          names-kept = l ∙ g.names-kept;
          numbered = numbered-on g.numbered a.next (actions-next x);
          facts = held_on (known_action (names_in text spans ++ atoms_from text more)) g.facts a.next (actions-next x)
              a.known y.names;
          named = λ h.
              let below : count < 256 = omega (arith, h, tallying_below) in
              rw (stored.stored below)
              (filling_next (g.named h) below (record { first = a.first; end = a.end }) a.next x.onward.2
              (called-next x));
          rows = λ h waits w.
              let below : first + count < 256 = omega (arith, h, tallying_below) in
              let this : List ℕ =
              row_words owner (number a.needs) (mask_at masks (first + count)) (number a.adds) (number a.dels) in
              let next : first + (count + 1) ≡ suc (first + count) = omega arith in
              let is : own_from text spans waits owner (first + count) i
              ≡ this ++ own_from text spans waits owner (first + (count + 1)) a.next =
              ap (own_rows (names_in text spans) waits owner (first + count)) (actions-next x)
              ∙ rw (next, y.needs, y.adds, y.dels, w.each (first + count) (omega (arith, below, g.few-masks))) in
              still-on (g.rows h waits w) this (own_from text spans waits owner (first + (count + 1)) a.next) placed
              (row_width * (first + (count + 1))) is (put.stored below) (omega arith);
        }

  module _ (x : Acts text i None) where
    all : count ≡ length (actions_from text start)
    all = numbered-end g.numbered (actions-none x)

    pub tallied : Tallied text spans more masks table₀ start owner first table names
        (record { count = count; known = known })
    unfolding own_rows
    tallied =
        record {
          number = all;
          facts = held-end (known_action (names_in text spans ++ atoms_from text more)) g.facts (actions-none x);
          called = record {
            spans_in = λ h. (g.named (omega (arith, h, all))).spans_in;
            whole = λ h.
                (g.named (omega (arith, h, all))).whole ∙ rw (called-none x)
                (append-nil (names_in text (take count names)));
          };
          rows_in = record {
            rows = λ h. record {
              each = λ waits w.
                  still-end (g.rows h waits w)
                  (ap (own_rows (names_in text spans) waits owner (first + count)) (actions-none x));
            };
          };
        }

-- ---- with the names

pub by_names : {text : List ℕ} {at : ℕ} {names : List Span} {count : ℕ} → NamesIn text at names count → count ≤ 256
    → (b : Bool) → b ≡ none_twice (names_in text (take count names)) → b ≡ none_twice (called_from text at)
by_names x h b is = is ∙ ap none_twice (sym (x.whole h))

pub an_own : {text : List ℕ} {spans : List Span} {more : ℕ} {masks table₀ : List ℕ} {start owner first : ℕ}
    {table : List ℕ} {names : List Span} (t : Tally)
    → Tallied text spans more masks table₀ start owner first table names t
    → (b : Bool) → b ≡ none_twice (called_from text start)
    → OwnIn text spans more masks table₀ start owner first table (record { count = t.count; named = b && t.known })
an_own t x b is = record { number = x.number; names = rw (is, x.facts); rows_in = x.rows_in }
