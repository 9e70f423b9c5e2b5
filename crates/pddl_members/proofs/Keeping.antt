-- Members go into the table, and are found in it.
use mathlib.Core.Path.{◌≡◌}
use mathlib.Core.List.{List, [], ◌∷◌, ◌++◌}
use Prim.Native.Nat.{ℕ, zero, suc, ◌+◌, ◌≤◌, ◌<◌}
use native.Mathlib.Numerals.{add-one}
use native.Mathlib.Omega.{arith}
use lib.ListN.{length, take, get_or, set, length-set}
use lib.Seq.{take-suc-set}
use Rattle.std.specs.List.{All}
use Rattle.std.specs.Prelude.{Some}
use Rattle.std.proofs.lemmas.List.Elements.{All-append}
use Rattle.pddl_section.specs.declared.Member.{Member}
use Rattle.pddl_section.specs.Inner.Section.{Members}
use Rattle.pddl_members.specs.declared.Entry.{Entry}
use Rattle.pddl_members.specs.Inner.Kept.{Kept, Keeps}

alone : (P : Entry → Type 0) (e : Entry) → P e → All P (e ∷ [])
alone P e h zero d l = h
alone P e h (suc k) d l = absurd (omega (arith, l))

-- a member goes into the table
pub keeps_one : (t : List Entry) (kept at : ℕ) (m : Member) → kept < 8 → 8 ≤ length t
    → Keeps t kept at m (set t kept (record { at = at; member = m })) (kept + 1)
keeps_one t kept at m few room =
    let e : Entry = record { at = at; member = m } in
    let one_more : take (kept + 1) (set t kept e) ≡ take kept t ++ (e ∷ []) =
    rw add-one (take-suc-set t kept e (omega arith)) in
    record {
      few = omega arith;
      as_long = length-set t kept e;
      each = λ text x held.
          rw one_more
          record {
            each = All-append (λ f. Members text f.at (Some f.member)) (take kept t) (e ∷ []) held.each
                (alone (λ f. Members text f.at (Some f.member)) e x);
          };
    }

-- a member is found in the table
pub found : {text : List ℕ} {table : List Entry} → Kept text table → (k : ℕ) (d : Entry) → k < length table → (at : ℕ)
    → (get_or table k d).at ≡ at → Members text at (Some (get_or table k d).member)
found held k d l at e = rw (← e) (held.each k d l)
