-- The loop over the members.
use mathlib.Core.Path.{◌≡◌, refl, sym, ap, ◌∙◌}
use mathlib.Core.List.{List, [], ◌∷◌}
use Prim.Native.Nat.{ℕ, suc, ◌+◌, ◌≤◌, ◌<◌}
use native.Mathlib.Omega.{arith}
use lib.ListN.{length, take}
use Rattle.semantics.specs.Pddl as Pddl
use Rattle.semantics.specs.Pddl.{Token, Parsed, outside, parsed, many, wholly, members_of}
use Rattle.pddl_theory.specs.Inner.Place.{rest, leaves, items}
use Rattle.pddl_theory.proofs.Shorter.{member-shorter}
use Rattle.pddl_theory.proofs.Walk.{Walked, walked-begin, walked_on, walked_end}
use Rattle.pddl_token.specs.declared.Token as T
use Rattle.pddl_token.specs.declared.Token.TheVariants.{Open, Close, Word, End, Stray}
use Rattle.pddl_token.specs.Inner.Next.{Next}
use Rattle.std.specs.Prelude.{Some, None}
use Rattle.pddl_section.specs.declared.Member.{Member}
use Rattle.pddl_section.specs.Inner.Section.{member_of, Members, members_from}
use Rattle.pddl_section.proofs.Lists.{member-onward, members-next, members-none}
use Rattle.pddl_members.specs.declared.Entry.{Entry}
use Rattle.pddl_members.specs.Inner.Kept.{Kept, Keeps, Counted, CountedIn}

-- n members before i, some of them in the table
pub record Counting (text : List ℕ) (before table : List Entry) (n kept i : ℕ) : Type 0 where
  pub few : n ≤ i
  pub walked : Walked Pddl.member member-shorter text 0 i
  pub number : length (members_from text 0) ≡ n + length (members_from text i)
  pub as_long : length table ≡ length before
  pub room : 8 ≤ length before
  pub few-kept : kept ≤ 8
  pub held : Kept text (take kept table)

pub counting-begin : (text : List ℕ) (table : List Entry) → 8 ≤ length table → Counting text table table 0 0 0
counting-begin text table room =
    record {
      few = omega arith;
      walked = walked-begin Pddl.member member-shorter text 0;
      number = omega arith;
      as_long = refl;
      room = room;
      few-kept = omega arith;
      held = record { each = λ k d h. absurd (omega (arith, h)) };
    }

-- how many tokens are left
unfoldable left_over : Parsed (Unit {0}) → ℕ
left_over outside = 0
left_over (parsed a ts) = length ts

wholly-all : (p : Parsed (List Pddl.Member)) → leaves p ≡ parsed tt [] → wholly p ≡ items p
unfolding left_over
wholly-all outside e = refl
wholly-all (parsed ms []) e = refl
wholly-all (parsed ms (t ∷ ts)) e = let h : suc (length ts) ≡ 0 = ap left_over e in absurd (omega arith)

wholly-none : (p : Parsed (List Pddl.Member)) (t : Token) (ts : List Token) → leaves p ≡ parsed tt (t ∷ ts) → wholly p
    ≡ []
unfolding left_over
wholly-none outside t ts e = refl
wholly-none (parsed ms []) t ts e = let h : 0 ≡ suc (length ts) = ap left_over e in absurd (omega arith)
wholly-none (parsed ms (u ∷ us)) t ts e = refl

module _ {text : List ℕ} {before table : List Entry} {n kept i : ℕ} (g : Counting text before table n kept i) where
  pub counting-on : {m : Member} → Members text i (Some m) → (after : List Entry) (r : ℕ) → Keeps table kept i m after r
      → Counting text before after (n + 1) r m.problem.next
  counting-on {m} x after r y =
      let l : i < m.problem.next = (member-onward x).0 in
      let next : length (members_from text i) ≡ suc (length (members_from text m.problem.next)) =
      ap length (members-next x) in
      record {
        few = omega (arith, g.few);
        walked = walked_on Pddl.member member-shorter text 0 i g.walked (member_of text m) m.problem.next l
            (sym x.same);
        number = omega (arith, g.number);
        as_long = y.as_long ∙ g.as_long;
        room = g.room;
        few-kept = y.few;
        held = y.each text x g.held;
      }

  module _ (x : Members text i None) where
    left_over_lem : leaves (many Pddl.member (rest text 0)) ≡ parsed tt (rest text i)
    left_over_lem = walked_end Pddl.member member-shorter text 0 i g.walked (sym x.same)

    in_all : (all : ℕ) → Counted text all → CountedIn text (record { members = all; kept = kept }) table
    in_all all c =
        record {
          counted = c;
          few = g.few-kept;
          room = omega (arith, g.few-kept, g.as_long, g.room);
          held = g.held;
        }

    pub ended : Next text i End → CountedIn text (record { members = n; kept = kept }) table
    unfolding members_of
    ended y =
        let all : members_of text ≡ members_from text 0 = wholly-all (many Pddl.member (rest text 0))
        (left_over_lem ∙ rw y.same) in
        let none : length (members_from text i) ≡ 0 = ap length (members-none x) in
        let same : length (members_of text) ≡ length (members_from text 0) = ap length all in
        in_all n (record { number = omega (arith, g.number); from_start = λ _. all })

    more-tokens : (u : Token) (us : List Token) → rest text i ≡ u ∷ us
        → CountedIn text (record { members = 0; kept = kept }) table
    unfolding members_of
    more-tokens u us h =
        let none : members_of text ≡ [] = wholly-none (many Pddl.member (rest text 0)) u us (left_over_lem ∙ rw h) in
        in_all 0 (record { number = sym (ap length none); from_start = λ no. absurd (no refl) })

    pub more : (t : T.Token) → Next text i t → (t ≡ End → ⊥)
        → CountedIn text (record { members = 0; kept = kept }) table
    more (Open k) y h = more-tokens _ _ y.same
    more (Close k) y h = more-tokens _ _ y.same
    more (Word s e) y h = more-tokens _ _ y.same
    more End y h = absurd (h refl)
    more Stray y h = more-tokens _ _ y.same
