-- The pass over the records of a waits text: what is known of the waits before offset i. Assumes nothing.
use mathlib.Core.Path.{◌≡◌, refl, sym, ap, ◌∙◌}
use mathlib.Core.Bool.{Bool, true, false, ◌&&◌}
use mathlib.Core.List.{List, []}
use Prim.Native.Nat.{ℕ, ◌+◌, ◌-◌, ◌<◌}
use native.Mathlib.Omega.{arith}
use lib.ListN.{length, drop}
use lib.Bits.{bit_or, or_zero_l, or_zero_r}
use Rattle.std.specs.Prelude.{Option, Some, None, Ok, Err}
use Rattle.refusal.specs.declared.Refusal.{Refusal}
use Rattle.refusal.specs.declared.Refusal.TheVariants as refusal
use Rattle.theory.proofs.Lists.{and_elim, get_d-zeros}
use Rattle.theory.proofs.Loops.{Rest, rest-begin}
use Rattle.semantics.specs.Base.{zeroed}
use Rattle.semantics.specs.Words.{states_in, words_for}
use Rattle.semantics.specs.Text.{text_words}
use Rattle.semantics.specs.Pddl.{waits_known, wait_mask}
use Rattle.mask.specs.Inner.Stored.{mask_at}
use Rattle.pddl_theory.specs.Inner.Limits.{most_facts}
use Rattle.pddl_words.specs.Inner.Built.{Waits}
use Rattle.pddl_waits.proofs.Waits.{known_both, known-grown}
use Rattle.pddl_waits.proofs.Filling.{added}
use Rattle.pddl_waits.specs.Inner.Wait.{in_pairs, Next}
use Rattle.pddl_waits.specs.Inner.Waits.{AddedIn, WaitsIn, within_of, grown_of}
use Rattle.pddl_waits.specs.declared.Wait.{Wait}
use Rattle.pddl_waits.specs.declared.Greatest.{Greatest}

pub less : (waits : List ℕ) (i : ℕ) (w : Wait) → Next waits i w.action w.fact w.next
    → length waits - w.next < length waits - i
less waits i w n = omega (arith, n.onward, n.within)

-- the greatest numbers of the waits before offset i, if there is one, and their masks
pub record Before (waits table₀ table : List ℕ) (most : Option Greatest) (i : ℕ) : Type 0 where
  pub left : Rest in_pairs waits i
  pub kept : length table ≡ length table₀
  known : (m F : ℕ) → waits_known m F (text_words waits)
      ≡ within_of most m F && waits_known m F (text_words (drop i waits))
  each : waits_known (states_in (length table)) most_facts (text_words waits) ≡ true → (b : ℕ)
      → bit_or (mask_at table b) (wait_mask b (text_words (drop i waits))) ≡ wait_mask b (text_words waits)

pub begin : (waits table : List ℕ) → table ≡ zeroed table → Before waits table table None 0
begin waits table z = record {
  left = rest-begin in_pairs waits;
  kept = refl;
  known = λ m F. refl;
  each = λ _ b.
      ap (λ (x : ℕ). bit_or x (wait_mask b (text_words waits)))
      (zero-mask b)
      ∙ or_zero_l (wait_mask b (text_words waits));
}
  where
    zero-mask : (b : ℕ) → mask_at table b ≡ 0
    zero-mask b =
        let none : mask_at (zeroed table) b ≡ 0 =
        rw (get_d-zeros (length table) (words_for b), get_d-zeros (length table) (words_for b + 1)) in
        ap (λ (t : List ℕ). mask_at t b) z ∙ none

module _ {waits table₀ table : List ℕ} {most : Option Greatest} {i : ℕ} (s : Before waits table₀ table most i) where
  module _ (a f j : ℕ) (here : Next waits i a f j) where
    both : waits_known (states_in (length table)) most_facts (text_words waits) ≡ true
        → (a < states_in (length table)) × (f < most_facts)
    both h =
        let n : ℕ = states_in (length table) in
        known_both n most_facts a f (text_words (drop j waits))
        (ap (waits_known n most_facts) (sym here.words)
        ∙ (and_elim (within_of most n most_facts)
        (waits_known n most_facts (text_words (drop i waits))) (sym (s.known n most_facts) ∙ h)).1)

    known_on : (m F : ℕ) → waits_known m F (text_words waits)
        ≡ within_of (Some (grown_of most a f)) m F && waits_known m F (text_words (drop j waits))
    known_on m F =
        s.known m F
        ∙ ap (λ (ws : List ℕ). within_of most m F && waits_known m F ws) here.words
        ∙ known-grown most a f m F (text_words (drop j waits))

    module _ (after : List ℕ) (t : AddedIn table a f after) where
      each_on : waits_known (states_in (length after)) most_facts (text_words waits) ≡ true → (b : ℕ)
          → bit_or (mask_at after b) (wait_mask b (text_words (drop j waits))) ≡ wait_mask b (text_words waits)
      each_on h b =
          let k : waits_known (states_in (length table)) most_facts (text_words waits) ≡ true =
          ap (λ (n : ℕ). waits_known (states_in n) most_facts (text_words waits)) (sym t.size) ∙ h in
          let below = both k in
          ap (λ (x : List ℕ). bit_or (mask_at x b) (wait_mask b (text_words (drop j waits))))
          (t.here below.0 below.1)
          ∙ added table a f b (text_words (drop j waits)) below.0
          ∙ ap (λ (ws : List ℕ). bit_or (mask_at table b) (wait_mask b ws)) (sym here.words)
          ∙ s.each k b

      pub onward : (g : Greatest) → g ≡ grown_of most a f → Before waits table₀ after (Some g) j
      onward g p = record {
        left = record { most = here.within; rest = s.left.rest ∙ here.pairs };
        kept = t.size ∙ s.kept;
        known = λ m F. rw p (known_on m F);
        each = each_on;
      }

  module _ (ended : (in_pairs (drop i waits) ≡ true) × (text_words (drop i waits) ≡ [])) where
    known-end : (m F : ℕ) → waits_known m F (text_words waits) ≡ within_of most m F
    unfolding waits_known
    known-end m F =
        s.known m F ∙ ap (λ (ws : List ℕ). within_of most m F && waits_known m F ws) ended.1
        ∙ and-true (within_of most m F)
      where
        and-true : (b : Bool) → b && true ≡ b
        and-true true = refl
        and-true false = refl

    module _ (h : waits_known (states_in (length table)) most_facts (text_words waits) ≡ true) where
      filled : Waits (text_words waits) table
      unfolding wait_mask
      filled =
          record {
            each = λ b _.
                sym (or_zero_r (mask_at table b))
                ∙ ap (λ (ws : List ℕ). bit_or (mask_at table b) (wait_mask b ws)) (sym ended.1)
                ∙ s.each h b;
          }

    pub end : WaitsIn waits table (Ok most)
    end = record { good = s.left.rest ∙ ended.0; known = known-end; masks = filled }

  pub out : (e : Refusal) → (e ≡ refusal.Text) × (in_pairs (drop i waits) ≡ false) → WaitsIn waits table (Err e)
  out e x = (x.0, s.left.rest ∙ x.1)
