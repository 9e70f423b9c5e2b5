-- The ways out of the writer. Assumes nothing.
use mathlib.Core.Path.{◌≡◌, refl, sym, ap, ◌∙◌}
use mathlib.Core.Bool.{Bool, true, false, ◌||◌}
use mathlib.Core.List.{List}
use Prim.Native.Nat.{ℕ, zero, suc, ◌≤◌, ◌<◌}
use native.Mathlib.Omega.{arith}
use lib.ListN.{length}
use lib.Dec.{ltb}
use borrow.Author.Tests.{lt-ltb, le-ltb}
use Rattle.std.specs.Prelude.{Ok, Err}
use Rattle.semantics.specs.Base.{◌if◌, refused, gives, ◌leaves◌otherwise◌, padded}
use Rattle.semantics.specs.Task.{check}
use Rattle.semantics.specs.PddlWrite.{law_text, waits_text, Writing, write_pddl}
use Rattle.theory.proofs.Lists.{or_left, or_right}
use Rattle.refusal.specs.Number.{number}
use Rattle.refusal.specs.declared.Refusal.{Refusal}
use Rattle.refusal.specs.declared.Refusal.TheVariants as refusal
use Rattle.refusal.proofs.Laws.{number-positive}
use Rattle.pddl_write.specs.Post.{writing}

module _ (t text waits : List ℕ) where
  abbrev short : Bool
  short = ltb (length text) (length (law_text t)) || ltb (length waits) (length (waits_text t))

  -- the answer where the check refuses with c, and where b says that a slice is too short
  abbrev told : ℕ → Bool → Writing
  told c b =
      let left : ℕ → Writing = λ r. record { answer = refused r; text = text; waits = waits } in
      c leaves left otherwise (14 if b) leaves left otherwise
      record {
        answer = gives (record { of_text = length (law_text t); of_waits = length (waits_text t) });
        text = padded (length text) (law_text t);
        waits = padded (length waits) (waits_text t);
      }

  means : (c : ℕ) (b : Bool) → c ≡ check t → b ≡ short → told c b ≡ write_pddl t text waits
  unfolding write_pddl
  means c b e f = ap (λ (r : ℕ). told r b) e ∙ ap (told (check t)) f

  refused-first : (c : ℕ) → 0 < c → c ≡ check t
      → record { answer = refused c; text = text; waits = waits } ≡ write_pddl t text waits
  refused-first zero h e = absurd (omega arith)
  refused-first (suc c) h e = means (suc c) short e refl

  pub refused-task : (e : Refusal) → number e ≡ check t → writing (Err e) text waits ≡ write_pddl t text waits
  refused-task e q = refused-first (number e) (number-positive e) q

  -- u are the words of the accepted task
  module _ (u : List ℕ) (same : u ≡ t) (c : check u ≡ 0) (a b : ℕ) (e : a ≡ length (law_text u))
      (f : b ≡ length (waits_text u)) where
    c' : 0 ≡ check t
    c' = sym c ∙ ap check same

    e' : a ≡ length (law_text t)
    e' = e ∙ ap (λ (w : List ℕ). length (law_text w)) same

    f' : b ≡ length (waits_text t)
    f' = f ∙ ap (λ (w : List ℕ). length (waits_text w)) same

    pub short-text : length text < a → writing (Err refusal.Short) text waits ≡ write_pddl t text waits
    short-text h =
        means 0 true c'
        (sym (or_left (ltb (length text) (length (law_text t))) (ltb (length waits) (length (waits_text t)))
        (lt-ltb (length text) (length (law_text t)) (omega (arith, e')))))

    pub short-waits : length waits < b → writing (Err refusal.Short) text waits ≡ write_pddl t text waits
    short-waits h =
        means 0 true c'
        (sym (or_right (ltb (length text) (length (law_text t))) (ltb (length waits) (length (waits_text t)))
        (lt-ltb (length waits) (length (waits_text t)) (omega (arith, f')))))

    pub both-written : a ≤ length text → b ≤ length waits → (text' waits' : List ℕ)
        → text' ≡ padded (length text) (law_text u) → waits' ≡ padded (length waits) (waits_text u)
        → writing (Ok (record { of_text = a; of_waits = b })) text' waits' ≡ write_pddl t text waits
    both-written h l text' waits' p q = rw (p, q, same, e', f')
        (means 0 false c'
        (sym (rw (
          le-ltb (length text) (length (law_text t)) (omega (arith, e')),
          le-ltb (length waits) (length (waits_text t)) (omega (arith, f')),
        ))))
