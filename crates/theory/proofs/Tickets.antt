-- Ask, then commit: calls on one run leave what the picks done among them leave, and a ticket is good until a pick is
-- done. Assumes nothing.
use mathlib.Core.Path.{◌≡◌, refl, sym, ap, ◌∙◌}
use mathlib.Core.Bool.{Bool, true, false, not}
use mathlib.Core.List.{List, [], ◌∷◌}
use Prim.Native.Nat.{ℕ, zero, suc, ◌<◌}
use native.Mathlib.Omega.{arith}
use lib.ListN.{length}
use lib.Dec.{ltb}
use borrow.Author.Tests.{eq-eqb, ne_eqb, lt-ltb, ltb-false}
use Rattle.semantics.specs.Base.{◌if◌, ◌else◌, Answer, refused, gives, unless}
use Rattle.semantics.specs.Task.{members}
use Rattle.semantics.specs.System.{system, waits}
use Rattle.semantics.specs.Step.{Decision}
use Rattle.semantics.specs.Run.{Run, Replied, run_refusal, pick_on}
use Rattle.semantics.specs.Dispatch.{Numbered, counts, Ticket, Asked, ticketed, next_step, pick_numbered, ask_on, commit_on}
use Rattle.semantics.specs.Demands.{ticket_of, Call, calls, doing, does, TicketGood, Tickets}
use Rattle.theory.proofs.Refusals.{refused-gives, gives_inj}
use Rattle.theory.proofs.Picks.{advanced, pick_next, Next, next, next-nobody}
use Rattle.theory.proofs.Agrees.Pick.{fits-passes}
use Rattle.theory.proofs.Agrees.Ask.{ask_fits, fits_ask}
use Rattle.theory.proofs.Fits.{fits-pick-numbered}
use Rattle.theory.proofs.Calls.{P, pick_p, Fits, pick-done, commit_pick, alone, fits-calls}

module _ (t plans ends : List ℕ) where
  -- ---- asks and tickets of one run

  module _ (d : Numbered ℕ) where
    abbrev its : ℕ → Answer (Decision ℕ)
    its j = next_step (system t) (waits t) (P t plans ends) d.run j

    -- with the run's change number a commit is a pick
    is-pick : (j : ℕ) → commit_on t plans ends d (ticket_of d j) ≡ pick_numbered t plans ends d j
    unfolding commit_on pick_numbered pick_on
    is-pick j =
        rw (eq-eqb d.change d.change refl)
        (at (run_refusal t plans ends d.run) (ltb j (members t)) (pick_p t plans ends d.run j)
        (λ e. pick_next (system t) (waits t) (P t plans ends) d.run j
        ∙ ap (advanced d.run j) (next-nobody (system t) (waits t) (P t plans ends) d.run j (ltb-false j (members t) e))))
      where
        at : (r : ℕ) (b : Bool) (x : Answer (Replied (Run ℕ))) → (b ≡ false → x ≡ refused 8)
            → unless (r else (8 if not b) else 0) (counts d (unless r x)) ≡ counts d (unless r x)
        at (suc r) b x h = refl
        at zero true x h = refl
        at zero false x h = sym (ap (counts d) (h refl))

    -- a pick does what the next step answers
    pick-does : Fits t plans ends d → (j : ℕ) (s : Decision ℕ) → its j ≡ gives s
        → pick_numbered t plans ends d j ≡ does d j s
    pick-does f j s e =
        fits-pick-numbered t plans ends d f j
        ∙ ap (counts d) (pick_next (system t) (waits t) (P t plans ends) d.run j ∙ ap (advanced d.run j) e)

    -- what an ask that answers says
    record Told (j : ℕ) (a : Asked ℕ) : Type 0 where
      fits : Fits t plans ends d
      member : j < members t
      decision : its j ≡ gives a.decision
      ticket : a.ticket ≡ ticket_of d j

    told : (j : ℕ) (a : Asked ℕ) → ask_on t plans ends d j ≡ gives a → Told j a
    told j a e =
        let f = ask_fits t plans ends d j a e in
        at f (next (system t) (waits t) (P t plans ends) d.run j) refl (sym (fits_ask t plans ends d j f) ∙ e)
      where
        at : {x : Answer (Decision ℕ)} → Fits t plans ends d → Next (system t) (waits t) (P t plans ends) d.run j x → its j ≡ x
            → ticketed (ticket_of d j) x ≡ gives a → Told j a
        at f (Next.nobody h) q e = absurd (refused-gives e)
        at f (Next.closed h c) q e = absurd (refused-gives e)
        at f (Next.over h c l) q e = absurd (refused-gives e)
        at f (Next.decides h c l) q e =
            let same = gives_inj e in
            record {
              fits = f;
              member = h;
              decision = q ∙ ap (λ (x : Asked ℕ). gives x.decision) same;
              ticket = ap (λ (x : Asked ℕ). x.ticket) (sym same);
            }

    -- after a pick the ticket is refused; until then it does what the ask answered
    late : Fits t plans ends d → (j : ℕ) → j < members t → (cs : List Call) → ¬ (doing t plans ends d cs ≡ [])
        → commit_on t plans ends (calls t plans ends d cs) (ticket_of d j) ≡ refused 19
    unfolding commit_on
    late f j h cs n =
        rw (
          fits-passes t plans ends (calls t plans ends d cs).run (fits-calls t plans ends d f cs),
          lt-ltb j (members t) h,
          ne_eqb d.change (calls t plans ends d cs).change
              (λ q. omega (arith, q, (alone t plans ends d cs).counted, some (doing t plans ends d cs) n)),
        )
      where
        some : (xs : List Call) → ¬ (xs ≡ []) → 0 < length xs
        some [] n = absurd (n refl)
        some (x ∷ xs) n = omega arith

    good : (j : ℕ) (a : Asked ℕ) → ask_on t plans ends d j ≡ gives a → (cs : List Call) → TicketGood t plans ends d a cs
    unfolding calls
    good j a e cs =
        record {
          fresh = λ q. (alone t plans ends d cs).leaves ∙ ap (calls t plans ends d) q;
          committed =
              rw its-told.ticket (is-pick j ∙ pick-does its-told.fits j a.decision its-told.decision);
          stale = λ n. rw its-told.ticket (late its-told.fits j its-told.member cs n);
        }
      where
        its-told : Told j a
        its-told = told j a e

    -- a commit that is not refused does what an ask of its member answers
    answers : (k : Ticket) (p : Replied (Numbered ℕ)) → commit_on t plans ends d k ≡ gives p
        → (s : Decision ℕ)
        × (ask_on t plans ends d k.member ≡ gives (record { decision = s; ticket = k }))
        × (does d k.member s ≡ gives p)
    answers k p e = at (its k.member) refl
      where
        number : k.change ≡ d.change
        number = (commit_pick t plans ends d k p e).0

        made : pick_numbered t plans ends d k.member ≡ gives p
        made = (commit_pick t plans ends d k p e).1

        fits : Fits t plans ends d
        fits = (pick-done t plans ends d k.member p made).fits

        its-ticket : ticket_of d k.member ≡ k
        its-ticket = ap (λ (n : ℕ). record { member = k.member; change = n }) (sym number)

        at : (x : Answer (Decision ℕ)) → its k.member ≡ x
            → (s : Decision ℕ)
            × (ask_on t plans ends d k.member ≡ gives (record { decision = s; ticket = k }))
            × (does d k.member s ≡ gives p)
        at (refused n) q =
            absurd
            (refused-gives
            (ap (λ (x : Answer (Decision ℕ)). counts d (advanced d.run k.member x)) (sym q)
            ∙ ap (counts d) (sym (pick_next (system t) (waits t) (P t plans ends) d.run k.member))
            ∙ sym (fits-pick-numbered t plans ends d fits k.member)
            ∙ made))
        at (gives s) q = (
          s,
          fits_ask t plans ends d k.member fits
              ∙ ap (ticketed (ticket_of d k.member)) q
              ∙ ap (λ (x : Ticket). gives (record { decision = s; ticket = x })) its-ticket,
          sym (pick-does fits k.member s q) ∙ made,
        )

pub tickets : (t plans ends : List ℕ) (d : Numbered ℕ) → Tickets t plans ends d
tickets t plans ends d =
    record {
      alone = alone t plans ends d;
      good = good t plans ends d;
      answers = answers t plans ends d;
      is_pick = is-pick t plans ends d;
    }
