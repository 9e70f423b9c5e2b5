-- What a collision tells (request F-6) are just the preconditions that are missing, and there are some. Assumes nothing.
use mathlib.Core.Path.{◌≡◌, refl, sym, ap, subst, ◌∙◌}
use mathlib.Core.Bool.{true, not, ◌&&◌}
use mathlib.Core.List.{List}
use Prim.Native.Nat.{ℕ}
use borrow.Author.Tests.{not-true}
use Rattle.semantics.specs.Base.{Answer, refused, gives}
use Rattle.semantics.specs.Mask.{has}
use Rattle.semantics.specs.Task.{pre, wait, members}
use Rattle.semantics.specs.System.{system, waits}
use Rattle.semantics.specs.Step.{Decision, routine, step_refusal, step}
use Rattle.semantics.specs.Run.{Run, Reply, Replied, Outcome, Replay, advance, plans_of, joint_replay}
use Rattle.semantics.specs.Dispatch.{Numbered, Ticket, Asked, ticketed, next_step, ask_on, pick_numbered, commit_on}
use Rattle.semantics.specs.Model.{FactSet, ◌⊆◌, World, Collides, collides, unmet, Lacks}
use Rattle.semantics.specs.Demands.{facts_of, setting, world_in, OutcomeOf, Ends, ticket_of, does, Missing, PendingMisses}
use Rattle.semantics.specs.Demands.{ReplayMisses, MissingNamed}
use Rattle.theory.proofs.Lists.{apart, true-not-false, not-true-false, not-false-true, and_elim, and_intro}
use Rattle.theory.proofs.Refusals.{refused-gives, gives_inj, unless-gives}
use Rattle.theory.proofs.Masks.{zero_has, some-fact}
use Rattle.theory.proofs.Counts.{Counted, counting}
use Rattle.theory.proofs.Tickets.{tickets}
use Rattle.theory.proofs.Demand3.{demand3}
use Rattle.theory.proofs.Agrees.Ask.{ask_agrees_lem, ask_fits, fits_ask}
use Rattle.theory.proofs.Agrees.Joint.{joint_replay_agrees_lem}
use Rattle.theory.proofs.Agrees.Step.{step_agrees_lem}

module _ (t : List ℕ) where
  -- the facts of a collision
  missing : (a g m : ℕ) → (setting t).waitfor a ⊆ facts_of g → ¬ ((setting t).pre a ⊆ facts_of g)
      → facts_of m ≡ unmet (setting t) a (facts_of g) → Missing t a g m
  missing a g m w n e =
      record {
        some =
            some-fact m (λ z. n (λ f h. not-false-true (has f g) (λ b.
            true-not-false (and_intro h (ap not b)) (sym (is f) ∙ ap (has f) z ∙ zero_has f))));
        needed = λ f h. (parts f h).0;
        absent = λ f h. not-true (has f g) (parts f h).1;
        all = λ f h b. is f ∙ and_intro h (ap not b);
        unwaited = λ f h.
            not-true-false (has f (wait t a)) (λ q. true-not-false (w f q) (not-true (has f g) (parts f h).1));
      }
    where
      is : (f : ℕ) → has f m ≡ (has f (pre t a) && not (has f g))
      is f = ap (λ (A : FactSet). A f) e

      parts : (f : ℕ) → has f m ≡ true → (has f (pre t a) ≡ true) × (not (has f g) ≡ true)
      parts f h = and_elim (has f (pre t a)) (not (has f g)) (sym (is f) ∙ h)

  -- those of a pending action
  pending : (w : World (setting t)) (j g m : ℕ) → Collides (setting t) w j → Lacks (setting t) w j (facts_of m)
      → w.state ≡ facts_of g → PendingMisses t w j g m
  pending w j g m (collides {a = a} {π = π} l left asks lacks) (b, ρ, left', e) s =
      let q : b ≡ a = cc in (
        a,
        π,
        left,
        s,
        missing a g m (subst (λ (A : FactSet). (setting t).waitfor a ⊆ A) s asks)
            (λ h. lacks (subst (λ (A : FactSet). (setting t).pre a ⊆ A) (sym s) h))
            (e ∙ ap (λ (x : ℕ). unmet (setting t) x w.state) q ∙ ap (unmet (setting t) a) s),
      )

  in_step_lem : (a g m : ℕ) → step t a g ≡ gives (Decision.collision m) → Missing t a g m
  unfolding step
  in_step_lem a g m e =
      let none = (unless-gives (step_refusal t a g) (gives (routine (system t) (waits t) a g)) e).0 in
      let (w, n, f) = ((step_agrees_lem t a g none).collides m).0 e in
      missing a g m w n f

  module _ (plans ends : List ℕ) (d : Numbered ℕ) where
    in_ask_lem : (j m : ℕ) (k : Ticket) → ask_on t plans ends d j ≡ gives (record { decision = Decision.collision m; ticket = k })
        → PendingMisses t (world_in t plans ends d.run) j d.run.shared m
    in_ask_lem j m k e =
        let fits = ask_fits t plans ends d j (record { decision = Decision.collision m; ticket = k }) e in
        let own = own-ticket (next_step (system t) (waits t) (plans_of (members t) plans ends) d.run j)
        (sym (fits_ask t plans ends d j fits) ∙ e) in
        let (c, crash, lack) = ((ask_agrees_lem t plans ends d j fits).collides m).0
        (e ∙ ap (λ (x : Ticket). gives (record { decision = Decision.collision m; ticket = x })) own) in
        pending (world_in t plans ends d.run) j d.run.shared m crash lack refl
      where
        own-ticket : (x : Answer (Decision ℕ))
            → ticketed (ticket_of d j) x ≡ gives (record { decision = Decision.collision m; ticket = k })
            → k ≡ ticket_of d j
        own-ticket (refused n) q = absurd (refused-gives q)
        own-ticket (gives s) q = ap (λ (x : Asked ℕ). x.ticket) (sym (gives_inj q))

    -- what is done with this reply is a collision
    does-collides : (j m : ℕ) (e : Numbered ℕ) (s : Decision ℕ)
        → does d j s ≡ gives (record { reply = Reply.collides m; run = e }) → s ≡ Decision.collision m
    does-collides j m e s q = at s (advance d.run j s) refl (counts-by q)
      where
        counts-by : does d j s ≡ gives (record { reply = Reply.collides m; run = e })
            → (p : Replied (Run ℕ)) × (advance d.run j s ≡ gives p) × (p.reply ≡ Reply.collides m)
        counts-by = by (counting d (advance d.run j s))
          where
            by : {x : Answer (Replied (Run ℕ))} {y : Answer (Replied (Numbered ℕ))} → Counted d x y
                → y ≡ gives (record { reply = Reply.collides m; run = e })
                → (p : Replied (Run ℕ)) × (x ≡ gives p) × (p.reply ≡ Reply.collides m)
            by Counted.none h = absurd (refused-gives h)
            by (Counted.full f) h = absurd (refused-gives h)
            by (Counted.done {p = p} f) h = (p, refl, ap (λ (x : Replied (Numbered ℕ)). x.reply) (gives_inj h))

        at : (s : Decision ℕ) (x : Answer (Replied (Run ℕ))) → advance d.run j s ≡ x
            → ((p : Replied (Run ℕ)) × (x ≡ gives p) × (p.reply ≡ Reply.collides m)) → s ≡ Decision.collision m
        at (Decision.go g) x h (p, z, r) = absurd (apart (cc))
        at Decision.wait x h (p, z, r) = absurd (apart (cc))
        at (Decision.collision n) x h (p, z, r) = ap (λ (y : ℕ). Decision.collision y) (cc)

    in_commit_lem : (e : Numbered ℕ) (k : Ticket) (m : ℕ)
        → commit_on t plans ends d k ≡ gives (record { reply = Reply.collides m; run = e })
        → PendingMisses t (world_in t plans ends d.run) k.member d.run.shared m
    in_commit_lem e k m h =
        let (s, asked, done) = (tickets t plans ends d).answers k (record { reply = Reply.collides m; run = e }) h in
        in_ask_lem k.member m k
        (asked ∙ ap (λ (x : Decision ℕ). gives (record { decision = x; ticket = k })) (does-collides k.member m e s done))

    in_pick_lem : (e : Numbered ℕ) (j m : ℕ) → pick_numbered t plans ends d j ≡ gives (record { reply = Reply.collides m; run = e })
        → PendingMisses t (world_in t plans ends d.run) j d.run.shared m
    in_pick_lem e j m h = in_commit_lem e (ticket_of d j) m ((tickets t plans ends d).is_pick j ∙ h)

  in_replay_lem : (plans ends picks : List ℕ) (a : Replay ℕ) → joint_replay t plans ends picks ≡ gives a
      → ReplayMisses t plans ends picks a
  in_replay_lem plans ends picks a e =
      let agrees = joint_replay_agrees_lem t plans ends in
      ended ((agrees.replays (agrees.answers picks a e) picks a.outcome a.shared a.picked a.missing).0 e)
    where
      ended : {o : Outcome} {g k m : ℕ} {js : List ℕ} → Ends t (plans_of (members t) plans ends) js o g k m
          → ReplayMisses t plans ends js (record { outcome = o; shared = g; picked = k; missing = m })
      ended (Ends.ends {w = w} x s e) =
          record { collision = λ q. absurd (subst (OutcomeOf t w) q s); other = λ n. refl }
      ended (Ends.collided {picks = is} {i = i} {g = g} {m = m} {w = w} x c l e) =
          record {
            collision = λ q. (is, i, w, refl, x, pending w i g m c l e);
            other = λ n. absurd (n refl);
          }

pub missing-named : (t : List ℕ) → MissingNamed t
missing-named t =
    record {
      in_step = in_step_lem t;
      in_ask = λ plans ends d j m k e. in_ask_lem t plans ends d j m k e;
      in_pick = λ plans ends d e j m h. in_pick_lem t plans ends d e j m h;
      in_commit = λ plans ends d e k m h. in_commit_lem t plans ends d e k m h;
      in_replay = in_replay_lem t;
      in_conflict = λ room c e.
          let r = (demand3 t room).not_robust c e in
          (r.shared, in_replay_lem t _ _ _ _ r.replays);
    }
