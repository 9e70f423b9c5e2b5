-- A pick agrees with the model: a run stands for a world, and a pick is what the scheduler's choice makes of it.
use mathlib.Core.Path.{◌≡◌, refl, sym, ap, subst, ◌∙◌, fun_ext}
use mathlib.Core.Bool.{Bool, true, false, not, false≢true}
use mathlib.Core.Logic.{inl, inr, ⊎_elim}
use mathlib.Core.List.{List, ◌∷◌}
use Prim.Native.Nat.{ℕ, ◌<◌}
use native.Mathlib.Omega.{arith}
use lib.Dec.{eqb, ltb}
use lib.ListN.{length}
use borrow.Author.Tests.{eqb-true, eqb-false, ltb-false, le-ltb}
use Rattle.semantics.specs.Base.{up_to, ◌if◌, Answer, refused, gives}
use Rattle.semantics.specs.Mask.{below}
use Rattle.semantics.specs.Task as Task
use Rattle.semantics.specs.System.{able, result_of, missing, system, waits}
use Rattle.semantics.specs.Run.{Run, Fault, not_yet, by, is_closed, Reply, Replied, rest, stepped, closed_by, pick}
use Rattle.semantics.specs.Run.{lacked_by, plan_of, plans_of, plans_refusal, run_refusal, pick_on}
use Rattle.semantics.specs.Model.{World, leaving, apply, Acts, acts, Collides, Lacks, Waiting}
use Rattle.semantics.specs.Demands.{facts_of, setting, world_at, world_in, Stays, RunFits, PickAgrees}
use Rattle.theory.proofs.Lists.{apart, any_false, false-any, up_to_mem, mem_up_to}
use Rattle.theory.proofs.Refusals.{else_both, if_false, if_not-true, refused-gives, gives_inj, unless-gives}
use Rattle.theory.proofs.Attempts.{able-sub, unable_not-sub}
use Rattle.theory.proofs.Picks as Pick
use Rattle.theory.proofs.Picks.{closed_open, rest-picked, rest-others}
use Rattle.theory.proofs.Agrees.Step.{facts-result, facts-missing, same-facts, asks-within, waits_lack}
use Rattle.theory.proofs.Agrees.Worlds.{moves_agent, moves-stays, acts-collides, acts_unique, lacks_unique}

-- a run that goes on is not closed
abbrev pub Going : Run ℕ → Type 0
Going r = r.closed ≡ not_yet

-- what the answer of a pick says
pub data Picked (t : List ℕ) (plans : List (List ℕ)) (r : Run ℕ) (j : ℕ) : Answer (Replied (Run ℕ)) → Type 0 where
  goes : {r' : Run ℕ} → Going r' → Acts (setting t) (world_at t plans r) j (world_at t plans r')
      → Picked t plans r j (gives (record { reply = Reply.goes; run = r' }))
  collides : {r' : Run ℕ} {m : ℕ} → r'.closed ≡ by Fault.collision → r'.shared ≡ r.shared
      → Collides (setting t) (world_at t plans r) j
      → Lacks (setting t) (world_at t plans r) j (facts_of m)
      → Picked t plans r j (gives (record { reply = Reply.collides m; run = r' }))
  impossible : {e : ℕ} → (j < Task.members t → Stays (setting t) (world_at t plans r) j) → Picked t plans r j (refused e)

module _ (t : List ℕ) (plans : List (List ℕ)) (r : Run ℕ) (going : Going r) (j : ℕ) where
  gone-rest : j < Task.members t → (g : ℕ) {a : ℕ} {π : List ℕ} → rest plans r j ≡ a ∷ π
      → (m : ℕ) → rest plans (stepped r j g) m ≡ leaving (setting t) j π (rest plans r) m
  gone-rest member g {a} {π} e m = at (eqb m j) refl
    where
      at : (b : Bool) → eqb m j ≡ b → rest plans (stepped r j g) m ≡ leaving (setting t) j π (rest plans r) m
      at true q = rw (q, eqb-true m j q) (rest-picked plans r j g e)
      at false q = rw q (rest-others plans r j g m (eqb-false m j q))

  gone-world : j < Task.members t → (a : ℕ) (π : List ℕ) → rest plans r j ≡ a ∷ π → able (system t) a r.shared ≡ true
      → ◌≡◌ {A = World (setting t)}
      (world_at t plans (stepped r j (result_of (system t) a r.shared)))
      (record { state = apply (setting t) a (facts_of r.shared); left = leaving (setting t) j π (rest plans r) })
  gone-world member a π e b =
      let left = fun_ext (gone-rest member (result_of (system t) a r.shared) e) in
      let state = facts-result t a r.shared b in
      λ i. record { state = state i; left = left i }

  -- what the pending action does, that the scheduler's choice of the agent meets
  module _ {a : ℕ} {π : List ℕ} (member : j < Task.members t) (left : rest plans r j ≡ a ∷ π) where
    pub its-acts : waits t a r.shared ≡ false → able (system t) a r.shared ≡ true
        → Acts (setting t) (world_at t plans r) j (world_at t plans (stepped r j (result_of (system t) a r.shared)))
    its-acts w b =
        subst (Acts (setting t) (world_at t plans r) j) (sym (gone-world member a π left b))
        (acts member left (asks-within t a r.shared w) (able-sub t a r.shared b))

    pub its-collides : waits t a r.shared ≡ false → able (system t) a r.shared ≡ false
        → Collides (setting t) (world_at t plans r) j
    its-collides w b =
        Collides.collides member left (asks-within t a r.shared w) (unable_not-sub t a r.shared b)

    pub its-lacks : able (system t) a r.shared ≡ false
        → Lacks (setting t) (world_at t plans r) j (facts_of (missing (system t) a r.shared))
    its-lacks b = (a, π, left, facts-missing t a r.shared b)

    pub its-waits : waits t a r.shared ≡ true → Waiting (setting t) (world_at t plans r) j
    its-waits w = Waiting.waiting left (waits_lack t a r.shared w)

  asked : (x : Answer (Replied (Run ℕ))) → Pick.Picked (system t) (waits t) plans r j x → Picked t plans r j x
  asked x (Pick.Picked.nobody h) = impossible (λ l. absurd (omega arith))
  asked x (Pick.Picked.closed h e) = absurd (closed_open e going)
  asked x (Pick.Picked.over h e left) = impossible (λ l. inr left)
  asked x (Pick.Picked.waits h e left w) = impossible (λ l. inl (its-waits h left w))
  asked x (Pick.Picked.goes h e left w b) = goes refl (its-acts h left w b)
  asked x (Pick.Picked.collides h e left w b) = collides refl refl (its-collides h left w b) (its-lacks h left b)

pub picked : (t : List ℕ) → (plans : List (List ℕ)) (r : Run ℕ) → Going r
    → (j : ℕ) → Picked t plans r j (pick (system t) (waits t) plans r j)
picked t plans r going j =
    asked t plans r going j (pick (system t) (waits t) plans r j) (Pick.picked (system t) (waits t) plans r j)

-- ---- the operation

module _ (t plans ends : List ℕ) (r : Run ℕ) where
  abbrev is_past : ℕ → Bool
  is_past j = ltb (length (plan_of plans ends j)) (r.places j)

  -- the run's check passes exactly when the run fits
  pub fits-passes : RunFits t plans ends r → run_refusal t plans ends r ≡ 0
  fits-passes f =
      rw (
        f.plans-fit,
        f.shared-fits,
        false-any is_past (up_to (Task.members t)) (λ j m. le-ltb _ _ (f.places-fit j (up_to_mem (Task.members t) m))),
      )

  pub passes-fits : run_refusal t plans ends r ≡ 0 → RunFits t plans ends r
  passes-fits e =
      let (p, q) = else_both (plans_refusal t plans ends) _ e in
      let (b, l) = else_both (4 if not (below (Task.facts t) r.shared)) _ q in
      record {
        plans-fit = p;
        shared-fits = if_not-true 3 _ b;
        places-fit = λ j m. ltb-false _ _ (any_false is_past (if_false 10 _ l) (mem_up_to m));
      }

module _ (t plans ends : List ℕ) (r : Run ℕ) (i : ℕ) where
  abbrev P : List (List ℕ)
  P = plans_of (Task.members t) plans ends

  abbrev W : World (setting t)
  W = world_in t plans ends r

  pub fits-pick : RunFits t plans ends r → pick_on t plans ends r i ≡ pick (system t) (waits t) P r i
  unfolding pick_on
  fits-pick f = rw (fits-passes t plans ends r f)

  pub pick-fits : (p : Replied (Run ℕ)) → pick_on t plans ends r i ≡ gives p → RunFits t plans ends r
  unfolding pick_on
  pick-fits p e =
      passes-fits t plans ends r (unless-gives (run_refusal t plans ends r) (pick (system t) (waits t) P r i) e).0

  -- what a pick that goes, one that collides and one of a member that stays say, each both ways
  goes-told : (g : ℕ) → pick_on t plans ends r i ≡ gives (record { reply = Reply.goes; run = stepped r i g })
      → i < Task.members t → r.closed ≡ not_yet
      → Acts (setting t) W i (world_in t plans ends (stepped r i g)) → PickAgrees t plans ends r i
  goes-told g e h c act =
      record {
        goes = λ g'. (
          λ q. let s : g ≡ g' = ap (λ (x : Replied (Run ℕ)). x.run.shared) (gives_inj (sym e ∙ q)) in
              (c, subst (λ (x : ℕ). Acts (setting t) W i (world_in t plans ends (stepped r i x))) s act),
          λ k.
              let s = same-facts g g'
              (ap (λ (w : World (setting t)). w.state) (acts_unique (setting t) W i act k.1)) in
              e ∙ ap (λ (x : ℕ). gives (record { reply = Reply.goes; run = stepped r i x })) s,
        );
        collides = λ m. (
          λ q. absurd (false≢true (ap (λ (x : Replied (Run ℕ)). is_closed x.run.closed) (gives_inj (sym e ∙ q)))),
          λ k. absurd (acts-collides (setting t) W i act k.1),
        );
        nobody = (λ q. absurd (refused-gives (sym q ∙ e)), λ k. absurd (k h));
        impossible = (
          λ q. absurd (refused-gives (sym q ∙ e)),
          λ k. absurd
              (⊎_elim (λ d. closed_open d c)
              (moves-stays (setting t) W i (inr (world_in t plans ends (stepped r i g), act))) k.1),
        );
      }

  collides-told : (m : ℕ)
      → pick_on t plans ends r i ≡ gives (record { reply = Reply.collides m; run = closed_by r Fault.collision })
      → i < Task.members t → r.closed ≡ not_yet → Collides (setting t) W i → Lacks (setting t) W i (facts_of m)
      → PickAgrees t plans ends r i
  collides-told m e h c crash lack =
      record {
        goes = λ g. (
          λ q. absurd (false≢true (ap (λ (x : Replied (Run ℕ)). is_closed x.run.closed) (gives_inj (sym q ∙ e)))),
          λ k. absurd (acts-collides (setting t) W i k.1 crash),
        );
        collides = λ m'. (
          λ q. let s : m ≡ m' = ap (λ (x : Replied (Run ℕ)). lacked_by x.reply) (gives_inj (sym e ∙ q)) in
              (c, crash, subst (λ (x : ℕ). Lacks (setting t) W i (facts_of x)) s lack),
          λ k. e ∙ ap (λ (x : ℕ). gives (record { reply = Reply.collides x; run = closed_by r Fault.collision }))
              (same-facts m m' (lacks_unique (setting t) W i lack k.2)),
        );
        nobody = (λ q. absurd (refused-gives (sym q ∙ e)), λ k. absurd (k h));
        impossible = (
          λ q. absurd (refused-gives (sym q ∙ e)),
          λ k. absurd (⊎_elim (λ d. closed_open d c) (moves-stays (setting t) W i (inl crash)) k.1),
        );
      }

  stays-told : pick_on t plans ends r i ≡ refused 13 → i < Task.members t → Stays (setting t) W i
      → PickAgrees t plans ends r i
  stays-told e h s =
      record {
        goes = λ g. (
          λ q. absurd (refused-gives (sym e ∙ q)),
          λ k. absurd (moves-stays (setting t) W i (inr (world_in t plans ends (stepped r i g), k.1)) s),
        );
        collides = λ m. (
          λ q. absurd (refused-gives (sym e ∙ q)),
          λ k. absurd (moves-stays (setting t) W i (inl k.1) s),
        );
        nobody = (λ q. absurd (apart (cc)), λ k. absurd (k h));
        impossible = (λ q. (h, inr s), λ k. e);
      }

  told : (x : Answer (Replied (Run ℕ))) → pick_on t plans ends r i ≡ x → Pick.Picked (system t) (waits t) P r i x
      → PickAgrees t plans ends r i
  told x e (Pick.Picked.nobody h) =
      let n : ¬ (i < Task.members t) = λ l. omega arith in
      record {
        goes = λ g. (
          λ q. absurd (refused-gives (sym e ∙ q)),
          λ k. absurd (n (moves_agent (setting t) W i (inr (world_in t plans ends (stepped r i g), k.1)))),
        );
        collides = λ m.
            (λ q. absurd (refused-gives (sym e ∙ q)), λ k. absurd (n (moves_agent (setting t) W i (inl k.1))));
        nobody = (λ q. n, λ k. e);
        impossible = (λ q. absurd (apart (cc)), λ k. absurd (n k.0));
      }
  told x e (Pick.Picked.closed h c) =
      record {
        goes = λ g. (λ q. absurd (refused-gives (sym e ∙ q)), λ k. absurd (closed_open c k.0));
        collides = λ m. (λ q. absurd (refused-gives (sym e ∙ q)), λ k. absurd (closed_open c k.0));
        nobody = (λ q. absurd (apart (cc)), λ k. absurd (k h));
        impossible = (λ q. (h, inl c), λ k. e);
      }
  told x e (Pick.Picked.over h c left) = stays-told e h (inr left)
  told x e (Pick.Picked.waits h c left w) = stays-told e h (inl (its-waits t P r c i h left w))
  told x e (Pick.Picked.goes {a = a} h c left w b) =
      goes-told (result_of (system t) a r.shared) e h c (its-acts t P r c i h left w b)
  told x e (Pick.Picked.collides {a = a} h c left w b) =
      collides-told (missing (system t) a r.shared) e h c (its-collides t P r c i h left w b)
      (its-lacks t P r c i h left b)

pub pick_agrees_lem : (t plans ends : List ℕ) (r : Run ℕ) (i : ℕ) → RunFits t plans ends r → PickAgrees t plans ends r i
pick_agrees_lem t plans ends r i f =
    told t plans ends r i
    (pick (system t) (waits t) (plans_of (Task.members t) plans ends) r i) (fits-pick t plans ends r i f)
    (Pick.picked (system t) (waits t) (plans_of (Task.members t) plans ends) r i)
