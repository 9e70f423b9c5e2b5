-- A list of picks on a run: what each answers, as a number, and what the run and the lent slice of answers then hold.
use Rattle.std.specs.Prelude.{◌≡◌, List, [], ◌∷◌, ℕ, length, ltb}
use Rattle.semantics.specs.Base as Base
use Rattle.semantics.specs.Base.{◌if◌, ◌else◌, refused, gives, ◌leaves◌otherwise◌}
use Rattle.semantics.specs.Task.{members}
use Rattle.semantics.specs.System.{system, waits}
use Rattle.semantics.specs.Run as Paper
use Rattle.semantics.specs.Run.{pass_over, pick, plans_of, run_refusal}
use Rattle.semantics.specs.Dispatch.{Numbered, counts, play_numbered}
use Rattle.refusal.specs.Number.{code}
use Rattle.run_pick.specs.Value.{replies}
use Rattle.run_ticket.specs.Value.{numbered_of}
use Rattle.run_play.specs.declared.Played.{Played}

-- a pick's answer as a number: 0 go, 1 collision, else the refusal
abbrev pub number_in : Base.Answer Paper.Reply → ℕ
number_in (refused k) = k
number_in (gives Paper.goes) = 0
number_in (gives (Paper.collides m)) = 1

-- the first list over the front of the second, as much of it as the second holds
unfoldable pub over : List ℕ → List ℕ → List ℕ
over [] ys = ys
over (x ∷ xs) [] = []
over (x ∷ xs) (y ∷ ys) = x ∷ over xs ys

module _ (t plans ends : List ℕ) where
  abbrev pub pick_from : Numbered ℕ → ℕ → Base.Answer (Paper.Replied (Numbered ℕ))
  pick_from d j = counts d (pick (system t) (waits t) (plans_of (members t) plans ends) d.run j)

  abbrev pub play_from : Numbered ℕ → List ℕ → Numbered ℕ
  play_from d picks = play_numbered (system t) (waits t) (plans_of (members t) plans ends) d picks

  -- what each pick answers, where the last one left the run
  unfoldable pub told : Numbered ℕ → List ℕ → List ℕ
  told d [] = []
  told d (j ∷ js) = number_in (replies (pick_from d j)) ∷ told (pass_over d (pick_from d j)) js

  -- 14 for fewer answers than picks; then the refusals of any run handed in
  abbrev pub play_refusal : Numbered ℕ → List ℕ → List ℕ → ℕ
  play_refusal d picks before = (14 if ltb (length before) (length picks)) else run_refusal t plans ends d.run

  -- the picks' answers at the front of the slice, the rest as it was
  abbrev pub answered : Numbered ℕ → List ℕ → List ℕ → List ℕ
  answered d picks before = over (told d picks) before

  -- refused with this number, where there is one: the run and the slice are then as they were
  pub record PlayMeans (refuses : ℕ) (d : Numbered ℕ) (picks before : List ℕ) (p : Played)
      (after : List ℕ) : Type 0 where
    pub refusal : code p.answer ≡ refuses
    pub run : numbered_of p.run ≡ (refuses leaves (λ k. d) otherwise play_from d picks)
    pub answers : after ≡ (refuses leaves (λ k. before) otherwise answered d picks before)
