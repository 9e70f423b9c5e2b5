-- A call of the C interface: the number that it returns, and what `out` holds afterwards.
use Rattle.std.specs.Prelude.{◌≡◌, Bool, true, false, List, ℕ}
use Rattle.semantics.specs.Base.{Answer, refused, gives, front}
use Rattle.semantics.specs.Verdict.{Verdict, Failing, Slices, VerdictMeans}

pub record Call : Type 0 where
  pub returned : ℕ
  pub out : List ℕ

abbrev pub call : ℕ → List ℕ → Call
call returned out = record { returned = returned; out = out }

-- a refusal, and `out` as it was; or 0, and the answer's numbers at the front of `out`
abbrev pub told : {A : Type 0} → (A → List ℕ) → List ℕ → Answer A → Call
told numbers out (refused k) = call k out
told numbers out (gives a) = call 0 (front (numbers a) out)

-- the call, unless a slice is shorter than stated: 14, and every slice as it was
abbrev pub unless_short : {A : Type 0} → Bool → A → A → A
unless_short true before after = before
unless_short false before after = after

abbrev pub called : {A : Type 0} → Bool → (A → List ℕ) → List ℕ → Answer A → Call
called short numbers out answer = unless_short short (call 14 out) (told numbers out answer)

-- the same of the verdict, whose trail is free
abbrev pub VerdictCall : Bool → List ℕ → Slices → Slices → (Verdict Failing → List ℕ) → List ℕ → Call → Type 0
VerdictCall true t before after numbers out c = (c ≡ call 14 out) × (after ≡ before)
VerdictCall false t before after numbers out c =
    (answer : Answer (Verdict Failing)) × VerdictMeans t before after answer × (c ≡ told numbers out answer)
