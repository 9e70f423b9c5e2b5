-- Offsets into a text of PDDL.
use Rattle.std.specs.Prelude.{List, [], map, ℕ, drop}
use Rattle.std.proofs.Math.Seq.{slice}
use Rattle.semantics.specs.Pddl.{Token, Parsed, outside, parsed, ◌then◌, small, tokens}

-- the tokens from an offset on
abbrev pub rest : List ℕ → ℕ → List Token
rest text at = tokens (drop at text)

-- the bytes from offset s up to e, in small letters
abbrev pub span : List ℕ → ℕ → ℕ → List ℕ
span text s e = map small (slice s e text)

-- a reading without its value
abbrev pub leaves : {A : Type 0} → Parsed A → Parsed (Unit {0})
leaves p = p then λ _ ts. parsed tt ts

-- the value of a reading of a list; none outside
abbrev pub items : {A : Type 0} → Parsed (List A) → List A
items outside = []
items (parsed xs ts) = xs
