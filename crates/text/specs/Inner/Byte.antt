-- What the byte reader's answer says of the byte.
use Rattle.std.specs.Prelude.{◌≡◌, true, false, ℕ, ◌-◌}
use Rattle.semantics.specs.Text.{comma, cr, lf, is_digit}
use Rattle.text.specs.declared.Byte.{Byte}
use Rattle.text.specs.declared.Byte.TheVariants.{Digit, Comma, Cr, Lf, Other}

abbrev pub ByteMeans : ℕ → Byte → Type 0
ByteMeans b (Digit d) = (is_digit b ≡ true) × (d ≡ b - 48)
ByteMeans b Comma = b ≡ comma
ByteMeans b Cr = b ≡ cr
ByteMeans b Lf = b ≡ lf
ByteMeans b Other = (is_digit b ≡ false) × (b ≡ comma → ⊥) × (b ≡ cr → ⊥) × (b ≡ lf → ⊥)
