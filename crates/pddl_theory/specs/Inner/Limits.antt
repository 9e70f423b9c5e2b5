-- The most that a law may have.
use Rattle.std.specs.Prelude.{ℕ}

abbrev pub most_facts : ℕ
most_facts = 128
