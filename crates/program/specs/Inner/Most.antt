-- The room for the longest verdict file.
use Rattle.std.specs.Prelude.{ℕ, ◌+◌}
use Rattle.report.specs.Inner.Put.{most_file, most_facts}

-- the bytes of the longest file: the verdict's line, a line for each of 128 facts, eight plan lines, and lines for as
-- many actions and picks as the slices hold
abbrev pub most_bytes : ℕ
most_bytes = most_file (1 + most_facts + 8 + 4096 + 2048)
