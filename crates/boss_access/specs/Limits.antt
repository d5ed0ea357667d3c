-- Source: own.
-- The limits of access rules. `src/limits.rt` has the same numbers for the program.
use Rattle.std.specs.Prelude.{ℕ}

-- rules of a file: each write of a submit is held against them, one after another, until one is for it
abbrev pub most_rules : ℕ
most_rules = 256

-- characters before the `*` of a pattern: the longest name has one more
abbrev pub longest_beginning : ℕ
longest_beginning = 63
