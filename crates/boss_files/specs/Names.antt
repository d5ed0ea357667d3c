-- Source: own.
use Rattle.std.specs.Prelude.{ℕ, List, ◌++◌, codes}

-- the name of a journal's second file
abbrev pub second_name : List ℕ → List ℕ
second_name journal = journal ++ codes ".b"
