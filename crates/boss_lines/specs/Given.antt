-- Source: own.
-- The lines that were given of a source, and what was read of it.
use Rattle.std.specs.Prelude.{◌≡◌, ℕ, ◌<◌, List, [], ◌∷◌, ◌++◌, length, take}
use Rattle.boss_model.specs.Limits.{longest_line}
use Rattle.boss_model.specs.Lines.{lines, whole_lines}
use Rattle.boss_lines.specs.declared.reader.Next.{Next}
use Rattle.boss_lines.specs.declared.reader.Next.TheVariants.{Line, Finish, TooLong, ReadFault}

-- of all these lines the first were given, and the next is too long
abbrev pub BreaksOff : List (List ℕ) → List (List ℕ) → Type 0
BreaksOff all given = (line : List ℕ) × (more : List (List ℕ)) × (all ≡ given ++ line ∷ more) × (longest_line < length line)

-- Which lines are given before an answer, where so many may be: all at the end; where one is too long, those before it, and it
-- is among the bytes that were read; where a read failed, those that had come whole; and else as many as may be, of more.
abbrev pub Gives : ℕ → List ℕ → List ℕ → List ℕ → List (List ℕ) → Next → Type 0
Gives limit bytes read left given Line = (given ≡ take limit (lines bytes)) × (limit < length (lines bytes))
Gives limit bytes read left given Finish = (given ≡ lines bytes) × (left ≡ [])
Gives limit bytes read left given TooLong = BreaksOff (lines bytes) given × BreaksOff (lines read) given
Gives limit bytes read left given ReadFault = given ≡ whole_lines read

-- some of the bytes of a source were read, and of these lines were given, and then came this answer
pub record GivesLines (limit : ℕ) (bytes left : List ℕ) (given : List (List ℕ)) (answer : Next) : Type 0 where
  pub read : List ℕ
  pub split : bytes ≡ read ++ left
  pub gives : Gives limit bytes read left given answer
