-- Source: own.
-- Whoever waits for an answer has it: the points of a talk at which its input was read.
use Rattle.std.specs.Prelude.{◌≡◌, ℕ, ◌+◌, ◌≤◌, List, ◌++◌, length, map}
use Rattle.boss_model.specs.Lines.{whole_lines}
use Rattle.boss_outside.specs.declared.source.ReadAt.{ReadAt}
use Rattle.def_connection.specs.Losing.{spoken_of}
use Rattle.def_connection.specs.Speech.{Speech, Exchange, line_in, text_in}

-- At this read each line that had come whole, and is not passed over, had its reply, and these replies were among the bytes that the
-- sink had taken; so many it had taken when the talk began
pub record IsAnswered (speech : Speech) (bytes : List ℕ) (begun : ℕ) (talk : List Exchange) (at : ReadAt) : Type 0 where
  pub come : List ℕ
  pub rest : List ℕ
  pub split : bytes ≡ come ++ rest
  pub left : at.left ≡ length rest
  pub front : List Exchange
  pub back : List Exchange
  pub talk_is : talk ≡ front ++ back
  pub lines : spoken_of (whole_lines come) ≡ map line_in front
  pub told : begun + length (text_in speech front) ≤ at.told
