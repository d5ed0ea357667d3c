-- Source: own.
use Rattle.std.specs.Prelude.{◌≡◌, ℕ, ◌≤◌, List, length, drop, Option, Some}
use Rattle.boss_lines.specs.declared.reader.Next.{Next}
use Rattle.boss_model.specs.Limits.{longest_line}
use Rattle.boss_lines.specs.Lines.{LeavesAhead}

-- what holds of the parts of a reader: the line and its end lie in the window, and it stopped only where a reader may
pub record IsSound (window : List ℕ) (line used : ℕ) (stopped : Option Next) : Type 0 where
  pub short : line ≤ longest_line
  pub within : line ≤ used
  pub held : used ≤ length window
  pub leaves : (answer : Next) → stopped ≡ Some answer → LeavesAhead (drop used window) answer
