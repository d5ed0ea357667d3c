-- Source: own.
use Rattle.std.specs.Prelude.{◌≡◌, ◌⊎◌, ℕ, ◌+◌, ◌<◌, ◌≤◌, ◌==◌, Bool, false, List, [], ◌∷◌, ◌++◌, length, take, Option, Some, None}
use Rattle.std.specs.List.{list_any}
use Rattle.boss_model.specs.Lines.{lines, whole_lines}
use Rattle.boss_outside.specs.Counts.{Rose}
use Rattle.boss_outside.specs.declared.source.ReadAt.{ReadAt}
use Rattle.boss_lines.specs.declared.reader.Next.{Next}
use Rattle.boss_lines.specs.declared.reader.Next.TheVariants.{Line, Finish, TooLong, ReadFault}
use Rattle.boss_model.specs.Limits.{longest_line}
use Rattle.boss_lines.specs.Window.{IsTooLong, NoLineEnd}

-- a reader of lines: the line that it gave last, the bytes behind it that were read ahead, and the answer that it stopped at
pub record Progress : Type 0 where
  pub line : List ℕ
  pub ahead : List ℕ
  pub stopped : Option Next

-- a line end stands among these bytes, behind no more of them than a line may have
abbrev pub ends_line : List ℕ → Bool
ends_line bytes = list_any (λ byte. byte == 10) (take (longest_line + 1) bytes)

-- so it is ahead of a reader that has not stopped
abbrev pub is_at_hand : Option Next → List ℕ → Bool
is_at_hand None ahead = ends_line ahead
is_at_hand (Some answer) ahead = false

-- the first line of these bytes is longer than a line may be
abbrev pub BeginsTooLong : List (List ℕ) → Type 0
BeginsTooLong all = (line : List ℕ) × (more : List (List ℕ)) × (all ≡ line ∷ more) × (longest_line < length line)

-- what an answer says of the bytes that were ahead of it, of those that are ahead now, and of the line
abbrev pub Answers : List ℕ → List ℕ → List ℕ → Next → Type 0
Answers old new line Line = (lines old ≡ line ∷ lines new) × ¬ IsTooLong old
Answers old new line Finish = (old ≡ []) × (new ≡ [])
Answers old new line TooLong = (new ≡ old) × IsTooLong old × BeginsTooLong (lines old)
Answers old new line ReadFault = new ≡ old

-- A line stood before its end; or, where the source has told its end, it is all that was ahead.
abbrev pub EndsLine : List ℕ → List ℕ → List ℕ → Option Next → Type 0
EndsLine old new line None = old ≡ line ++ 10 ∷ new
EndsLine old new line (Some answer) = (old ≡ line) × (new ≡ [])

-- what is left ahead where a reader stopped
abbrev pub LeavesAhead : List ℕ → Next → Type 0
LeavesAhead ahead Line = ⊥
LeavesAhead ahead Finish = ahead ≡ []
LeavesAhead ahead TooLong = IsTooLong ahead
LeavesAhead ahead ReadFault = NoLineEnd (length ahead) ahead

-- what an answer leaves: the line, and the bytes that were read ahead
abbrev pub Leaves : List ℕ → List ℕ → Next → Type 0
Leaves line ahead Line = length line ≤ longest_line
Leaves line ahead answer = (line ≡ []) × LeavesAhead ahead answer

-- the answer is a read fault exactly where the source's count rose
abbrev pub NextCause : ℕ → ℕ → Next → Type 0
NextCause before now Line = now ≡ before
NextCause before now Finish = now ≡ before
NextCause before now TooLong = now ≡ before
NextCause before now ReadFault = Rose before now

-- The answer that a reader stops at, once it came to this one: itself, but behind a line the source's end, if it was told.
abbrev pub StopsAt : Next → Option Next → Type 0
StopsAt Line stopped = (stopped ≡ None) ⊎ (stopped ≡ Some Finish)
StopsAt answer stopped = stopped ≡ Some answer

-- A read of the bytes that come was made while a line was waited for: those that had come by then have no whole line, and the
-- sink had taken as many bytes as this, as far as the source was told
pub record IsReadFor (bytes : List ℕ) (told : ℕ) (at : ReadAt) : Type 0 where
  pub come : List ℕ
  pub rest : List ℕ
  pub split : bytes ≡ come ++ rest
  pub left : at.left ≡ length rest
  pub waiting : whole_lines come ≡ []
  pub shown : at.told ≡ told
