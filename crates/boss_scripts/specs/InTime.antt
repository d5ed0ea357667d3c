-- Source: own.
-- Whoever waits for an answer has it: the points of a script at which its source was read.
use Rattle.std.specs.Prelude.{◌≡◌, ℕ, ◌+◌, ◌≤◌, Bool, List, ◌++◌, length, Option}
use Rattle.boss_model.specs.declared.event.Event.{Event}
use Rattle.boss_model.specs.Catalogue.{Catalogue, actuators}
use Rattle.boss_model.specs.DeviceCall.{DeviceCall}
use Rattle.boss_model.specs.Lines.{whole_lines}
use Rattle.boss_outside.specs.declared.source.ReadAt.{ReadAt}
use Rattle.boss_outside.specs.Notes.{NotesEach}
use Rattle.def_history.specs.declared.entry.Entry.{Entry}
use Rattle.def_wire.specs.Script.{Run}
use Rattle.boss_scripts.specs.Runs.{after, at, IsLeft, left_before, lines_taken, Under}

-- At this read all that the script tells over the lines that had come whole by then was among the bytes that the sink had taken;
-- so many it had taken when the script began.
pub record IsInTime (over : List (List ℕ) → Run) (bytes : List ℕ) (begun : ℕ) (read : ReadAt) : Type 0 where
  pub come : List ℕ
  pub rest : List ℕ
  pub split : bytes ≡ come ++ rest
  pub left : read.left ≡ length rest
  pub told : begun + length (over (whole_lines come)).text ≤ read.told

-- each of these reads was made so
abbrev pub AreInTime : (List (List ℕ) → Run) → List ℕ → ℕ → Option (List ReadAt) → Option (List ReadAt) → Type 0
AreInTime over bytes begun reads reads' = NotesEach (IsInTime over bytes begun) reads reads'

-- The same of lines that are taken from `start`, where these entries are made and the devices answer `results` next; whatever was
-- told, called and made earlier, and is answered and left later. The sink had taken so many bytes at `start`.
abbrev pub AreInTimeFrom : Catalogue → Under → List Entry → List Bool → List ℕ → ℕ → Option (List ReadAt) → Option (List ReadAt) → Type 0
AreInTimeFrom catalogue start entries results bytes taken reads reads' =
    (later : List Bool) (text : List ℕ) (earlier : List DeviceCall) (before : List Event) (left : Option ℕ) (begun : ℕ) →
    IsLeft (after (actuators catalogue) entries start) left → begun + length text ≡ taken →
    AreInTime (λ all. lines_taken catalogue all (at start text earlier before (results ++ later) (left_before entries left))) bytes begun reads reads'
