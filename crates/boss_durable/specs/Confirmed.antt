-- Source: own.
-- When a disk was asked last, as the clock of its server gave it: what a call of this moment may rest on.
use Rattle.std.specs.Prelude.{◌≡◌, ℕ, ◌+◌, ◌<◌, max, List, [], ◌∷◌, Option, Some, None}
use Rattle.boss_disk.specs.declared.disk.Disk as disk
use Rattle.boss_disk.specs.Story.{Moves}
use Rattle.boss_disk.specs.Window.{settled}
use Rattle.boss_model.specs.declared.command.Command.{Command}
use Rattle.boss_shared.specs.declared.asked.Asked.{Asked}
use Rattle.boss_durable.specs.declared.durable.Durable.{Durable}

-- for how long a confirmation serves, in milliseconds
abbrev pub confirmed_for : ℕ
confirmed_for = 1000

-- The last confirmation lies less than a second before the moment, or as little behind it.
pub record IsNear (last moment : ℕ) : Type 0 where
  pub not_old : moment < last + confirmed_for
  pub not_early : last < moment + confirmed_for

abbrev pub IsConfirmed : Option ℕ → ℕ → Type 0
IsConfirmed None moment = ⊥
IsConfirmed (Some last) moment = IsNear last moment

-- the latest moment of commands, and of all that callers ask for
abbrev pub latest : List (Command × ℕ) → ℕ
latest [] = 0
latest (call ∷ calls) = max call.1 (latest calls)

abbrev pub latest_of : List Asked → ℕ
latest_of [] = 0
latest_of (asked ∷ group) = max (latest asked.commands) (latest_of group)

module _ {D : Type 0} {g : disk.Ghosts D} where
  -- Where the last confirmation is another one than before, the disk in force was asked in between: one call of it went by.
  abbrev pub IsAsked : Durable D g → Durable D g → Type 0
  IsAsked old new = g.tells → ¬ (new.confirmed ≡ old.confirmed)
      → Moves (settled (g.reads old.disks.journal.disk)) (g.story old.disks.journal.disk) (g.story new.disks.journal.disk)
