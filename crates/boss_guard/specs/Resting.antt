-- Source: own.
-- How long a guarded worker pauses that wrote nothing.
use Rattle.std.specs.Prelude.{ℕ, Bool, List, is_some, if◌then◌else◌}
use Rattle.std.specs.List.{list_any}
use Rattle.boss_outside_server.specs.Pauses.{drive_pause, held_pause}
use Rattle.def_guards.specs.declared.guard.Guard.{Guard}

-- a want is held
abbrev pub is_holding : List Guard → Bool
is_holding guards = list_any (λ (guard : Guard). is_some guard.held) guards

-- a want that is held is tried again soon, since a lease may make it free
abbrev pub rest_of : List Guard → ℕ
rest_of guards = if is_holding guards then held_pause else drive_pause
