use Rattle.std.proofs.Common.{◌≡◌, false, take}
use Rattle.std.specs.List.{list_any}
use Rattle.def_guards.specs.Guards.{is_guarded_at}
use Rattle.boss_guard.proofs.guards.is_guarded.Given as goal

-- none of the points before this place is guarded
abbrev pub invariant-loop-place : goal.invariant-loop-place
invariant-loop-place l = list_any (is_guarded_at l.driver) (take l.place l.catalogue.points) ≡ false
