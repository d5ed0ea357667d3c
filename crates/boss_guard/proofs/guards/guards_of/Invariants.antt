use Rattle.std.proofs.Common.{◌≡◌, map, take}
use Rattle.def_guards.specs.Guards.{guard_of}
use Rattle.boss_guard.proofs.guards.guards_of.Given as goal

abbrev pub invariant-loop-place : goal.invariant-loop-place
invariant-loop-place l = l.guards.items ≡ map guard_of (take l.place l.catalogue.points)
