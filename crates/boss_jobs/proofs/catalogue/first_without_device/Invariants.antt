use Rattle.std.proofs.Common.{◌≡◌, drop}
use Rattle.std.specs.List.{position_from}
use Rattle.boss_jobs.specs.Programs.{lacks_device}
use Rattle.boss_jobs.proofs.catalogue.first_without_device.Given as goal

-- no point so far lacks its device
abbrev pub invariant-loop-place : goal.invariant-loop-place
invariant-loop-place l = position_from (lacks_device l.devices) 0 l.catalogue.points ≡ position_from (lacks_device l.devices) l.place (drop l.place l.catalogue.points)
