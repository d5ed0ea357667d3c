use Rattle.std.proofs.Common.{◌≡◌, drop}
use Rattle.std.specs.List.{position_from}
use Rattle.boss_jobs.specs.Programs.{lacks_device}
use Rattle.trial_reopening.proofs.outside.one_driver.Given as goal

-- no point so far is behind another driver
abbrev pub invariant-loop-place : goal.invariant-loop-place
invariant-loop-place g l = position_from (lacks_device 1) 0 l.catalogue.points ≡ position_from (lacks_device 1) l.place (drop l.place l.catalogue.points)
