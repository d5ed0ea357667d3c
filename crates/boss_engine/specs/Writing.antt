-- Source: ASHRAE 135, clause 19.2 (levels 1 to 16); a week own.
use Rattle.std.specs.Prelude.{pos, ◌≤ℤ◌}
use Rattle.boss_model.specs.declared.command.Setting.{Setting}
use Rattle.boss_stages.specs.Stages.{HasLevel}
use Rattle.boss_model.specs.Limits.{longest_lease}

-- a write at one of the sixteen levels, with a lease of at most a week
abbrev pub IsWritable : Setting → Type 0
IsWritable write = HasLevel write × (pos 1 ≤ℤ write.lease) × (write.lease ≤ℤ pos longest_lease)
