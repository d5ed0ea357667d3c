-- Source: own; levels: ASHRAE 135, clause 19.2.
-- What an event may ask for: no event that is effective leaves these bounds. The bytes of an event can tell more.
use Rattle.std.specs.Prelude.{pos, Bool, true, ◌&&◌}
use Rattle.std.specs.List.{list_all}
use Rattle.boss_model.specs.declared.command.Setting.{Setting}
use Rattle.boss_model.specs.declared.command.Step.{Step}
use Rattle.boss_model.specs.declared.event.Act.{Act}
use Rattle.boss_model.specs.declared.event.Act.TheVariants as act
use Rattle.boss_model.specs.Limits.{longest_hold}
use Rattle.boss_model.specs.Submit.{is_within, is_length}

abbrev pub is_held : Step → Bool
is_held step = is_within (pos 1) (pos longest_hold) step.hold

abbrev pub is_bounded : Setting → Bool
is_bounded write = is_within (pos 1) (pos 16) write.priority && is_length write.lease && list_all is_held write.revert

-- priorities, leases, how long a step holds, and how long a renewal is
abbrev pub is_modest : Act → Bool
is_modest (act.Submit owner policy writes seq) = list_all is_bounded writes
is_modest (act.Renew owner txn length points seq) = is_length length
is_modest other = true
