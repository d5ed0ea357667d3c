use Rattle.std.proofs.Common.{◌≡◌, ◌≤◌, ◌+◌, ◌++◌, take, vec_len, vec_capacity}
use Rattle.std.specs.List.{filter_map}
use Rattle.boss_model.specs.Renew.{part_on}
use Rattle.boss_persistent.specs.Meant.{open_places}
use Rattle.boss_persistent.proofs.meaning.gather_named.Given as goal

-- the slots of the open parts on the points so far are gathered
abbrev pub invariant-loop-point : goal.invariant-loop-point
invariant-loop-point l = record {
  slots : l.slots.items ≡ l.fn.slots.items ++ open_places (filter_map (part_on l.transaction.transaction.parts) (take l.point-index l.points));
  len : vec_len l.slots ≤ vec_len l.fn.slots + l.point-index;
  room : vec_capacity l.slots ≡ vec_capacity l.fn.slots;
}
