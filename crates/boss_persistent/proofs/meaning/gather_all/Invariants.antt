use Rattle.std.proofs.Common.{◌≡◌, ◌≤◌, ◌+◌, ◌++◌, take, vec_len, vec_capacity}
use Rattle.boss_persistent.specs.Meant.{open_places}
use Rattle.boss_persistent.proofs.meaning.gather_all.Given as goal

-- the slots of the open parts so far are gathered
abbrev pub invariant-loop-part : goal.invariant-loop-part
invariant-loop-part l = record {
  slots : l.slots.items ≡ l.fn.slots.items ++ open_places (take l.part-index l.parts);
  len : vec_len l.slots ≤ vec_len l.fn.slots + l.part-index;
  room : vec_capacity l.slots ≡ vec_capacity l.fn.slots;
}
