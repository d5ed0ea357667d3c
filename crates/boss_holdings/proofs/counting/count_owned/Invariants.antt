use Rattle.std.proofs.Common.{◌≡◌, ◌≤◌, ◌*◌, length}
use Rattle.std.specs.List.{filter}
use Rattle.boss_model.specs.Ends.{is_owned_by}
use Rattle.boss_slots.specs.Slots.{all}
use Rattle.boss_slots.specs.Tables.{lease_at}
use Rattle.boss_holdings.proofs.counting.count_owned.Given as goal

-- the leases of the points seen so far are counted
abbrev pub invariant-loop-point : goal.invariant-loop-point
invariant-loop-point l = record {
  counted : l.count ≡ length (filter (is_owned_by l.owner) (all (lease_at l.tables) l.point));
  few : l.count ≤ 16 * l.point;
}
