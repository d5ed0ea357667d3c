use Rattle.std.proofs.Common.{◌≡◌, ◌≤◌, length}
use Rattle.std.specs.List.{filter}
use Rattle.std.specs.Option.{option_to_list}
use Rattle.boss_model.specs.Ends.{is_owned_by}
use Rattle.boss_slots.specs.Slots.{gather}
use Rattle.boss_slots.specs.Tables.{lease_at}
use Rattle.boss_holdings.proofs.counting.count_on.Given as goal

-- the leases of the levels seen so far are counted
abbrev pub invariant-loop-place : goal.invariant-loop-place
invariant-loop-place l = record {
  counted : l.count ≡ length (filter (is_owned_by l.owner) (gather (λ priority. option_to_list (lease_at l.tables l.point priority)) 1 l.place));
  few : l.count ≤ l.place;
}
