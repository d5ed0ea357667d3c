use Rattle.std.proofs.Common.{◌≡◌, ℕ, ◌<◌, Some, None, false, get_or, length, vec_capacity}
use Rattle.boss_model.specs.Ends.{is_owned_by}
use Rattle.boss_model.specs.declared.state.Lease.{Lease}
use Rattle.boss_slots.specs.Ending.{IsOrderly}
use Rattle.boss_holdings.proofs.ending.end_owned.Given as goal

-- no lease of the keys seen so far is the process's
abbrev pub invariant-loop-key : goal.invariant-loop-key
invariant-loop-key l = record {
  orderly : IsOrderly (is_owned_by l.owner) l.cause l.n l.initial.tables l.tables l.initial.told.items l.told.items (vec_capacity l.told) l.initial.touched l.touched;
  gone : (key : ℕ) (lease : Lease) → key < l.key → get_or l.tables.leases key None ≡ Some lease → is_owned_by l.owner lease ≡ false;
  keys : length l.tables.leases ≡ length l.initial.tables.leases;
  room : vec_capacity l.told ≡ vec_capacity l.initial.told;
}
