use Rattle.std.proofs.Common.{◌≡◌, ◌++◌}
use Rattle.std.specs.Option.{option_to_list}
use Rattle.boss_slots.specs.Slots.{gather}
use Rattle.boss_slots.specs.Tables.{pending_at}
use Rattle.boss_holdings.proofs.listing.add_reversions.Given as goal

-- the slots seen so far are listed
abbrev pub invariant-loop-place : goal.invariant-loop-place
invariant-loop-place l = l.into.items ≡ l.initial.into.items ++ gather (λ priority. option_to_list (pending_at l.tables l.point priority)) 1 l.place
