use Rattle.std.proofs.Common.{◌≡◌, nat_lt, false}
use Rattle.std.specs.List.{list_any, range_with_len}
use Rattle.std.specs.Option.{option_map_or}
use Rattle.law_effects.specs.Early.{slot_lease}
use Rattle.boss_persistent.specs.Lasting.{persistent_of}
use Rattle.boss_persistent.proofs.early.is_held.Given as goal

-- no lease of the levels so far lasts
abbrev pub invariant-loop-place : goal.invariant-loop-place
invariant-loop-place l = list_any (λ level. option_map_or (λ lease. nat_lt l.n lease.until) (slot_lease (persistent_of l.lasting).leases l.point level) false) (range_with_len 1 l.place) ≡ false
