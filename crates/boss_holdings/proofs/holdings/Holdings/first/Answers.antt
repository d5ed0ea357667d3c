use Rattle.std.proofs.Common.{◌≡◌, [], false, length, replicate}
use Rattle.boss_slots.specs.Slots.{all}
use Rattle.boss_slots.specs.Tables.{lease_at, pending_at}
use Rattle.boss_slots.proofs.BySlot.{all-none}
use Rattle.boss_holdings.proofs.holdings.Holdings.first.Goals as goal

pub returns : goal.returns
returns c =
    let t = c.in_ok-tables.tables in
    let points : length t.arrays.items ≡ c.args.points = c.in_ok-tables.ensures.points in
    let leases : all (lease_at t) (length t.arrays.items) ≡ [] = all-none (lease_at t) (length t.arrays.items) c.in_ok-tables.ensures.leases in
    let pending : all (pending_at t) (length t.arrays.items) ≡ [] = all-none (pending_at t) (length t.arrays.items) c.in_ok-tables.ensures.pending in
    let touched : c.in_ok-touched.touched ≡ replicate c.args.points false = c.in_ok-touched.ensures in
    λ i. record { now = 0; points = points i; leases = leases i; pending = pending i; touched = touched i }
