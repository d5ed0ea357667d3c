use Rattle.std.proofs.Common.{◌∙◌, ◌<◌, length, sym}
use Rattle.boss_model.specs.declared.state.Lease.{Lease}
use Rattle.boss_slots.specs.Tables.{lease_at}
use Rattle.boss_slots.proofs.BySlot.{at-whole}
use Rattle.boss_slots.proofs.Kept.{lease-placed}
use Rattle.boss_holdings.proofs.holdings.Holdings.lease_at.Goals as goal

pub returns : goal.returns
returns c =
    let within : c.args.point < length c.self.inside.tables.arrays.items = rw (← c.self.view_is) at c.requires.point in
    rw (← c.self.view_is) (c.lease_in.ensures ∙ sym (at-whole (λ (x : Lease). x.point) (λ (x : Lease). x.priority) (lease_at c.self.inside.tables) (length c.self.inside.tables.arrays.items) c.args.point c.args.priority (lease-placed c.self.inside.tables c.self.invariant.kept) within c.requires.level.0 c.requires.level.1))
