use Rattle.std.proofs.Common.{◌∙◌, ◌<◌, length, sym}
use Rattle.boss_model.specs.declared.state.Pending.{Pending}
use Rattle.boss_slots.specs.Tables.{pending_at}
use Rattle.boss_slots.proofs.BySlot.{at-whole}
use Rattle.boss_slots.proofs.Kept.{pending-placed}
use Rattle.boss_holdings.proofs.holdings.Holdings.pending_at.Goals as goal

pub returns : goal.returns
returns c =
    let within : c.args.point < length c.self.inside.tables.arrays.items = rw (← c.self.view_is) at c.requires.point in
    rw (← c.self.view_is) (c.pending_in.ensures ∙ sym (at-whole (λ (x : Pending). x.point) (λ (x : Pending). x.priority) (pending_at c.self.inside.tables) (length c.self.inside.tables.arrays.items) c.args.point c.args.priority (pending-placed c.self.inside.tables c.self.invariant.kept) within c.requires.level.0 c.requires.level.1))
