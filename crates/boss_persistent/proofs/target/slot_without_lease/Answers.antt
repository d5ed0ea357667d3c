use Rattle.std.proofs.Common.{◌==◌, ◌&&◌, sym}
use Rattle.boss_model.specs.declared.state.Pending.{Pending}
use Rattle.law_time.proofs.Filters.{each-found}
use Rattle.law_due.specs.Playing.{IsPlayable}
use Rattle.boss_persistent.proofs.target.slot_without_lease.Goals as goal

pub playing_slot-requires : goal.playing_slot-requires
playing_slot-requires c =
    each-found IsPlayable (λ (reversion : Pending). (reversion.point == c.args.point) && (reversion.priority == c.args.priority)) c.args.holdings.now.pending c.in-Some.reversion.now c.requires.pending
    (sym c.in-Some.ensures)
