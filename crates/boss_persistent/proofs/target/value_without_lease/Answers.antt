use Rattle.std.proofs.Common.{◌==◌, sym}
use Rattle.boss_model.specs.declared.state.Pending.{Pending}
use Rattle.law_due.proofs.Found.{each-least}
use Rattle.law_due.specs.Playing.{IsPlayable}
use Rattle.boss_persistent.proofs.target.value_without_lease.Goals as goal

pub value_or-requires : goal.value_or-requires
value_or-requires c =
    each-least IsPlayable (λ (reversion : Pending). reversion.priority) (λ reversion. reversion.point == c.args.point) c.args.holdings.now.pending c.in-Some.reversion.now c.requires.pending
    (sym c.in-Some.ensures)
