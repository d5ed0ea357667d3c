use Rattle.std.proofs.Common.{length, sym, subst}
use Rattle.boss_engine.specs.Running.{Running}
use Rattle.boss_disk_pair.specs.Rests as pair
use Rattle.boss_disk_pair.proofs.Words.{rests_leaves}
use Rattle.boss_durable.specs.Words.{keeps, leaves}
use Rattle.boss_durable.proofs.durable.Durable.resting.Goals as goal

pub returns-clause-keeps : goal.returns-clause-keeps
unfolding keeps
returns-clause-keeps g c events at = subst (λ (r : Running). pair.rests c.args.disks r.plant r.state.persistent (length events)) (sym c.new.ensures) at

pub returns-clause-leaves : goal.returns-clause-leaves
unfolding leaves
returns-clause-leaves g c events at =
    subst (λ (r : Running). pair.leaves c.args.disks r.plant r.state.persistent r.state.persistent) (sym c.new.ensures)
    (rests_leaves c.args.disks c.args.engine.plant c.args.engine.state.persistent (length events) at)
