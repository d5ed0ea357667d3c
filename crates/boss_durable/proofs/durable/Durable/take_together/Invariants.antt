use Rattle.std.proofs.Common.{◌≡◌, List}
use Rattle.boss_shared.specs.declared.asked.Asked.{Asked}
use Rattle.boss_shared.proofs.Along.{IsAlong}
use Rattle.boss_durable.proofs.Groups.{HasTried}
use Rattle.boss_durable.proofs.durable.Durable.take_together.Given as goal

abbrev pub invariant-loop-asked : goal.invariant-loop-asked
invariant-loop-asked g l = (l.self.engine.plant ≡ l.fn.self.engine.plant) × (l.self.disks ≡ l.fn.self.disks) × (l.self.log_limit ≡ l.fn.self.log_limit)
    × (l.self.confirmed ≡ l.fn.self.confirmed)
    × (done : List Asked) × IsAlong l.fn.group l.group l.asked-index done × HasTried l.fn.self.engine.plant l.fn.self.engine.state l.self.engine.state l.self.batch done
