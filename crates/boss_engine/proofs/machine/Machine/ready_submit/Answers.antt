use Rattle.std.proofs.Common.{◌≡◌, None, rules}
use Rattle.boss_model.specs.Submit.{submit_refused}
use Rattle.boss_persistent.specs.Lasting.{persistent_of}
use Rattle.boss_engine.proofs.Written.{all-writable}
use Rattle.boss_engine.proofs.machine.Machine.ready_submit.Goals as goal

pub ready_transaction-requires-clause-writes : goal.ready_transaction-requires-clause-writes
ready_transaction-requires-clause-writes c =
    let accepted : submit_refused c.args.plant.now c.args.writes.now (persistent_of c.args.self.now.lasting) ≡ None = search rules in
    all-writable c.args.plant.now c.args.writes.now (persistent_of c.args.self.now.lasting) accepted
