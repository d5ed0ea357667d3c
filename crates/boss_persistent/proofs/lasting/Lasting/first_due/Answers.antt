use Rattle.std.proofs.Common.{◌≤◌, arith}
use Rattle.boss_persistent.specs.Lasting.{persistent_of}
use Rattle.boss_persistent.proofs.Idle.{none-due}
use Rattle.boss_persistent.proofs.Playable.{all-endable, all-playable, all-started}
use Rattle.boss_persistent.proofs.lasting.Lasting.first_due.Goals as goal

pub first_due-requires-clause-leases : goal.first_due-requires-clause-leases
first_due-requires-clause-leases c = all-endable c.requires.0 (persistent_of c.args.self.now) c.requires.2

pub first_due-requires-clause-pending : goal.first_due-requires-clause-pending
first_due-requires-clause-pending c = all-playable c.requires.0 (persistent_of c.args.self.now) c.requires.2

pub first_due-requires-clause-started : goal.first_due-requires-clause-started
first_due-requires-clause-started c =
    let d = persistent_of c.args.self.now in
    let same : d.now ≤ d.now = omega arith in
    all-started c.requires.0 d d.now same c.requires.2

pub returns : goal.returns
returns c n before = none-due c.requires.0 (persistent_of c.args.self.now) n c.requires.2 (λ from. c.first_due.ensures n from before)
