use Rattle.boss_changing.specs.Adoptions.{adopted_of}
use Rattle.boss_changing.proofs.Standing.{changes_holds, keeps_changes, keeps_holds, prepared_changes}
use Rattle.boss_durable.proofs.Doing.{keeps_leaves}
use Rattle.boss_model.specs.Catalogue.{actuators}
use Rattle.boss_opening.specs.Opens.{digest_of}
use Rattle.boss_changing.proofs.adopting.adopt.Goals as goal

-- ---- stopped before

pub returns-then-stopped-clause-images : goal.returns-then-stopped-clause-images
returns-then-stopped-clause-images g c before held =
    keeps_changes c.args.durable (actuators c.args.new.now) (digest_of c.args.new.now) (adopted_of c.args.old.now c.args.new.now c.args.durable) before held

pub returns-then-stopped-clause-holds : goal.returns-then-stopped-clause-holds
returns-then-stopped-clause-holds g c told before held =
    keeps_holds c.args.durable (actuators c.args.old.now) (actuators c.args.new.now) (digest_of c.args.old.now) (digest_of c.args.new.now)
    (adopted_of c.args.old.now c.args.new.now c.args.durable) told c.requires.plant c.requires.digest g.met.D.Disk.reads_stay before held

-- ---- adopted

pub returns-in-Ok-change-clause-leaves : goal.returns-in-Ok-change-clause-leaves
returns-in-Ok-change-clause-leaves g c before held = keeps_leaves c.change.new.self before (c.in-Ok-change.ensures.keeps before held)

pub returns-in-Ok-change-clause-images : goal.returns-in-Ok-change-clause-images
returns-in-Ok-change-clause-images g c before held =
    prepared_changes c.args.durable c.change.new.self c.args.new.now (adopted_of c.args.old.now c.args.new.now c.args.durable) c.in-Ok.field-0 c.in-Ok.ensures.prepared.restored
    c.digest.result (digest_of c.args.new.now) c.digest.ensures (c.change.ensures.changes before held)

pub returns-in-Ok-change-clause-holds : goal.returns-in-Ok-change-clause-holds
returns-in-Ok-change-clause-holds g c told before held =
    changes_holds c.args.durable c.change.new.self (actuators c.args.old.now) (actuators c.args.new.now) (digest_of c.args.old.now) (digest_of c.args.new.now)
    (adopted_of c.args.old.now c.args.new.now c.args.durable) told c.requires.plant c.requires.digest g.met.D.Disk.reads_stay
    (prepared_changes c.args.durable c.change.new.self c.args.new.now (adopted_of c.args.old.now c.args.new.now c.args.durable) c.in-Ok.field-0 c.in-Ok.ensures.prepared.restored
    c.digest.result (digest_of c.args.new.now) c.digest.ensures (c.change.ensures.changes before held))

-- ---- a disk failed

pub returns-in-Ok-clause-images : goal.returns-in-Ok-clause-images
returns-in-Ok-clause-images g c before held =
    prepared_changes c.args.durable c.change.new.self c.args.new.now (adopted_of c.args.old.now c.args.new.now c.args.durable) c.in-Ok.field-0 c.in-Ok.ensures.prepared.restored
    c.digest.result (digest_of c.args.new.now) c.digest.ensures (c.change.ensures.changes before held)

pub returns-in-Ok-clause-holds : goal.returns-in-Ok-clause-holds
returns-in-Ok-clause-holds g c told before held =
    changes_holds c.args.durable c.change.new.self (actuators c.args.old.now) (actuators c.args.new.now) (digest_of c.args.old.now) (digest_of c.args.new.now)
    (adopted_of c.args.old.now c.args.new.now c.args.durable) told c.requires.plant c.requires.digest g.met.D.Disk.reads_stay
    (prepared_changes c.args.durable c.change.new.self c.args.new.now (adopted_of c.args.old.now c.args.new.now c.args.durable) c.in-Ok.field-0 c.in-Ok.ensures.prepared.restored
    c.digest.result (digest_of c.args.new.now) c.digest.ensures (c.change.ensures.changes before held))

-- ---- refused

pub returns-clause-images : goal.returns-clause-images
returns-clause-images g c before held =
    keeps_changes c.args.durable (actuators c.args.new.now) (digest_of c.args.new.now) (adopted_of c.args.old.now c.args.new.now c.args.durable) before held

pub returns-clause-holds : goal.returns-clause-holds
returns-clause-holds g c told before held =
    keeps_holds c.args.durable (actuators c.args.old.now) (actuators c.args.new.now) (digest_of c.args.old.now) (digest_of c.args.new.now)
    (adopted_of c.args.old.now c.args.new.now c.args.durable) told c.requires.plant c.requires.digest g.met.D.Disk.reads_stay before held
