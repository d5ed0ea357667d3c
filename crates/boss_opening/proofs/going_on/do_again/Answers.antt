use Rattle.std.proofs.Common.{inl, refl}
use Rattle.boss_outside.specs.declared.failed.Failed.{Failed}
use Rattle.boss_opening.proofs.GoingOn.{fault_rose, goes_on}
use Rattle.boss_opening.proofs.ReadOn.{stays_clean}
use Rattle.boss_opening.proofs.UnderWays.{shut}
use Rattle.boss_opening.proofs.going_on.do_again.Goals as goal

pub returns-in-Ok-ready-clause-goes_on : goal.returns-in-Ok-ready-clause-goes_on
returns-in-Ok-ready-clause-goes_on g c =
    let engine = c.args.engine.now in
    goes_on c.args.pair.now c.read_log.new.pair c.ready.new.self engine.plant engine.state.persistent c.read_log.new.engine.state.persistent c.in-Ok.events
    c.in-Ok.ensures.same c.in-Ok.ensures.whole c.requires.begins c.requires.settled
    (λ before found end synced many. c.in-Ok-ready.ensures.rests engine.plant engine.state.persistent c.read_log.new.engine.state.persistent before found end synced many)
    c.in-Ok-ready.ensures.events

pub returns-in-Ok-ready-clause-shuts : goal.returns-in-Ok-ready-clause-shuts
returns-in-Ok-ready-clause-shuts g c told d count clean =
    let engine = c.args.engine.now in
    let found = shut c.args.pair.now c.read_log.new.pair c.ready.new.self engine.plant engine.state.persistent c.read_log.new.engine.state.persistent c.in-Ok.events count
    c.in-Ok.ensures.same c.in-Ok.ensures.whole c.requires.begins c.requires.settled told d clean (c.ready.ensures.passes told engine.plant) in
    record { after = found.after; may = found.may; runs = found.runs; same = found.same }

pub returns-in-Err-ready-clause-shuts : goal.returns-in-Err-ready-clause-shuts
returns-in-Err-ready-clause-shuts g c told d count clean =
    let engine = c.args.engine.now in
    let found = shut c.args.pair.now c.read_log.new.pair c.ready.new.self engine.plant engine.state.persistent c.read_log.new.engine.state.persistent c.in-Ok.events count
    c.in-Ok.ensures.same c.in-Ok.ensures.whole c.requires.begins c.requires.settled told d clean (c.ready.ensures.passes told engine.plant) in
    record { after = found.after; may = found.may; runs = found.runs; same = tt }

pub returns-in-Err-clause-shuts : goal.returns-in-Err-clause-shuts
returns-in-Err-clause-shuts g c told d count clean = record {
  after = d;
  may = inl refl;
  runs = stays_clean c.args.pair.now c.read_log.new.pair c.in-Err.ensures.same c.args.engine.now.plant d count c.requires.settled clean;
  same = tt;
}

pub returns-in-Err-ready-clause-cause : goal.returns-in-Err-ready-clause-cause
returns-in-Err-ready-clause-cause g c =
    fault_rose (Unit {0}) Failed c.in-Err-ready.field-0 c.read_log.new.pair.stopped _ _ _ c.in-Ok.ensures.fine c.in-Ok.ensures.going c.in-Err-ready.ensures.cause
