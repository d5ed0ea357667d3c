use Rattle.std.proofs.Common.{◌^◌, refl, sym, ap, ◌∙◌, subst, true, arith, option_copied}
use Rattle.boss_model.specs.Catalogue.{actuators}
use Rattle.boss_worker.specs.declared.duty.Duty.TheVariants.{Devices}
use Rattle.boss_worker.specs.Desks.{own_of}
use Rattle.boss_worker.specs.Saying.{terms_of}
use Rattle.boss_worker.specs.Troubles.{flags_after}
use Rattle.boss_worker.specs.Visits.{Left}
use Rattle.boss_worker.specs.Workers.{share_at, was_at, HasLeft, IsFreshDuty}
use Rattle.boss_worker.proofs.DutyLemmas.{visits-noted}
use Rattle.boss_worker.proofs.EndedLemmas.{visits-ended}
use Rattle.boss_worker.proofs.LeftLemmas.{left-fresh}
use Rattle.boss_worker.proofs.WorkerLemmas.{has-left-devices, has-left-time}
use Rattle.boss_outside_server.specs.declared.waited.Waited.{Waited}
use Rattle.boss_outside_server.specs.Waits.{listening}
use Rattle.boss_worker.proofs.WaitedLemmas.{visits-counted, waited-connections}
use Rattle.boss_worker.proofs.worker.WorkerTask.run.Goals as goal

pub returns-in-Connections : goal.returns-in-Connections
returns-in-Connections g c =
    let fresh = subst (IsFreshDuty {A = g.row.A.Denot} g.H.Host c.args.self.now.server.now.workers c.args.self.now.number) c.in-Connections.is c.requires.fresh in
    let works = c.attend_all-connections.ensures.left.0 in
    let left = c.attend_all-connections.ensures.left.1 in (
      refl,
      refl,
      c.attend_all-connections.ensures.share ∙ ap (share_at g.H.Host) (sym c.in-Connections.is),
      sym (ap was_at c.in-Connections.is),
      record {
        own = c.attend_all-connections.ensures.own;
        one = c.attend_all-connections.ensures.parts ∙ c.requires.one;
        works = works;
        left = left-fresh true (terms_of c.args.self.now.server.now.catalogue.now (g.G.Desk.denies c.args.self.now.server.now.desk) (option_copied c.args.self.now.server.now.keys) c.args.self.now.server.now.workers g.H.In.Source.tells g.H.Out.Sink.tells g.H.Host.tells g.C.Clock.tells g.W.Waiter.tells) c.args.self.now.number (g.H.Host.share c.attend_all-connections.new.host) works (own_of g.G.Desk c.attend_all-connections.new.pass)
            (g.G.Desk.seen c.attend_all-connections.new.pass) (g.H.Host.served c.in-Connections.host) (g.H.Host.served c.attend_all-connections.new.host)
            (g.C.Clock.given c.args.self.now.clock) (g.C.Clock.given c.attend_all-connections.new.clock) (g.H.Host.handed c.attend_all-connections.new.host) (g.H.Host.faults c.attend_all-connections.new.host)
            (g.C.Clock.faults c.attend_all-connections.new.clock) c.attend_all-connections.result.0
            (subst (λ share. Left true (terms_of c.args.self.now.server.now.catalogue.now (g.G.Desk.denies c.args.self.now.server.now.desk) (option_copied c.args.self.now.server.now.keys) c.args.self.now.server.now.workers g.H.In.Source.tells g.H.Out.Sink.tells g.H.Host.tells g.C.Clock.tells g.W.Waiter.tells) c.args.self.now.number share works (own_of g.G.Desk c.attend_all-connections.new.pass)
            (g.G.Desk.seen c.attend_all-connections.new.pass) (g.H.Host.served c.in-Connections.host) (g.H.Host.served c.attend_all-connections.new.host)
            (g.C.Clock.given c.args.self.now.clock) (g.C.Clock.given c.attend_all-connections.new.clock) (g.H.Host.handed c.attend_all-connections.new.host) (g.H.Host.faults c.attend_all-connections.new.host)
            (g.C.Clock.faults c.attend_all-connections.new.clock) c.attend_all-connections.result.0) (sym c.attend_all-connections.ensures.share) left) fresh.2 c.requires.given;
        called = tt;
        noted = visits-noted c.args.self.now.server.now.workers c.args.self.now.number (g.W.Waiter.waited c.leave.new.self) fresh.0 works left.part.of_them;
        waits = λ told. waited-connections c.args.self.now.server.now.workers c.args.self.now.number (g.W.Waiter.waited c.args.self.now.waiter) (g.W.Waiter.waited c.attend_all-connections.new.waiter) (c.requires.waited told)
            c.attend_all-connections.result.1 works (g.W.Waiter.waited c.leave.new.self) fresh.0 (c.attend_all-connections.ensures.waited told) (c.leave.ensures.leaves told).0
            (c.attend_all-connections.ensures.count ∙ sym left.each ∙ visits-counted c.args.self.now.server.now.workers c.args.self.now.number fresh.0 works left.part.of_them)
            (c.attend_all-connections.ensures.left.2 told);
        placed = fresh.0;
        worked = λ ran low. absurd (omega (arith, fresh.0, low));
        ended = visits-ended (actuators c.args.self.now.server.now.catalogue.now) g.W.Waiter.tells (own_of g.G.Desk c.attend_all-connections.new.pass) c.args.self.now.server.now.workers c.args.self.now.number fresh.0 works left.part.of_them;
      },
    )

pub returns-in-Time : goal.returns-in-Time
returns-in-Time g c = (
  refl,
  refl,
  refl,
  refl,
  subst (λ flags. HasLeft g.G.Desk g.H.Host g.C.Clock g.W.Waiter g.A.Actuators true (terms_of c.args.self.now.server.now.catalogue.now (g.G.Desk.denies c.args.self.now.server.now.desk) (option_copied c.args.self.now.server.now.keys) c.args.self.now.server.now.workers g.H.In.Source.tells g.H.Out.Sink.tells g.H.Host.tells g.C.Clock.tells g.W.Waiter.tells) c.args.self.now.server.now.desk c.args.self.now.number
      c.expire-end.new.pass c.args.self.now.duty c.expire-end.new.clock c.expire-end.new.waiter flags)
      (sym (c.after-self.ensures ∙ ap (λ trouble. flags_after trouble c.args.self.now.flags) c.work_trouble.ensures))
      (has-left-time g.G.Desk g.H.Host g.C.Clock g.W.Waiter g.A.Actuators c.args.self.now.server.now.catalogue.now (option_copied c.args.self.now.server.now.keys) g.H.In.Source.tells g.H.Out.Sink.tells c.args.self.now.server.now.desk c.args.self.now.server.now.workers c.args.self.now.number c.args.self.now.pass c.args.self.now.duty c.args.self.now.clock c.args.self.now.waiter c.args.self.now.flags c.requires
      c.expire-end.new.pass c.expire-end.new.clock c.listen.new.self c.expire-end.new.waiter (λ told. (c.listen.ensures.listens told).0) (2 ^ 62) (omega arith) c.expire-end.result c.expire-end.ensures.own c.expire-end.ensures.parts c.expire-end.ensures.clock
      c.expire-end.ensures.cause c.expire-end.ensures.waited c.in-Time.is c.expire-end.ensures.ticks),
)

pub returns-in-Devices : goal.returns-in-Devices
returns-in-Devices g c = (
  refl,
  refl,
  sym (ap (share_at g.H.Host) c.in-Devices.is),
  sym (ap was_at c.in-Devices.is),
  subst (λ flags. HasLeft g.G.Desk g.H.Host g.C.Clock g.W.Waiter g.A.Actuators true (terms_of c.args.self.now.server.now.catalogue.now (g.G.Desk.denies c.args.self.now.server.now.desk) (option_copied c.args.self.now.server.now.keys) c.args.self.now.server.now.workers g.H.In.Source.tells g.H.Out.Sink.tells g.H.Host.tells g.C.Clock.tells g.W.Waiter.tells) c.args.self.now.server.now.desk c.args.self.now.number
      c.drive_devices-trouble.new.pass (Devices c.in-Devices.driver c.drive_devices-trouble.new.devices c.in-Devices.field-2) c.drive_devices-trouble.new.clock c.drive_devices-trouble.new.waiter flags)
      (sym c.after-self-in-Devices.ensures)
      (has-left-devices g.G.Desk g.H.Host g.C.Clock g.W.Waiter g.A.Actuators c.args.self.now.server.now.catalogue.now (option_copied c.args.self.now.server.now.keys) g.H.In.Source.tells g.H.Out.Sink.tells c.args.self.now.server.now.desk c.args.self.now.server.now.workers c.args.self.now.number c.args.self.now.pass c.args.self.now.duty c.args.self.now.clock c.args.self.now.waiter c.args.self.now.flags c.requires
      c.drive_devices-trouble.new.pass c.drive_devices-trouble.new.clock c.listen-in-Devices.new.self c.drive_devices-trouble.new.waiter (2 ^ 62) (omega arith) c.drive_devices-trouble.result c.drive_devices-trouble.ensures.own c.drive_devices-trouble.ensures.parts c.drive_devices-trouble.ensures.clock
      c.drive_devices-trouble.ensures.disk c.drive_devices-trouble.ensures.told c.drive_devices-trouble.ensures.waited c.in-Devices.driver c.in-Devices.devices c.drive_devices-trouble.new.devices c.in-Devices.field-2
      (λ told. (c.listen-in-Devices.ensures.listens told).0 ∙ ap (λ bell. listening bell (g.W.Waiter.waited c.args.self.now.waiter)) c.driver_bell.ensures) c.in-Devices.is c.drive_devices-trouble.ensures.drove),
)

pub drive_devices-trouble-requires-clause-paused : goal.drive_devices-trouble-requires-clause-paused
drive_devices-trouble-requires-clause-paused g c = λ told. ap (λ (it : Waited). it.pauses) ((c.listen-in-Devices.ensures.listens told).0 ∙ ap (listening c.driver_bell.result) (c.requires.waited told))
