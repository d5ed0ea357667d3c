use Rattle.std.proofs.Common.{[], refl, subst, arith, option_copied}
use Rattle.boss_outside_server.specs.Pauses.{watch_pause}
use Rattle.def_lanes.proofs.WaitLemmas.{around-none}
use Rattle.boss_worker.specs.Workers.{IsFreshDuty}
use Rattle.boss_worker.proofs.WaitedLemmas.{waited-connections, waited-unrun}
use Rattle.boss_worker.proofs.WorkerLemmas.{behind-connections, has-left-nothing}
use Rattle.boss_worker.proofs.worker.WorkerTask.abandon.Goals as goal

pub returns-in-Connections : goal.returns-in-Connections
returns-in-Connections g c = (
  refl,
  refl,
  refl,
  refl,
  has-left-nothing g.G.Desk g.H.Host g.C.Clock g.W.Waiter g.A.Actuators c.args.self.now.server.now.catalogue.now (option_copied c.args.self.now.server.now.keys) g.H.In.Source.tells g.H.Out.Sink.tells c.args.self.now.server.now.desk c.args.self.now.server.now.workers c.args.self.now.number c.args.self.now.pass c.args.self.now.duty c.args.self.now.clock c.args.self.now.waiter c.args.self.now.flags c.requires c.leave.new.self
      (λ told. waited-connections c.args.self.now.server.now.workers c.args.self.now.number (g.W.Waiter.waited c.args.self.now.waiter) (g.W.Waiter.waited c.args.self.now.waiter) (c.requires.waited told)
      0 [] (g.W.Waiter.waited c.leave.new.self) (subst (IsFreshDuty {A = g.row.A.Denot} g.H.Host c.args.self.now.server.now.workers c.args.self.now.number) c.in-Connections.is c.requires.fresh).0
      (around-none watch_pause (g.W.Waiter.waited c.args.self.now.waiter)) (c.leave.ensures.leaves told).0 refl (omega arith)),
)

pub returns-in_default : goal.returns-in_default
returns-in_default g c = (
  refl,
  refl,
  refl,
  refl,
  has-left-nothing g.G.Desk g.H.Host g.C.Clock g.W.Waiter g.A.Actuators c.args.self.now.server.now.catalogue.now (option_copied c.args.self.now.server.now.keys) g.H.In.Source.tells g.H.Out.Sink.tells c.args.self.now.server.now.desk c.args.self.now.server.now.workers c.args.self.now.number c.args.self.now.pass c.args.self.now.duty c.args.self.now.clock c.args.self.now.waiter c.args.self.now.flags c.requires c.args.self.now.waiter
      (λ told. waited-unrun c.args.self.now.server.now.workers c.args.self.now.number (g.W.Waiter.waited c.args.self.now.waiter) (c.requires.waited told)
      (behind-connections g.H.Host c.args.self.now.server.now.workers c.args.self.now.number c.args.self.now.duty c.requires.fresh c.in_default.not-Connections)),
)
