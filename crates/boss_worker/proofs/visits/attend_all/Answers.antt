use Rattle.std.proofs.Common.{◌+◌, [], ◌++◌, true, ◌∷◌, refl, sym, ap, ◌∙◌, subst, arith, option_copied}
use Rattle.boss_outside_server.specs.Pauses.{watch_pause}
use Rattle.def_lanes.proofs.WaitLemmas.{around-both, around-none, closed-more}
use Rattle.def_lanes.specs.Works.{visit}
use Rattle.boss_outside_server.specs.Hosts.{served_of}
use Rattle.boss_worker.specs.declared.flags.Flags.{Flags}
use Rattle.boss_worker.specs.Desks.{own_of}
use Rattle.boss_worker.specs.Saying.{terms_of}
use Rattle.boss_worker.specs.Troubles.{course_by, flags_after, Counts}
use Rattle.boss_worker.specs.Visits.{Left, SoFar}
use Rattle.boss_worker.proofs.FlagLemmas.{clock-after, cuts-more, disk-after, host-after}
use Rattle.boss_worker.proofs.HeldLemmas.{earlier-other, free-holds}
use Rattle.boss_worker.proofs.VisitLemmas.{visit-timed}
use Rattle.boss_worker.proofs.LeftLemmas.{left-broken, left-failed, so-far-first, so-far-more, so-far-same}
use Rattle.boss_worker.proofs.visits.attend_all.Goals as goal

pub connections-init : goal.connections-init
connections-init g c = record {
  own = c.requires.own;
  parts = refl;
  unheld = λ session from. free-holds (g.G.Desk.denies c.args.server.now.desk) session (g.G.Desk.held c.args.pass.now) c.requires.free;
  sound = c.requires.fresh.sound;
  back = c.requires.fresh.back;
  share = refl;
  within = omega (arith, c.requires.fresh.handed);
  works = [];
  so_far = so-far-first (terms_of c.args.server.now.catalogue.now (g.G.Desk.denies c.args.server.now.desk) (option_copied c.args.server.now.keys) c.args.server.now.workers g.H.In.Source.tells g.H.Out.Sink.tells g.H.Host.tells g.C.Clock.tells g.W.Waiter.tells) c.args.number
      (own_of g.G.Desk c.args.pass.now) (g.H.Host.served c.args.host.now) (g.C.Clock.given c.args.clock.now) (g.H.Host.handed c.args.host.now) _ _ c.requires.empty c.requires.fresh.handed (ap (λ n. 1 + n) c.from-next.ensures);
  small = omega (arith, c.from-next.ensures, c.requires.number, c.requires.few);
  counted = sym c.requires.fresh.handed;
  waited = λ tells. around-none watch_pause (g.W.Waiter.waited c.args.waiter.now);
  hosted = c.requires.fresh.faults;
  no_host = ap (λ (f : Flags). f.host) c.none-flags.ensures;
  no_disk = ap (λ (f : Flags). f.disk) c.none-flags.ensures;
  ticked = subst (λ (f : Flags). Counts f.clock (g.C.Clock.faults c.args.clock.now)) (sym c.none-flags.ensures) c.requires.quiet;
  cuts = omega arith;
  closes = λ tells. omega arith;
}

pub connections-preserved : goal.connections-preserved
connections-preserved g c =
    let inv = c.connections.invariant in
    let one = served_of g.H.In.Source g.H.Out.Sink c.connections.next c.attend-trouble.new.input c.attend-trouble.new.output in
    record {
      own = c.attend-trouble.ensures.own;
      parts = c.attend-trouble.ensures.parts ∙ inv.parts;
      unheld = λ session from. c.attend-trouble.ensures.others session (earlier-other c.connections.next session (omega (arith, from, c.requires.number, c.from-next-in-Conn.ensures)))
          (inv.unheld session (omega (arith, from)));
      sound = c.give_back.ensures.sound;
      back = omega (arith, c.give_back.ensures.counts.2, c.in-Conn.ensures.count.2);
      share = c.give_back.ensures.counts.1 ∙ c.accept.ensures.share ∙ inv.share;
      within = omega (arith, c.give_back.ensures.counts.0, c.in-Conn.ensures.count.0, c.in-Conn.ensures.count.1, inv.share);
      works = inv.works ++ visit one (course_by c.attend-trouble.ensures.added.0 c.attend-trouble.result c.attend-trouble.ensures.added.1) ∷ [];
      so_far = subst (λ f. SoFar (terms_of c.args.server.now.catalogue.now (g.G.Desk.denies c.args.server.now.desk) (option_copied c.args.server.now.keys) c.args.server.now.workers g.H.In.Source.tells g.H.Out.Sink.tells g.H.Host.tells g.C.Clock.tells g.W.Waiter.tells) c.args.number (inv.works ++ visit one (course_by c.attend-trouble.ensures.added.0 c.attend-trouble.result c.attend-trouble.ensures.added.1) ∷ [])
          (own_of g.G.Desk c.attend-trouble.new.pass) (g.H.Host.served c.args.host.now) (g.H.Host.served c.give_back.new.self) (g.C.Clock.given c.args.clock.now) (g.C.Clock.given c.attend-trouble.new.clock)
          (g.H.Host.handed c.give_back.new.self) (c.connections.next + c.from-next-in-Conn.result) f) (sym c.after-flags.ensures)
          (so-far-more (terms_of c.args.server.now.catalogue.now (g.G.Desk.denies c.args.server.now.desk) (option_copied c.args.server.now.keys) c.args.server.now.workers g.H.In.Source.tells g.H.Out.Sink.tells g.H.Host.tells g.C.Clock.tells g.W.Waiter.tells) c.args.number inv.works
          (own_of g.G.Desk c.connections.pass) (own_of g.G.Desk c.attend-trouble.new.pass) (g.H.Host.served c.args.host.now) (g.H.Host.served c.connections.host) (g.H.Host.served c.give_back.new.self)
          (g.C.Clock.given c.args.clock.now) (g.C.Clock.given c.connections.clock) (g.C.Clock.given c.attend-trouble.new.clock) (g.H.Host.handed c.connections.host) (g.H.Host.handed c.give_back.new.self)
          c.connections.next (c.connections.next + c.from-next-in-Conn.result) c.connections.flags c.attend-trouble.result one c.attend-trouble.ensures.added.0 c.attend-trouble.ensures.added.1 inv.so_far
          (visit-timed c.args.server.now.catalogue.now (g.G.Desk.denies c.args.server.now.desk) (option_copied c.args.server.now.keys) g.H.In.Source.tells g.H.Out.Sink.tells g.C.Clock.tells one c.attend-trouble.result c.attend-trouble.ensures.added.1 c.attend-trouble.ensures.added.0
          (own_of g.G.Desk c.connections.pass) (own_of g.G.Desk c.attend-trouble.new.pass) (g.C.Clock.given c.connections.clock) (g.C.Clock.given c.attend-trouble.new.clock) c.attend-trouble.ensures.added.2)
          (λ told. c.give_back.ensures.connections told ∙ ap (λ list. list ++ one ∷ []) (c.accept.ensures.connections told)) refl c.requires.number
          (c.give_back.ensures.counts.0 ∙ c.in-Conn.ensures.count.1) (ap (λ n. c.connections.next + n) c.from-next-in-Conn.ensures));
      small = omega (arith, inv.small, c.requires.few, c.give_back.ensures.counts.0, c.in-Conn.ensures.count.1, c.from-next-in-Conn.ensures);
      counted = omega (arith, inv.counted, c.give_back.ensures.counts.0, c.in-Conn.ensures.count.1);
      waited = λ tells. around-both watch_pause (g.W.Waiter.waited c.args.waiter.now) (g.W.Waiter.waited c.connections.waiter) (g.W.Waiter.waited c.attend-trouble.new.waiter) (inv.waited tells) (c.attend-trouble.ensures.waited tells);
      hosted = c.give_back.ensures.counts.3 ∙ c.in-Conn.ensures.cause ∙ inv.hosted;
      no_host = ap (λ (f : Flags). f.host) c.after-flags.ensures ∙ host-after c.attend-trouble.result c.connections.flags ∙ inv.no_host;
      no_disk = ap (λ (f : Flags). f.disk) c.after-flags.ensures ∙ disk-after c.attend-trouble.result c.connections.flags (λ is. c.in_default.not-Disk is) ∙ inv.no_disk;
      ticked = subst (λ (f : Flags). Counts f.clock (g.C.Clock.faults c.attend-trouble.new.clock)) (sym c.after-flags.ensures)
          (clock-after c.attend-trouble.result c.connections.flags (g.C.Clock.faults c.connections.clock) (g.C.Clock.faults c.attend-trouble.new.clock) (λ is. c.in_default.not-Disk is)
          c.attend-trouble.ensures.clocked inv.ticked);
      cuts = cuts-more c.attend-trouble.result (visit one (course_by c.attend-trouble.ensures.added.0 c.attend-trouble.result c.attend-trouble.ensures.added.1)) inv.works (g.C.Clock.faults c.connections.clock) (g.C.Clock.faults c.attend-trouble.new.clock)
          refl (λ is. c.in_default.not-Disk is) c.attend-trouble.ensures.clocked inv.cuts;
      closes = λ tells. closed-more inv.works (visit one (course_by c.attend-trouble.ensures.added.0 c.attend-trouble.result c.attend-trouble.ensures.added.1))
          (g.W.Waiter.waited c.connections.waiter) (g.W.Waiter.waited c.attend-trouble.new.waiter) (inv.closes tells) (c.attend-trouble.ensures.added.3 tells);
    }

pub returns-in-Disk-clause-count : goal.returns-in-Disk-clause-count
returns-in-Disk-clause-count g c = omega (arith, c.connections.invariant.counted, c.give_back.ensures.counts.0, c.in-Conn.ensures.count.1)

pub returns-in-Disk-clause-waited : goal.returns-in-Disk-clause-waited
returns-in-Disk-clause-waited g c = λ tells. around-both watch_pause (g.W.Waiter.waited c.args.waiter.now) (g.W.Waiter.waited c.connections.waiter) (g.W.Waiter.waited c.attend-trouble.new.waiter)
    (c.connections.invariant.waited tells) (c.attend-trouble.ensures.waited tells)

pub returns-in-Disk-clause-left : goal.returns-in-Disk-clause-left
returns-in-Disk-clause-left g c =
    let inv = c.connections.invariant in
    let one = served_of g.H.In.Source g.H.Out.Sink c.connections.next c.attend-trouble.new.input c.attend-trouble.new.output in (
      inv.works ++ visit one (course_by c.attend-trouble.ensures.added.0 c.attend-trouble.result c.attend-trouble.ensures.added.1) ∷ [],
      left-broken (terms_of c.args.server.now.catalogue.now (g.G.Desk.denies c.args.server.now.desk) (option_copied c.args.server.now.keys) c.args.server.now.workers g.H.In.Source.tells g.H.Out.Sink.tells g.H.Host.tells g.C.Clock.tells g.W.Waiter.tells) c.args.number (g.H.Host.share c.args.host.now) (inv.works ++ visit one (course_by c.attend-trouble.ensures.added.0 c.attend-trouble.result c.attend-trouble.ensures.added.1) ∷ [])
          (own_of g.G.Desk c.attend-trouble.new.pass) (g.G.Desk.seen c.attend-trouble.new.pass) (g.H.Host.served c.args.host.now) (g.H.Host.served c.give_back.new.self)
          (g.C.Clock.given c.args.clock.now) (g.C.Clock.given c.attend-trouble.new.clock) (g.H.Host.handed c.give_back.new.self) (c.connections.next + c.args.server.now.workers)
          (g.H.Host.faults c.give_back.new.self) (g.C.Clock.faults c.attend-trouble.new.clock) c.after-flags.result
          (subst (λ f. SoFar (terms_of c.args.server.now.catalogue.now (g.G.Desk.denies c.args.server.now.desk) (option_copied c.args.server.now.keys) c.args.server.now.workers g.H.In.Source.tells g.H.Out.Sink.tells g.H.Host.tells g.C.Clock.tells g.W.Waiter.tells) c.args.number (inv.works ++ visit one (course_by c.attend-trouble.ensures.added.0 c.attend-trouble.result c.attend-trouble.ensures.added.1) ∷ [])
          (own_of g.G.Desk c.attend-trouble.new.pass) (g.H.Host.served c.args.host.now) (g.H.Host.served c.give_back.new.self) (g.C.Clock.given c.args.clock.now) (g.C.Clock.given c.attend-trouble.new.clock)
          (g.H.Host.handed c.give_back.new.self) (c.connections.next + c.args.server.now.workers) f) (sym c.after-flags.ensures)
          (so-far-more (terms_of c.args.server.now.catalogue.now (g.G.Desk.denies c.args.server.now.desk) (option_copied c.args.server.now.keys) c.args.server.now.workers g.H.In.Source.tells g.H.Out.Sink.tells g.H.Host.tells g.C.Clock.tells g.W.Waiter.tells) c.args.number inv.works
          (own_of g.G.Desk c.connections.pass) (own_of g.G.Desk c.attend-trouble.new.pass) (g.H.Host.served c.args.host.now) (g.H.Host.served c.connections.host) (g.H.Host.served c.give_back.new.self)
          (g.C.Clock.given c.args.clock.now) (g.C.Clock.given c.connections.clock) (g.C.Clock.given c.attend-trouble.new.clock) (g.H.Host.handed c.connections.host) (g.H.Host.handed c.give_back.new.self)
          c.connections.next (c.connections.next + c.args.server.now.workers) c.connections.flags c.attend-trouble.result one c.attend-trouble.ensures.added.0 c.attend-trouble.ensures.added.1 inv.so_far
          (visit-timed c.args.server.now.catalogue.now (g.G.Desk.denies c.args.server.now.desk) (option_copied c.args.server.now.keys) g.H.In.Source.tells g.H.Out.Sink.tells g.C.Clock.tells one c.attend-trouble.result c.attend-trouble.ensures.added.1 c.attend-trouble.ensures.added.0
          (own_of g.G.Desk c.connections.pass) (own_of g.G.Desk c.attend-trouble.new.pass) (g.C.Clock.given c.connections.clock) (g.C.Clock.given c.attend-trouble.new.clock) c.attend-trouble.ensures.added.2)
          (λ told. c.give_back.ensures.connections told ∙ ap (λ list. list ++ one ∷ []) (c.accept.ensures.connections told)) refl c.requires.number
          (c.give_back.ensures.counts.0 ∙ c.in-Conn.ensures.count.1) refl))
          (ap (λ (f : Flags). f.host) c.after-flags.ensures ∙ host-after c.attend-trouble.result c.connections.flags ∙ inv.no_host)
          (c.give_back.ensures.counts.3 ∙ c.in-Conn.ensures.cause ∙ inv.hosted)
          (ap (λ (f : Flags). f.disk) c.after-flags.ensures ∙ ap (λ trouble. (flags_after trouble c.connections.flags).disk) c.in-Disk.is)
          (c.attend-trouble.ensures.broken c.in-Disk.is),
      λ tells. closed-more inv.works (visit one (course_by c.attend-trouble.ensures.added.0 c.attend-trouble.result c.attend-trouble.ensures.added.1))
          (g.W.Waiter.waited c.connections.waiter) (g.W.Waiter.waited c.attend-trouble.new.waiter) (inv.closes tells) (c.attend-trouble.ensures.added.3 tells),
    )

pub returns-in-Failed-clause-left : goal.returns-in-Failed-clause-left
returns-in-Failed-clause-left g c =
    let inv = c.connections.invariant in (
      inv.works,
      subst (λ f. Left true (terms_of c.args.server.now.catalogue.now (g.G.Desk.denies c.args.server.now.desk) (option_copied c.args.server.now.keys) c.args.server.now.workers g.H.In.Source.tells g.H.Out.Sink.tells g.H.Host.tells g.C.Clock.tells g.W.Waiter.tells) c.args.number (g.H.Host.share c.args.host.now) inv.works
          (own_of g.G.Desk c.connections.pass) (g.G.Desk.seen c.connections.pass) (g.H.Host.served c.args.host.now) (g.H.Host.served c.accept.new.self)
          (g.C.Clock.given c.args.clock.now) (g.C.Clock.given c.connections.clock) (g.H.Host.handed c.accept.new.self) (g.H.Host.faults c.accept.new.self) (g.C.Clock.faults c.connections.clock) f)
          (sym c.with_failed_host.ensures)
          (left-failed (terms_of c.args.server.now.catalogue.now (g.G.Desk.denies c.args.server.now.desk) (option_copied c.args.server.now.keys) c.args.server.now.workers g.H.In.Source.tells g.H.Out.Sink.tells g.H.Host.tells g.C.Clock.tells g.W.Waiter.tells) c.args.number (g.H.Host.share c.args.host.now) inv.works
          (own_of g.G.Desk c.connections.pass) (g.G.Desk.seen c.connections.pass) (g.H.Host.served c.args.host.now) (g.H.Host.served c.accept.new.self)
          (g.C.Clock.given c.args.clock.now) (g.C.Clock.given c.connections.clock) (g.H.Host.handed c.accept.new.self) c.connections.next
          (g.H.Host.faults c.accept.new.self) (g.C.Clock.faults c.connections.clock) c.connections.flags
          (so-far-same (terms_of c.args.server.now.catalogue.now (g.G.Desk.denies c.args.server.now.desk) (option_copied c.args.server.now.keys) c.args.server.now.workers g.H.In.Source.tells g.H.Out.Sink.tells g.H.Host.tells g.C.Clock.tells g.W.Waiter.tells) c.args.number inv.works (own_of g.G.Desk c.connections.pass)
          (g.H.Host.served c.args.host.now) (g.H.Host.served c.connections.host) (g.H.Host.served c.accept.new.self) (g.C.Clock.given c.args.clock.now) (g.C.Clock.given c.connections.clock)
          (g.H.Host.handed c.connections.host) (g.H.Host.handed c.accept.new.self) c.connections.next c.connections.flags inv.so_far c.accept.ensures.connections c.in-Failed.ensures.count.1)
          inv.no_disk (omega (arith, c.in-Failed.ensures.cause)) inv.ticked inv.cuts),
      inv.closes,
    )

pub attend-trouble-requires-clause-unheld : goal.attend-trouble-requires-clause-unheld
attend-trouble-requires-clause-unheld g c = c.connections.invariant.unheld c.connections.next (omega arith)
