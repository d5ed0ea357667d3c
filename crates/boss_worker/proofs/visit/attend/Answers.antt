use Rattle.std.proofs.Common.{ℕ, Bool, false, List, sym, ◌∙◌, subst, None, option_copied}
use Rattle.def_lanes.specs.Lanes.{of_session}
use Rattle.boss_outside_server.specs.Pauses.{watch_idle, watch_pause}
use Rattle.def_lanes.specs.Parts.{Added}
use Rattle.def_lanes.specs.Waits.{HasClosed}
use Rattle.def_lanes.proofs.WaitLemmas.{around-at, around-none}
use Rattle.def_history.specs.History.{is_broken}
use Rattle.boss_model.specs.Catalogue.{actuators}
use Rattle.boss_outside_server.specs.Hosts.{served_of}
use Rattle.boss_outside_server.specs.declared.waited.Waited.{Waited}
use Rattle.boss_sessions.specs.Holding.{Holds}
use Rattle.boss_watching.specs.Ends.{is_closed_end}
use Rattle.boss_worker.specs.Desks.{own_of}
use Rattle.boss_worker.specs.Saying.{IsVisit}
use Rattle.boss_worker.specs.Troubles.{course_by, ClockTrouble}
use Rattle.boss_worker.proofs.CauseLemmas.{broken-served, broken-watched, clock-served, clock-watched, not-watch}
use Rattle.boss_worker.proofs.VisitLemmas.{talk-visit, watch-visit}
use Rattle.boss_worker.proofs.visit.attend.Goals as goal

pub returns-in-Watch-clause-added : goal.returns-in-Watch-clause-added
returns-in-Watch-clause-added g c =
    let served = served_of g.S.Source g.K.Sink c.args.session c.serve_connection.new.source c.watch_connection.new.sink in
    subst (λ trouble. (moments : List ℕ) × (closed : Bool) × Added (actuators c.args.catalogue.now) (of_session c.args.session) (λ entries. g.S.Source.tells → IsVisit c.args.catalogue.now (g.G.Desk.denies c.args.desk.now) (option_copied c.args.keys) g.K.Sink.tells served (course_by moments trouble closed) entries)
    g.C.Clock.tells moments (own_of g.G.Desk c.args.pass.now) (own_of g.G.Desk c.watch_connection.new.pass) (g.C.Clock.given c.args.clock.now) (g.C.Clock.given c.watch_connection.new.clock)
    × (g.W.Waiter.tells → HasClosed closed (g.W.Waiter.waited c.args.waiter.now).closes (g.W.Waiter.waited c.watch_connection.new.waiter).closes))
    (sym c.watch_trouble.ensures) (
      c.watch_connection.ensures.watched.moments,
      is_closed_end c.watch_connection.result,
      watch-visit c.args.catalogue.now (g.G.Desk.denies c.args.desk.now) (option_copied c.args.keys) g.S.Source.tells g.K.Sink.tells g.C.Clock.tells served c.requires.some (g.S.Source.left c.args.input.now)
          (λ told. c.serve_connection.ensures.held told ∙ sym c.requires.fresh.whole)
          (own_of g.G.Desk c.args.pass.now) (own_of g.G.Desk c.watch_connection.new.pass) (g.K.Sink.taken c.args.output.now) (g.K.Sink.faults c.args.output.now)
          c.requires.fresh.empty c.requires.fresh.no_write_failed (g.C.Clock.given c.args.clock.now) (g.C.Clock.given c.watch_connection.new.clock)
          (g.S.Source.reads c.args.input.now) (g.S.Source.reads c.serve_connection.new.source)
          (own_of g.G.Desk c.serve_connection.new.pass) (g.K.Sink.taken c.serve_connection.new.sink) (g.K.Sink.faults c.serve_connection.new.sink) (g.C.Clock.given c.serve_connection.new.clock)
          c.in-Watch.name c.in-Watch.from c.watch_connection.result g.W.Waiter.tells (g.W.Waiter.waited c.listen.new.self).pauses (g.W.Waiter.waited c.watch_connection.new.waiter).pauses
          c.in-Watch.ensures.connected c.in-Watch.ensures.written c.watch_connection.ensures.watched c.watch_connection.ensures.called c.watch_connection.ensures.lasted c.watch_connection.ensures.write,
      λ told. subst (λ (it : Waited). HasClosed (is_closed_end c.watch_connection.result) it.closes (g.W.Waiter.waited c.watch_connection.new.waiter).closes)
          (c.listen.ensures.listens told).0 (c.watch_connection.ensures.closes told),
    )

pub returns-in-Watch-clause-clocked : goal.returns-in-Watch-clause-clocked
returns-in-Watch-clause-clocked g c =
    subst (ClockTrouble (g.C.Clock.faults c.args.clock.now) (g.C.Clock.faults c.watch_connection.new.clock)) (sym c.watch_trouble.ensures)
    (clock-watched c.watch_connection.result (g.C.Clock.faults c.args.clock.now) (g.C.Clock.faults c.serve_connection.new.clock) (g.C.Clock.faults c.watch_connection.new.clock) c.in-Watch.ensures.clocked c.watch_connection.ensures.clock)

pub returns-in-Watch-clause-broken : goal.returns-in-Watch-clause-broken
returns-in-Watch-clause-broken g c = λ is. broken-watched c.watch_connection.result (g.G.Desk.seen c.watch_connection.new.pass) c.watch_connection.ensures.disk (sym c.watch_trouble.ensures ∙ is)

pub returns-in_default-clause-added : goal.returns-in_default-clause-added
returns-in_default-clause-added g c =
    let served = served_of g.S.Source g.K.Sink c.args.session c.serve_connection.new.source c.serve_connection.new.sink in
    subst (λ trouble. (moments : List ℕ) × (closed : Bool) × Added (actuators c.args.catalogue.now) (of_session c.args.session) (λ entries. g.S.Source.tells → IsVisit c.args.catalogue.now (g.G.Desk.denies c.args.desk.now) (option_copied c.args.keys) g.K.Sink.tells served (course_by moments trouble closed) entries)
    g.C.Clock.tells moments (own_of g.G.Desk c.args.pass.now) (own_of g.G.Desk c.serve_connection.new.pass) (g.C.Clock.given c.args.clock.now) (g.C.Clock.given c.serve_connection.new.clock)
    × (g.W.Waiter.tells → HasClosed closed (g.W.Waiter.waited c.args.waiter.now).closes (g.W.Waiter.waited c.args.waiter.now).closes))
    (sym c.session_trouble.ensures) (
      c.serve_connection.ensures.connected.talked.moments,
      false,
      talk-visit c.args.catalogue.now (g.G.Desk.denies c.args.desk.now) (option_copied c.args.keys) g.S.Source.tells g.K.Sink.tells g.C.Clock.tells served c.requires.some (g.S.Source.left c.args.input.now)
          (λ told. c.serve_connection.ensures.held told ∙ sym c.requires.fresh.whole)
          (own_of g.G.Desk c.args.pass.now) (own_of g.G.Desk c.serve_connection.new.pass) (g.K.Sink.taken c.args.output.now) (g.K.Sink.faults c.args.output.now)
          c.requires.fresh.empty c.requires.fresh.no_write_failed (g.C.Clock.given c.args.clock.now) (g.C.Clock.given c.serve_connection.new.clock)
          (g.S.Source.reads c.args.input.now) (g.S.Source.faults c.args.input.now) c.serve_connection.result c.requires.fresh.unread c.serve_connection.ensures.connected c.requires.fresh.no_read_failed c.serve_connection.ensures.read c.serve_connection.ensures.written
          (not-watch c.serve_connection.result c.in_default.not-Watch),
      λ tells. (around-none watch_pause (g.W.Waiter.waited c.args.waiter.now)).closes,
    )

pub returns-in_default-clause-clocked : goal.returns-in_default-clause-clocked
returns-in_default-clause-clocked g c =
    subst (ClockTrouble (g.C.Clock.faults c.args.clock.now) (g.C.Clock.faults c.serve_connection.new.clock)) (sym c.session_trouble.ensures)
    (clock-served c.serve_connection.result (g.C.Clock.faults c.args.clock.now) (g.C.Clock.faults c.serve_connection.new.clock) c.serve_connection.ensures.clocked)

pub returns-in_default-clause-broken : goal.returns-in_default-clause-broken
returns-in_default-clause-broken g c = λ is. broken-served c.serve_connection.result (is_broken (g.G.Desk.seen c.args.pass.now)) (is_broken (g.G.Desk.seen c.serve_connection.new.pass)) c.serve_connection.ensures.kept (sym c.session_trouble.ensures ∙ is)

pub returns-in-Watch-clause-others : goal.returns-in-Watch-clause-others
returns-in-Watch-clause-others g c = λ other apart holds.
    subst (Holds (g.G.Desk.denies c.args.desk.now) other None) (sym c.watch_connection.ensures.held) (c.in-Watch.ensures.others other apart holds)

pub returns-in-Watch-clause-waited : goal.returns-in-Watch-clause-waited
returns-in-Watch-clause-waited g c = λ tells. around-at watch_pause c.name_bell.result (g.W.Waiter.waited c.args.waiter.now) (g.W.Waiter.waited c.listen.new.self)
    (g.W.Waiter.waited c.watch_connection.new.waiter) (c.listen.ensures.listens tells).0 (c.watch_connection.ensures.waited tells)

pub returns-in_default-clause-waited : goal.returns-in_default-clause-waited
returns-in_default-clause-waited g c = λ tells. around-none watch_pause (g.W.Waiter.waited c.args.waiter.now)
