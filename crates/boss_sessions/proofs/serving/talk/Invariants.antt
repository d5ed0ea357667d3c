use Rattle.std.proofs.Common.{◌≡◌, true, option_copied}
use Rattle.def_history.specs.History.{is_broken}
use Rattle.boss_sessions.specs.Places.{footing_of, place_of, IsOpen}
use Rattle.boss_sessions.specs.Speaking.{speech_of}
use Rattle.boss_lock.specs.Places.{entries_at}
use Rattle.def_connection.specs.Talks.{standing}
use Rattle.boss_sessions.specs.Holding.{LeavesOthers, Named}
use Rattle.boss_sessions.specs.Rounds.{named, GoesOnAnswered, HasRoom}
use Rattle.boss_sessions.proofs.serving.talk.Given as goal

-- each round so far went on
abbrev pub invariant-loop-end : goal.invariant-loop-end
invariant-loop-end g l = record {
  own : g.G.Desk.owns l.desk l.pass;
  parts : g.G.Desk.parts l.pass ≡ g.G.Desk.parts l.fn.pass;
  ready : IsOpen g.S.Source.tells (place_of l.session.hearing (g.S.Source.left l.source));
  room : HasRoom l.session;
  rounds : Named (g.G.Desk.denies l.desk) l.number (g.G.Desk.held l.pass) (λ name.
      GoesOnAnswered (speech_of l.catalogue (g.G.Desk.denies l.desk) (option_copied l.keys)) l.number g.S.Source.tells g.K.Sink.tells g.C.Clock.tells (footing_of l.fn.session.hearing) (footing_of l.session.hearing)
      (place_of l.fn.session.hearing (g.S.Source.left l.fn.source)) (place_of l.session.hearing (g.S.Source.left l.source))
      (standing (entries_at (g.G.Desk.seen l.fn.pass) (g.G.Desk.mine l.fn.pass)) (g.K.Sink.taken l.fn.sink) (g.K.Sink.faults l.fn.sink) (g.C.Clock.given l.fn.clock) l.fn.session.attached l.fn.session.last)
      (named (standing (entries_at (g.G.Desk.seen l.pass) (g.G.Desk.mine l.pass)) (g.K.Sink.taken l.sink) (g.K.Sink.faults l.sink) (g.C.Clock.given l.clock) l.session.attached l.session.last) name)
      (g.S.Source.reads l.fn.source) (g.S.Source.reads l.source));
  others : LeavesOthers (g.G.Desk.denies l.desk) l.number (g.G.Desk.held l.fn.pass) (g.G.Desk.held l.pass);
  held : g.S.Source.tells → g.S.Source.held l.source ≡ g.S.Source.held l.fn.source;
  read : g.S.Source.faults l.source ≡ g.S.Source.faults l.fn.source;
  written : g.K.Sink.faults l.sink ≡ g.K.Sink.faults l.fn.sink;
  clocked : g.C.Clock.faults l.clock ≡ g.C.Clock.faults l.fn.clock;
  whole : is_broken (g.G.Desk.seen l.pass) ≡ true → is_broken (g.G.Desk.seen l.fn.pass) ≡ true;
}

abbrev pub decreases-loop-end : goal.decreases-loop-end
decreases-loop-end g l = l.session.hearing.lines
