use Rattle.std.proofs.Common.{None, option_copied, refl, ◌∙◌, subst}
use Rattle.boss_sessions.specs.Places.{place_of}
use Rattle.boss_sessions.specs.Speaking.{speech_of}
use Rattle.boss_lock.specs.Places.{entries_at}
use Rattle.def_connection.specs.Talks.{standing}
use Rattle.boss_sessions.specs.Rounds.{named, EndedAnswered}
use Rattle.boss_sessions.proofs.SessionLemmas.{ended-then, goes-on-nothing, goes-on-then}
use Rattle.boss_sessions.proofs.serving.talk.Goals as goal

pub loop-end-init : goal.loop-end-init
loop-end-init g c = record {
  own = c.requires.own;
  parts = refl;
  ready = c.requires.ready;
  room = c.requires.room;
  rounds = (
    None,
    c.requires.unheld,
    goes-on-nothing (speech_of c.args.catalogue.now (g.G.Desk.denies c.args.desk.now) (option_copied c.args.keys)) c.args.number g.S.Source.tells g.K.Sink.tells g.C.Clock.tells _ _ _ _ c.requires.ready.over,
  );
  others = λ other apart holds. holds;
  held = λ told. refl;
  read = refl;
  written = refl;
  clocked = refl;
  whole = λ is. is;
}

pub returns-in-Some-clause-ended : goal.returns-in-Some-clause-ended
returns-in-Some-clause-ended g c =
    let speech = speech_of c.args.catalogue.now (g.G.Desk.denies c.args.desk.now) (option_copied c.args.keys) in
    let before = c.loop-end.invariant.rounds in
    let done = c.in-Some.ensures.rounded before.0 before.1 in
    let place = place_of c.args.session.now.hearing (g.S.Source.left c.args.source.now) in
    let place' = place_of c.round.new.session.hearing (g.S.Source.left c.round.new.source) in
    let old = standing (entries_at (g.G.Desk.seen c.args.pass.now) (g.G.Desk.mine c.args.pass.now)) (g.K.Sink.taken c.args.sink.now) (g.K.Sink.faults c.args.sink.now)
    (g.C.Clock.given c.args.clock.now) c.args.session.now.attached c.args.session.now.last in
    let new = named (standing (entries_at (g.G.Desk.seen c.round.new.pass) (g.G.Desk.mine c.round.new.pass)) (g.K.Sink.taken c.round.new.sink) (g.K.Sink.faults c.round.new.sink)
    (g.C.Clock.given c.round.new.clock) c.round.new.session.attached c.round.new.session.last) done.0 in (
      done.0,
      done.1,
      subst (λ first. EndedAnswered speech c.args.number g.S.Source.tells g.K.Sink.tells g.C.Clock.tells first place place' old new
          (g.S.Source.reads c.args.source.now) (g.S.Source.reads c.round.new.source) c.in-Some.end) c.requires.first
          (ended-then speech c.args.number g.S.Source.tells g.K.Sink.tells g.C.Clock.tells _ _ _ _ place' _ _ new _ _ _ c.in-Some.end before.2 done.2 c.round.ensures.reads),
    )

pub returns-in-Some-clause-others : goal.returns-in-Some-clause-others
returns-in-Some-clause-others g c other apart holds = c.in-Some.ensures.others other apart (c.loop-end.invariant.others other apart holds)

pub loop-end-preserved : goal.loop-end-preserved
loop-end-preserved g c =
    let inv = c.loop-end.invariant in
    let done = c.in_default.ensures.rounded inv.rounds.0 inv.rounds.1 in
    record {
      own = c.round.ensures.own;
      parts = c.round.ensures.parts ∙ inv.parts;
      ready = done.2.1;
      room = c.round.ensures.room;
      rounds = (
        done.0,
        done.1,
        goes-on-then (speech_of c.args.catalogue.now (g.G.Desk.denies c.args.desk.now) (option_copied c.args.keys)) c.args.number g.S.Source.tells g.K.Sink.tells g.C.Clock.tells _ _ _ _ _ _ _ _ _ _ _ _ inv.rounds.2 done.2.0 c.round.ensures.reads,
      );
      others = λ other apart holds. c.in_default.ensures.others other apart (inv.others other apart holds);
      held = λ told. c.in_default.ensures.held told ∙ inv.held told;
      read = c.in_default.ensures.read ∙ inv.read;
      written = c.in_default.ensures.written ∙ inv.written;
      clocked = c.in_default.ensures.clocked ∙ inv.clocked;
      whole = λ is. inv.whole (c.in_default.ensures.kept is);
    }
