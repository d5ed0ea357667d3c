use Rattle.std.proofs.Common.{option_copied, refl, ap}
use Rattle.boss_sessions.specs.Places.{place_of}
use Rattle.boss_sessions.specs.Speaking.{speech_of}
use Rattle.def_history.specs.History.{is_broken}
use Rattle.boss_lock.specs.Places.{entries_at}
use Rattle.boss_sessions.proofs.PartingLemmas.{connected-parted, connected-whole, fails-whole, parts-clock, parts-disk, parts-fails, parts-read, parts-write}
use Rattle.boss_sessions.proofs.SessionLemmas.{connected-none}
use Rattle.boss_sessions.proofs.serving.serve_connection.Goals as goal

pub returns-in_default-clause-connected : goal.returns-in_default-clause-connected
returns-in_default-clause-connected g c =
    connected-none (speech_of c.args.catalogue.now (g.G.Desk.denies c.args.desk.now) (option_copied c.args.keys)) c.args.session g.S.Source.tells g.K.Sink.tells g.C.Clock.tells (g.S.Source.left c.args.source.now) _ _ refl refl refl

pub returns-then-not-state-clause-connected : goal.returns-then-not-state-clause-connected
returns-then-not-state-clause-connected g c =
    connected-whole (speech_of c.args.catalogue.now (g.G.Desk.denies c.args.desk.now) (option_copied c.args.keys)) c.args.session g.S.Source.tells g.K.Sink.tells g.C.Clock.tells
    (place_of c.in-Ok.state.hearing (g.S.Source.left c.args.source.now)) (place_of c.talk-end.new.session.hearing (g.S.Source.left c.talk-end.new.source))
    _ _ _ _ c.in-Ok.state.attached c.in-Ok.state.last _ _ _ _ c.talk-end.new.session.attached c.talk-end.new.session.last c.talk-end.ensures.ended.0 _ _ c.talk-end.result
    (ap (λ reader. reader.ahead) c.in-Ok.ensures.reader) c.in-Ok.ensures.lines c.in-Ok.ensures.attached c.in-Ok.ensures.last c.talk-end.ensures.ended.2 c.if-not-state.true

pub returns-then-not-state-clause-last : goal.returns-then-not-state-clause-last
returns-then-not-state-clause-last g c =
    fails-whole (speech_of c.args.catalogue.now (g.G.Desk.denies c.args.desk.now) (option_copied c.args.keys)) c.args.session g.S.Source.tells g.K.Sink.tells g.C.Clock.tells
    (place_of c.in-Ok.state.hearing (g.S.Source.left c.args.source.now)) (place_of c.talk-end.new.session.hearing (g.S.Source.left c.talk-end.new.source))
    _ _ _ _ c.in-Ok.state.attached c.in-Ok.state.last _ _ _ _ c.talk-end.new.session.attached c.talk-end.new.session.last c.talk-end.ensures.ended.0 _ _ c.talk-end.result
    (ap (λ reader. reader.ahead) c.in-Ok.ensures.reader) c.in-Ok.ensures.lines c.in-Ok.ensures.attached c.in-Ok.ensures.last c.talk-end.ensures.ended.2 c.if-not-state.true

pub returns-clause-connected : goal.returns-clause-connected
returns-clause-connected g c =
    connected-parted (speech_of c.args.catalogue.now (g.G.Desk.denies c.args.desk.now) (option_copied c.args.keys)) c.args.session g.S.Source.tells g.K.Sink.tells g.C.Clock.tells
    (place_of c.in-Ok.state.hearing (g.S.Source.left c.args.source.now)) (place_of c.talk-end.new.session.hearing (g.S.Source.left c.talk-end.new.source))
    _ _ _ _ c.in-Ok.state.attached c.in-Ok.state.last _ _ _ _ c.talk-end.new.session.attached c.talk-end.new.session.last c.talk-end.ensures.ended.0 _ _ c.talk-end.result
    (ap (λ reader. reader.ahead) c.in-Ok.ensures.reader) c.in-Ok.ensures.lines c.in-Ok.ensures.attached c.in-Ok.ensures.last c.talk-end.ensures.ended.2
    _ _ _ c.part.result c.if-not-state.false c.part.ensures.parted

pub returns-clause-read : goal.returns-clause-read
returns-clause-read g c = parts-read (g.S.Source.faults c.args.source.now) (g.S.Source.faults c.talk-end.new.source) c.part.ensures.parted.outcome (is_broken (g.G.Desk.seen c.part.new.pass)) c.talk-end.result c.part.result c.part.ensures.parted.leaves c.talk-end.ensures.read

pub returns-clause-written : goal.returns-clause-written
returns-clause-written g c = parts-write (g.K.Sink.faults c.args.sink.now) (g.K.Sink.faults c.talk-end.new.sink) c.part.ensures.parted.outcome (is_broken (g.G.Desk.seen c.part.new.pass)) c.talk-end.result c.part.result c.part.ensures.parted.leaves c.talk-end.ensures.written

pub returns-clause-clocked : goal.returns-clause-clocked
returns-clause-clocked g c = parts-clock (g.C.Clock.faults c.args.clock.now) (g.C.Clock.faults c.talk-end.new.clock) c.part.ensures.parted.outcome (is_broken (g.G.Desk.seen c.part.new.pass)) c.talk-end.result c.part.result c.part.ensures.parted.leaves c.talk-end.ensures.clocked

pub returns-clause-kept : goal.returns-clause-kept
returns-clause-kept g c =
    parts-disk (is_broken (g.G.Desk.seen c.args.pass.now)) (is_broken (g.G.Desk.seen c.talk-end.new.pass)) (is_broken (g.G.Desk.seen c.part.new.pass)) c.part.ensures.parted.outcome c.talk-end.result c.part.result c.part.ensures.parted.stood c.part.ensures.parted.leaves c.talk-end.ensures.kept

pub returns-clause-last : goal.returns-clause-last
returns-clause-last g c =
    parts-fails c.args.session c.talk-end.new.session.last (entries_at (g.G.Desk.seen c.args.pass.now) (g.G.Desk.mine c.args.pass.now)) (entries_at (g.G.Desk.seen c.talk-end.new.pass) (g.G.Desk.mine c.talk-end.new.pass)) (entries_at (g.G.Desk.seen c.part.new.pass) (g.G.Desk.mine c.part.new.pass))
    (is_broken (g.G.Desk.seen c.args.pass.now)) (is_broken (g.G.Desk.seen c.talk-end.new.pass)) (is_broken (g.G.Desk.seen c.part.new.pass)) c.part.ensures.parted.outcome c.talk-end.result c.part.result c.part.ensures.parted.grew c.part.ensures.parted.stood
    c.part.ensures.parted.leaves c.talk-end.ensures.kept

pub returns-in_default-clause-others : goal.returns-in_default-clause-others
returns-in_default-clause-others g c other apart holds = holds

pub returns-clause-others : goal.returns-clause-others
returns-clause-others g c other apart holds = c.part.ensures.others other apart (c.talk-end.ensures.others other apart holds)
