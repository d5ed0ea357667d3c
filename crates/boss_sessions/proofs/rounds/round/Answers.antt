use Rattle.std.proofs.Common.{◌≡◌, [], map, None, Some, option_copied, refl, ap, sym, ◌∙◌, subst, arith}
use Rattle.boss_model.specs.Catalogue.{actuators}
use Rattle.def_history.specs.History.{is_broken}
use Rattle.boss_sessions.specs.Gathered.{Gathered}
use Rattle.boss_sessions.specs.Places.{footing_of, place_of}
use Rattle.boss_sessions.specs.Speaking.{speech_of}
use Rattle.boss_lock.specs.Places.{entries_at}
use Rattle.def_connection.specs.Batches.{AreAsked, batch}
use Rattle.def_connection.specs.Judging.{name_in}
use Rattle.def_connection.specs.Speech.{last_or}
use Rattle.def_connection.specs.Talks.{standing}
use Rattle.boss_sessions.specs.Rounds.{named, Ended, Rounded}
use Rattle.boss_sessions.proofs.AnsweredLemmas.{last-soon}
use Rattle.boss_sessions.specs.Ends.{end_behind, DiskCause, WriteCause}
use Rattle.boss_sessions.specs.Turns.{voice}
use Rattle.boss_sessions.proofs.CauseLemmas.{disk-behind, disk-halted, write-behind, write-halted}
use Rattle.boss_sessions.proofs.HoldingLemmas.{batch-judged, others-judged}
use Rattle.boss_sessions.proofs.RoundLemmas.{batch-goes, round-ends, round-halted}
use Rattle.boss_sessions.proofs.rounds.round.Goals as goal

pub returns-in-Err-clause-room : goal.returns-in-Err-clause-room
returns-in-Err-clause-room g c =
    let calls = c.hear-heard.new.commands.items in
    let last : c.last_moment-session.result ≡ last_or c.args.session.now.last (map (λ call. call.1) calls) =
    c.last_moment-session.ensures ∙ ap (λ list. last_or c.args.session.now.last (map (λ call. call.1) list)) c.as_slice.ensures.value in
    record {
      answers = omega (arith, c.answer_all-answered.ensures.room, c.requires.room.answers);
      text = omega (arith, c.answer_all-answered.ensures.text, c.requires.room.text);
      soon = omega (arith, last, last-soon (actuators c.args.catalogue.now) calls c.args.session.now.last c.hear-heard.ensures.may c.requires.room.soon);
    }

pub returns-in-Ok-clause-room : goal.returns-in-Ok-clause-room
returns-in-Ok-clause-room g c =
    let calls = c.hear-heard.new.commands.items in
    let last : c.last_moment-session.result ≡ last_or c.args.session.now.last (map (λ call. call.1) calls) =
    c.last_moment-session.ensures ∙ ap (λ list. last_or c.args.session.now.last (map (λ call. call.1) list)) c.as_slice.ensures.value in
    record {
      answers = omega (arith, c.answer_all-answered.ensures.room, c.requires.room.answers);
      text = omega (arith, c.tell_behind-told.ensures.room, c.answer_all-answered.ensures.text, c.requires.room.text);
      soon = omega (arith, last, last-soon (actuators c.args.catalogue.now) calls c.args.session.now.last c.hear-heard.ensures.may c.requires.room.soon);
    }

pub returns-in-Err-clause-rounded : goal.returns-in-Err-clause-rounded
returns-in-Err-clause-rounded g c name holds =
    let gates = g.G.Desk.denies c.args.desk.now in
    let speech = speech_of c.args.catalogue.now gates (option_copied c.args.keys) in
    let calls = c.hear-heard.new.commands.items in
    let given = g.C.Clock.given c.args.clock.now in
    let given' = g.C.Clock.given c.hear-heard.new.clock in
    let place = place_of c.args.session.now.hearing (g.S.Source.left c.args.source.now) in
    let place' = place_of c.hear-heard.new.hearing (g.S.Source.left c.hear-heard.new.source) in
    let at = footing_of c.args.session.now.hearing in
    let at' = footing_of c.hear-heard.new.hearing in
    let heard = c.hear-heard.result in
    let held = g.G.Desk.held c.args.pass.now in
    let held' = g.G.Desk.held c.answer_all-answered.new.pass in
    let last : c.last_moment-session.result ≡ last_or c.args.session.now.last (map (λ call. call.1) calls) =
    c.last_moment-session.ensures ∙ ap (λ list. last_or c.args.session.now.last (map (λ call. call.1) list)) c.as_slice.ensures.value in
    let gathered : Gathered speech.manner g.S.Source.tells g.C.Clock.tells at at' [] calls given given' place place' heard =
    subst (λ cs. Gathered speech.manner g.S.Source.tells g.C.Clock.tells at at' cs calls given given' place place' heard) c.new-commands.ensures.items c.hear-heard.ensures.gathered in
    let r = c.in-Err.ensures.replied (option_copied c.args.keys) in
    let judged = batch-judged speech.manner gates c.args.number name at gathered.waiting calls r.replies held held'
    (subst (λ cs. AreAsked speech.manner at gathered.waiting cs) (sym gathered.held) gathered.asked) r.judged holds in
    let a = named (standing (entries_at (g.G.Desk.seen c.args.pass.now) (g.G.Desk.mine c.args.pass.now)) (g.K.Sink.taken c.args.sink.now) (g.K.Sink.faults c.args.sink.now) given
    c.args.session.now.attached c.args.session.now.last) name in
    let b = named (standing (entries_at (g.G.Desk.seen c.answer_all-answered.new.pass) (g.G.Desk.mine c.answer_all-answered.new.pass)) (g.K.Sink.taken c.answer_all-answered.new.sink)
    (g.K.Sink.faults c.answer_all-answered.new.sink) given' c.answer_all-answered.new.attached c.last_moment-session.result) (name_in name (batch gathered.waiting calls r.replies)) in (
      name_in name (batch gathered.waiting calls r.replies),
      judged.1,
      subst (λ e. Ended speech c.args.number g.S.Source.tells g.K.Sink.tells g.C.Clock.tells at place place' a b e) (sym c.end_at.ensures)
          (round-halted speech c.args.number g.S.Source.tells g.K.Sink.tells g.C.Clock.tells at at' place place' heard c.in-Err.halt calls a b _ _ held held' gathered last c.hear-heard.ensures.few r judged.0),
    )

pub returns-in-Ok-clause-rounded : goal.returns-in-Ok-clause-rounded
returns-in-Ok-clause-rounded g c name holds =
    let gates = g.G.Desk.denies c.args.desk.now in
    let speech = speech_of c.args.catalogue.now gates (option_copied c.args.keys) in
    let calls = c.hear-heard.new.commands.items in
    let given = g.C.Clock.given c.args.clock.now in
    let given' = g.C.Clock.given c.hear-heard.new.clock in
    let place = place_of c.args.session.now.hearing (g.S.Source.left c.args.source.now) in
    let place' = place_of c.hear-heard.new.hearing (g.S.Source.left c.hear-heard.new.source) in
    let at = footing_of c.args.session.now.hearing in
    let at' = footing_of c.hear-heard.new.hearing in
    let heard = c.hear-heard.result in
    let own' = entries_at (g.G.Desk.seen c.answer_all-answered.new.pass) (g.G.Desk.mine c.answer_all-answered.new.pass) in
    let taken = g.K.Sink.taken c.tell_behind-told.new.sink in
    let faults = g.K.Sink.faults c.tell_behind-told.new.sink in
    let held = g.G.Desk.held c.args.pass.now in
    let held' = g.G.Desk.held c.answer_all-answered.new.pass in
    let last : c.last_moment-session.result ≡ last_or c.args.session.now.last (map (λ call. call.1) calls) =
    c.last_moment-session.ensures ∙ ap (λ list. last_or c.args.session.now.last (map (λ call. call.1) list)) c.as_slice.ensures.value in
    let gathered : Gathered speech.manner g.S.Source.tells g.C.Clock.tells at at' [] calls given given' place place' heard =
    subst (λ cs. Gathered speech.manner g.S.Source.tells g.C.Clock.tells at at' cs calls given given' place place' heard) c.new-commands.ensures.items c.hear-heard.ensures.gathered in
    let r = c.in-Ok.ensures.replied (option_copied c.args.keys) in
    let judged = batch-judged speech.manner gates c.args.number name at gathered.waiting calls r.replies held held'
    (subst (λ cs. AreAsked speech.manner at gathered.waiting cs) (sym gathered.held) gathered.asked) r.judged holds in
    let name' = name_in name (batch gathered.waiting calls r.replies) in
    let a = named (standing (entries_at (g.G.Desk.seen c.args.pass.now) (g.G.Desk.mine c.args.pass.now)) (g.K.Sink.taken c.args.sink.now) (g.K.Sink.faults c.args.sink.now) given
    c.args.session.now.attached c.args.session.now.last) name in
    let m = named (standing own' (g.K.Sink.taken c.answer_all-answered.new.sink) (g.K.Sink.faults c.answer_all-answered.new.sink) given' c.answer_all-answered.new.attached c.last_moment-session.result) name' in
    let b = named (standing own' taken faults given' c.answer_all-answered.new.attached c.last_moment-session.result) name' in (
      name',
      judged.1,
      subst (λ r. Rounded speech c.args.number g.S.Source.tells g.K.Sink.tells g.C.Clock.tells at at' place place' a b r) (sym c.end_behind.ensures)
          (round-ends speech c.args.number g.S.Source.tells g.K.Sink.tells g.C.Clock.tells at at' place place' gathered.waiting gathered.behind gathered.all a m taken faults
          gathered.spoken gathered.advances
          (batch-goes speech c.args.number g.S.Source.tells g.K.Sink.tells g.C.Clock.tells at at' place place' heard calls a m _ _ held held' gathered last r judged.0 refl)
          heard c.tell_behind-told.result gathered.behind_is c.hear-heard.ensures.end
          (λ told. c.tell_behind-told.ensures.bytes c.args.catalogue.now gates (option_copied c.args.keys) told) c.tell_behind-told.ensures.cause),
    )

pub returns-in-Err-clause-others : goal.returns-in-Err-clause-others
returns-in-Err-clause-others g c = others-judged (g.G.Desk.denies c.args.desk.now) c.args.number c.hear-heard.new.commands.items (c.in-Err.ensures.replied None).replies
    (g.G.Desk.held c.args.pass.now) (g.G.Desk.held c.answer_all-answered.new.pass) (c.in-Err.ensures.replied None).judged

pub returns-in-Ok-clause-others : goal.returns-in-Ok-clause-others
returns-in-Ok-clause-others g c = others-judged (g.G.Desk.denies c.args.desk.now) c.args.number c.hear-heard.new.commands.items (c.in-Ok.ensures.replied None).replies
    (g.G.Desk.held c.args.pass.now) (g.G.Desk.held c.answer_all-answered.new.pass) (c.in-Ok.ensures.replied None).judged

pub returns-in-Err-clause-written : goal.returns-in-Err-clause-written
returns-in-Err-clause-written g c =
    let old = voice (entries_at (g.G.Desk.seen c.args.pass.now) (g.G.Desk.mine c.args.pass.now)) (g.K.Sink.taken c.args.sink.now) (g.K.Sink.faults c.args.sink.now)
    c.args.session.now.attached (g.G.Desk.seen c.args.pass.now) (g.G.Desk.held c.args.pass.now) in
    let new = voice (entries_at (g.G.Desk.seen c.answer_all-answered.new.pass) (g.G.Desk.mine c.answer_all-answered.new.pass)) (g.K.Sink.taken c.answer_all-answered.new.sink)
    (g.K.Sink.faults c.answer_all-answered.new.sink) c.answer_all-answered.new.attached (g.G.Desk.seen c.answer_all-answered.new.pass) (g.G.Desk.held c.answer_all-answered.new.pass) in
    subst (λ e. WriteCause (g.K.Sink.faults c.args.sink.now) (g.K.Sink.faults c.answer_all-answered.new.sink) (Some e)) (sym c.end_at.ensures)
    (write-halted (speech_of c.args.catalogue.now (g.G.Desk.denies c.args.desk.now) None) c.args.number g.K.Sink.tells c.hear-heard.new.commands.items old new c.in-Err.halt c.hear-heard.result
    (c.in-Err.ensures.replied None).comes.1)

pub returns-in-Err-clause-kept : goal.returns-in-Err-clause-kept
returns-in-Err-clause-kept g c =
    let old = voice (entries_at (g.G.Desk.seen c.args.pass.now) (g.G.Desk.mine c.args.pass.now)) (g.K.Sink.taken c.args.sink.now) (g.K.Sink.faults c.args.sink.now)
    c.args.session.now.attached (g.G.Desk.seen c.args.pass.now) (g.G.Desk.held c.args.pass.now) in
    let new = voice (entries_at (g.G.Desk.seen c.answer_all-answered.new.pass) (g.G.Desk.mine c.answer_all-answered.new.pass)) (g.K.Sink.taken c.answer_all-answered.new.sink)
    (g.K.Sink.faults c.answer_all-answered.new.sink) c.answer_all-answered.new.attached (g.G.Desk.seen c.answer_all-answered.new.pass) (g.G.Desk.held c.answer_all-answered.new.pass) in
    subst (λ e. DiskCause (is_broken (g.G.Desk.seen c.args.pass.now)) (is_broken (g.G.Desk.seen c.answer_all-answered.new.pass)) (Some e)) (sym c.end_at.ensures)
    (disk-halted (speech_of c.args.catalogue.now (g.G.Desk.denies c.args.desk.now) None) c.args.number g.K.Sink.tells c.hear-heard.new.commands.items old new c.in-Err.halt c.hear-heard.result
    (c.in-Err.ensures.replied None).comes.1)

pub returns-in-Ok-clause-written : goal.returns-in-Ok-clause-written
returns-in-Ok-clause-written g c =
    let told = g.K.Sink.faults c.tell_behind-told.new.sink in
    subst (WriteCause (g.K.Sink.faults c.args.sink.now) told) (sym c.end_behind.ensures)
    (subst (λ n. WriteCause n told (end_behind c.hear-heard.result c.tell_behind-told.result)) (c.in-Ok.ensures.replied None).comes.calm
    (write-behind (g.K.Sink.faults c.answer_all-answered.new.sink) told c.hear-heard.result c.tell_behind-told.result c.tell_behind-told.ensures.cause))

pub returns-in-Ok-clause-kept : goal.returns-in-Ok-clause-kept
returns-in-Ok-clause-kept g c =
    subst (DiskCause (is_broken (g.G.Desk.seen c.args.pass.now)) (is_broken (g.G.Desk.seen c.answer_all-answered.new.pass))) (sym c.end_behind.ensures)
    (disk-behind (is_broken (g.G.Desk.seen c.args.pass.now)) (is_broken (g.G.Desk.seen c.answer_all-answered.new.pass)) c.hear-heard.result c.tell_behind-told.result
    (c.in-Ok.ensures.replied None).comes.whole)
