use Rattle.std.proofs.Common.{◌≡◌, [], ◌∷◌, ◌++◌, ◌∙◌, subst, inr, sym, ap, refl, append-nil, arith, false, true}
use Rattle.std.specs.List.{flat_map}
use Rattle.boss_model.specs.declared.answer.Answer.TheVariants as answer
use Rattle.boss_lock.specs.Places.{entries_at}
use Rattle.def_connection.specs.Talks.{standing, Told}
use Rattle.def_connection.specs.Watching.{is_some_list}
use Rattle.boss_watching.specs.Ends.{is_unanswered_end}
use Rattle.boss_watching.specs.Notes.{note_line, notes}
use Rattle.boss_watching.proofs.Called.{called-call, one-longer, unanswered-call}
use Rattle.boss_watching.proofs.Lines.{err-front, err-rose, err-said, ok-calm, ok-whole}
use Rattle.boss_watching.proofs.Turning.{adds-turn, told-cut, watched-turn, watched-unused, watches-turn}
use Rattle.boss_watching.proofs.turn.take_turn.Goals as goal

-- the clock failed
pub returns-in_default-clause-watched : goal.returns-in_default-clause-watched
returns-in_default-clause-watched g c =
    watched-unused (notes c.args.catalogue.now) c.args.session c.args.name.now g.K.Sink.tells g.C.Clock.tells false c.args.from
    (standing (entries_at (g.G.Desk.seen c.args.pass.now) (g.G.Desk.mine c.args.pass.now)) (g.K.Sink.taken c.args.sink.now) (g.K.Sink.faults c.args.sink.now) (g.C.Clock.given c.args.clock.now) false 0)
    (standing (entries_at (g.G.Desk.seen c.args.pass.now) (g.G.Desk.mine c.args.pass.now)) (g.K.Sink.taken c.args.sink.now) (g.K.Sink.faults c.args.sink.now) (g.C.Clock.given c.now.new.self) false 0)
    [] (omega arith) (λ answered. refl) refl (λ tells. refl) (λ ticks. c.in_default.ensures.moments ticks ∙ sym (append-nil (g.C.Clock.given c.args.clock.now)))

-- the call was not answered
pub returns-in-Err-clause-watched : goal.returns-in-Err-clause-watched
returns-in-Err-clause-watched g c =
    watched-unused (notes c.args.catalogue.now) c.args.session c.args.name.now g.K.Sink.tells g.C.Clock.tells (is_unanswered_end c.in-Err.end) c.args.from
    (standing (entries_at (g.G.Desk.seen c.args.pass.now) (g.G.Desk.mine c.args.pass.now)) (g.K.Sink.taken c.args.sink.now) (g.K.Sink.faults c.args.sink.now) (g.C.Clock.given c.args.clock.now) false 0)
    (standing (entries_at (g.G.Desk.seen c.ask.new.pass) (g.G.Desk.mine c.ask.new.pass)) (g.K.Sink.taken c.args.sink.now) (g.K.Sink.faults c.args.sink.now) (g.C.Clock.given c.now.new.self) false 0)
    (c.in-Ok.moment ∷ []) (omega arith) (unanswered-call c.in-Err.end (c.in-Ok.moment ∷ []) c.in-Err.ensures.call) c.in-Err.ensures.cut (λ tells. refl) c.in-Ok.ensures.moments

-- a notice was not written
pub returns-then-is_err-clause-watched : goal.returns-then-is_err-clause-watched
returns-then-is_err-clause-watched g c =
    let failed = sym c.is_err.ensures.value ∙ c.if-is_err.true in
    watched-turn (notes c.args.catalogue.now) c.args.session c.args.name.now g.K.Sink.tells g.C.Clock.tells false c.args.from
    (standing (entries_at (g.G.Desk.seen c.args.pass.now) (g.G.Desk.mine c.args.pass.now)) (g.K.Sink.taken c.args.sink.now) (g.K.Sink.faults c.args.sink.now) (g.C.Clock.given c.args.clock.now) false 0)
    (standing (entries_at (g.G.Desk.seen c.ask.new.pass) (g.G.Desk.mine c.ask.new.pass)) (g.K.Sink.taken c.tell_notices.new.sink) (g.K.Sink.faults c.tell_notices.new.sink) (g.C.Clock.given c.now.new.self) false 0)
    c.in-Ok.moment (answer.Notices c.in-Ok-ask.ensures.done.0 c.in-Ok-ask.page.next c.in-Ok-ask.page.list) c.in-Ok-ask.ensures.done.1 c.in-Ok.ensures.moments
    (λ tells. subst (λ ns. Told (g.K.Sink.taken c.args.sink.now) (g.K.Sink.taken c.tell_notices.new.sink) (g.K.Sink.faults c.args.sink.now) (g.K.Sink.faults c.tell_notices.new.sink)
    (flat_map (note_line c.args.catalogue.now) ns)) c.slice-notices.ensures (told-cut (g.K.Sink.taken c.args.sink.now) (g.K.Sink.taken c.tell_notices.new.sink) (g.K.Sink.faults c.args.sink.now) (g.K.Sink.faults c.tell_notices.new.sink)
    (flat_map (note_line c.args.catalogue.now) c.slice-notices.result.now)
    (err-front (g.K.Sink.taken c.args.sink.now) (g.K.Sink.taken c.tell_notices.new.sink) (flat_map (note_line c.args.catalogue.now) c.slice-notices.result.now)
    c.tell_notices.result failed (c.tell_notices.ensures.bytes tells))
    (err-rose (g.K.Sink.faults c.args.sink.now) (g.K.Sink.faults c.tell_notices.new.sink) c.tell_notices.result failed c.tell_notices.ensures.cause)))

pub returns-then-is_err-clause-added : goal.returns-then-is_err-clause-added
returns-then-is_err-clause-added g c =
    let failed = sym c.is_err.ensures.value ∙ c.if-is_err.true in
    inr (adds-turn c.args.session c.args.from c.in-Ok.moment c.in-Ok-ask.ensures.done.0 c.in-Ok-ask.page.next c.args.name.now c.in-Ok-ask.page.list true (entries_at (g.G.Desk.seen c.args.pass.now) (g.G.Desk.mine c.args.pass.now)) (entries_at (g.G.Desk.seen c.ask.new.pass) (g.G.Desk.mine c.ask.new.pass)) c.in-Ok-ask.ensures.done.1
    (subst (λ ns. is_some_list ns ≡ true) c.slice-notices.ensures (err-said (is_some_list c.slice-notices.result.now ≡ true) c.tell_notices.result failed c.tell_notices.ensures.some)))

-- all were
pub returns-clause-watches : goal.returns-clause-watches
returns-clause-watches g c =
    let fine = sym c.is_err.ensures.value ∙ c.if-is_err.false in
    watches-turn (notes c.args.catalogue.now) c.args.session c.args.name.now g.K.Sink.tells g.C.Clock.tells false c.args.from
    (standing (entries_at (g.G.Desk.seen c.args.pass.now) (g.G.Desk.mine c.args.pass.now)) (g.K.Sink.taken c.args.sink.now) (g.K.Sink.faults c.args.sink.now) (g.C.Clock.given c.args.clock.now) false 0)
    (standing (entries_at (g.G.Desk.seen c.ask.new.pass) (g.G.Desk.mine c.ask.new.pass)) (g.K.Sink.taken c.tell_notices.new.sink) (g.K.Sink.faults c.tell_notices.new.sink) (g.C.Clock.given c.now.new.self) false 0)
    c.in-Ok.moment (answer.Notices c.in-Ok-ask.ensures.done.0 c.in-Ok-ask.page.next c.in-Ok-ask.page.list) c.in-Ok-ask.ensures.done.1 c.in-Ok.ensures.moments
    (λ tells. ok-whole (g.K.Sink.taken c.args.sink.now) (g.K.Sink.taken c.tell_notices.new.sink) (flat_map (note_line c.args.catalogue.now) c.slice-notices.result.now)
    c.tell_notices.result fine (c.tell_notices.ensures.bytes tells)
    ∙ ap (λ ns. g.K.Sink.taken c.args.sink.now ++ flat_map (note_line c.args.catalogue.now) ns) c.slice-notices.ensures)
    (ok-calm (g.K.Sink.faults c.args.sink.now) (g.K.Sink.faults c.tell_notices.new.sink) c.tell_notices.result fine c.tell_notices.ensures.cause)

pub returns-in-Err-clause-called : goal.returns-in-Err-clause-called
returns-in-Err-clause-called g c = called-call c.in-Err.end (entries_at (g.G.Desk.seen c.args.pass.now) (g.G.Desk.mine c.args.pass.now)) (entries_at (g.G.Desk.seen c.ask.new.pass) (g.G.Desk.mine c.ask.new.pass)) c.in-Err.ensures.call

pub returns-then-is_err-clause-called : goal.returns-then-is_err-clause-called
returns-then-is_err-clause-called g c = one-longer (entries_at (g.G.Desk.seen c.args.pass.now) (g.G.Desk.mine c.args.pass.now)) (entries_at (g.G.Desk.seen c.ask.new.pass) (g.G.Desk.mine c.ask.new.pass)) _ c.in-Ok-ask.ensures.done.1
