use Rattle.std.proofs.Common.{◌≡◌, ◌||◌, length, map, sym, ◌∙◌, subst, arith}
use Rattle.std.proofs.lemmas.Grind.{common_steps}
use Rattle.boss_sessions.specs.Speaking.{speech_of}
use Rattle.boss_lock.specs.Places.{entries_at}
use Rattle.boss_outside.specs.Streams.{Writes}
use Rattle.boss_shared.specs.Calls.{RestFits}
use Rattle.boss_shared.specs.Gates.{NextJudged}
use Rattle.def_connection.specs.Batches.{texts_by}
use Rattle.def_connection.specs.Speech.{of_answer}
use Rattle.boss_sessions.specs.Turns.{attached_by, replies_of, Replied, voice}
use Rattle.boss_sessions.proofs.ReplyLemmas.{or-then, or-else}
use Rattle.boss_sessions.proofs.TurnLemmas.{is-rest, turn-replied}
use Rattle.boss_sessions.proofs.turns.one_turn.Goals as goal
use Rattle.boss_sessions.proofs.turns.one_turn.Goals.{then-attached, else-attached}

pub returns-clause-replied : goal.returns-clause-replied
returns-clause-replied g c keys =
    let gates = g.G.Desk.denies c.args.desk.now in
    let speech = speech_of c.args.catalogue.now gates keys in
    let calls = c.args.commands.now in
    let answers = c.call_all-outcomes.new.answers.items in
    let rest = c.call_all-outcomes.result.rest in
    let told = c.tell_replies-told.result in
    let taken = g.K.Sink.taken c.args.sink.now in
    let taken' = g.K.Sink.taken c.tell_replies-told.new.sink in
    let old = voice (entries_at (g.G.Desk.seen c.args.pass.now) (g.G.Desk.mine c.args.pass.now)) taken (g.K.Sink.faults c.args.sink.now) c.args.attached.now (g.G.Desk.seen c.args.pass.now) (g.G.Desk.held c.args.pass.now) in
    let new = voice (entries_at (g.G.Desk.seen c.call_all-outcomes.new.pass) (g.G.Desk.mine c.call_all-outcomes.new.pass)) taken' (g.K.Sink.faults c.tell_replies-told.new.sink)
    c.if-attached.attached (g.G.Desk.seen c.call_all-outcomes.new.pass) (g.G.Desk.held c.call_all-outcomes.new.pass) in
    let same : c.len.result ≡ c.call_all-outcomes.result.done = grind (arith, common_steps) in
    let fits : RestFits calls c.len.result rest = subst (λ n. RestFits calls n rest) (sym same) c.call_all-outcomes.ensures.rest in
    let many : length answers ≡ c.len.result = c.call_all-outcomes.ensures.done ∙ sym same in
    let writes : g.K.Sink.tells → Writes taken taken' (texts_by speech (replies_of answers rest)) told =
    λ tells. subst (λ list. Writes taken taken' (texts_by speech (replies_of list rest)) told) c.as_slice.ensures.value (c.tell_replies-told.ensures.bytes gates keys tells) in
    let accepted : c.attaches-accepted.result ≡ attached_by calls (map of_answer answers) =
    c.attaches-accepted.ensures ∙ (λ i. attached_by (c.slice.ensures i) (map of_answer (c.as_slice-2.ensures.value i))) in
    let attached : c.if-attached.attached ≡ (c.args.attached.now || attached_by calls (map of_answer answers)) = elim c.if-attached.branch [
      | then-attached w ↦ or-then c.args.attached.now _ (attached_by calls (map of_answer answers)) w.if-attached.true (w.attached-is ∙ w.if-attached.true)
      | else-attached w ↦ or-else c.args.attached.now _ (attached_by calls (map of_answer answers)) w.if-attached.false (w.attached-is ∙ accepted)
    ] in
    subst (Replied speech c.args.session g.K.Sink.tells calls old new) (sym c.turn_end.ensures)
    (turn-replied speech c.args.session g.K.Sink.tells calls answers rest told c.len.result old new (is-rest calls c.len.result rest fits) fits many
    c.call_all-outcomes.ensures.batch.deeds_are c.call_all-outcomes.ensures.batch.failed writes c.tell_replies-told.ensures.cause attached
    c.call_all-outcomes.ensures.allowed (subst (λ n. NextJudged gates (g.G.Desk.held c.call_all-outcomes.new.pass) c.args.session calls n rest) (sym same) c.call_all-outcomes.ensures.gate))
