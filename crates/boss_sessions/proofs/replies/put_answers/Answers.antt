use Rattle.std.proofs.Common.{◌+◌, refl, sym, ◌∙◌, subst, arith}
use Rattle.def_wire.specs.Texts.{answer_text, line_of}
use Rattle.boss_sessions.specs.Replies.{Puts}
use Rattle.boss_sessions.proofs.PutLemmas.{puts-nothing, puts-then}
use Rattle.boss_sessions.proofs.ReplyLemmas.{flat-next, front-part}
use Rattle.boss_sessions.proofs.replies.put_answers.Goals as goal

pub loop-answer-init : goal.loop-answer-init
loop-answer-init g c = record {
  room = refl;
  held = c.requires.held;
  put = λ tells. puts-nothing (g.K.Sink.taken c.args.sink.now) c.args.text.now.bytes;
  calm = refl;
}

pub returns-in-Err-clause-bytes : goal.returns-in-Err-clause-bytes
returns-in-Err-clause-bytes g c tells =
    front-part (λ answer. line_of (answer_text c.args.catalogue.now answer)) c.args.answers.now c.loop-answer.answer-index c.answer-item.result
    (g.K.Sink.taken c.args.sink.now) c.args.text.now.bytes (g.K.Sink.taken c.loop-answer.sink) c.loop-answer.text.bytes (g.K.Sink.taken c.put_answer.new.sink)
    c.loop-answer-test.true c.answer-item.is (c.loop-answer.invariant.put tells) (c.in-Err.ensures.bytes tells)

pub loop-answer-preserved : goal.loop-answer-preserved
loop-answer-preserved g c =
    let inv = c.loop-answer.invariant in
    record {
      room = c.put_answer.ensures.room ∙ inv.room;
      held = c.in_default.ensures.held;
      put = λ tells. subst (Puts (g.K.Sink.taken c.args.sink.now) c.args.text.now.bytes (g.K.Sink.taken c.put_answer.new.sink) c.put_answer.new.text.bytes)
          (sym (flat-next (λ answer. line_of (answer_text c.args.catalogue.now answer)) c.args.answers.now c.loop-answer.answer-index (c.loop-answer.answer-index + 1) c.answer-item.result (omega arith) c.loop-answer-test.true c.answer-item.is))
          (puts-then (g.K.Sink.taken c.args.sink.now) c.args.text.now.bytes (g.K.Sink.taken c.loop-answer.sink) c.loop-answer.text.bytes (g.K.Sink.taken c.put_answer.new.sink) c.put_answer.new.text.bytes
          _ _ (inv.put tells) (c.in_default.ensures.bytes tells));
      calm = c.in_default.ensures.cause.fine ∙ inv.calm;
    }
