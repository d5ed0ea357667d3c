use Rattle.std.proofs.Common.{ap, sym, subst, ◌∙◌}
use Rattle.boss_outside.specs.Streams.{TakesFront, Writes}
use Rattle.boss_sessions.specs.Turns.{rest_of}
use Rattle.boss_sessions.proofs.PutLemmas.{front-all, puts-all}
use Rattle.boss_sessions.proofs.ReplyLemmas.{texts-replies}
use Rattle.boss_sessions.proofs.replies.tell_replies.Goals as goal

pub returns-in-Ok-clause-bytes : goal.returns-in-Ok-clause-bytes
returns-in-Ok-clause-bytes g c gates keys tells =
    subst (λ text. Writes (g.K.Sink.taken c.args.sink.now) (g.K.Sink.taken c.write.new.self) text c.write.result)
    (sym (texts-replies c.args.catalogue.now gates keys c.args.answers.now c.args.rest.now))
    (puts-all (g.K.Sink.taken c.args.sink.now) c.clear.new.self.bytes (g.K.Sink.taken c.put_answers.new.sink) c.put_answers.new.text.bytes (g.K.Sink.taken c.write.new.self) _ (rest_of c.args.rest.now) _
    c.write.result (ap (λ text. text.bytes) c.clear.ensures) (c.bytes.ensures ∙ ap (λ text. text.bytes) c.put_rest.ensures) (c.in-Ok.ensures.bytes tells) (c.write.ensures.bytes tells))

pub returns-in-Err-clause-bytes : goal.returns-in-Err-clause-bytes
returns-in-Err-clause-bytes g c gates keys tells =
    subst (λ text. TakesFront (g.K.Sink.taken c.args.sink.now) (g.K.Sink.taken c.put_answers.new.sink) text)
    (sym (texts-replies c.args.catalogue.now gates keys c.args.answers.now c.args.rest.now))
    (front-all (g.K.Sink.taken c.args.sink.now) (g.K.Sink.taken c.put_answers.new.sink) c.clear.new.self.bytes _ (rest_of c.args.rest.now) (ap (λ text. text.bytes) c.clear.ensures) (c.in-Err.ensures.bytes tells))
