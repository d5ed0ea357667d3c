use Rattle.std.proofs.Common.{[], ap}
use Rattle.def_wire.specs.Texts.{answer_text, line_of}
use Rattle.boss_sessions.proofs.PutLemmas.{front-more, puts-behind}
use Rattle.boss_sessions.proofs.replies.put_answer.Goals as goal

pub returns-in-Ok-clause-bytes : goal.returns-in-Ok-clause-bytes
returns-in-Ok-clause-bytes g c tells =
    puts-behind (g.K.Sink.taken c.args.sink.now) c.args.text.now.bytes (g.K.Sink.taken c.make_room.new.sink) c.make_room.new.text.bytes c.put_answer_line.new.into.bytes
    (line_of (answer_text c.args.catalogue.now c.args.answer.now)) (c.in-Ok.ensures.bytes tells) (ap (λ text. text.bytes) c.put_answer_line.ensures.text)

pub returns-in-Err-clause-bytes : goal.returns-in-Err-clause-bytes
returns-in-Err-clause-bytes g c tells =
    front-more (g.K.Sink.taken c.args.sink.now) (g.K.Sink.taken c.make_room.new.sink) c.args.text.now.bytes [] (line_of (answer_text c.args.catalogue.now c.args.answer.now)) (c.in-Err.ensures.bytes tells)
