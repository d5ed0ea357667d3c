use Rattle.std.proofs.Common.{◌≡◌, ◌+◌, ◌≤◌, length, take}
use Rattle.std.specs.List.{flat_map}
use Rattle.def_wire.specs.Texts.{answer_text, line_of}
use Rattle.boss_sessions.specs.Replies.{last_room, Puts}
use Rattle.boss_sessions.proofs.replies.put_answers.Given as goal

-- the answers so far were put
abbrev pub invariant-loop-answer : goal.invariant-loop-answer
invariant-loop-answer g l = record {
  room : l.text.capacity ≡ l.initial.text.capacity;
  held : length l.text.bytes + last_room ≤ l.text.capacity;
  put : g.K.Sink.tells → Puts (g.K.Sink.taken l.initial.sink) l.initial.text.bytes (g.K.Sink.taken l.sink) l.text.bytes
      (flat_map (λ answer. line_of (answer_text l.catalogue answer)) (take l.answer-index l.answers));
  calm : g.K.Sink.faults l.sink ≡ g.K.Sink.faults l.initial.sink;
}
