use Rattle.std.proofs.Common.{◌≡◌, ◌++◌, take}
use Rattle.std.specs.List.{flat_map}
use Rattle.boss_watching.specs.Notes.{note_line}
use Rattle.boss_watching.proofs.telling.tell_notices.Given as goal

-- the notices so far were told
abbrev pub invariant-loop-notice : goal.invariant-loop-notice
invariant-loop-notice g l = record {
  room : l.text.capacity ≡ l.fn.text.capacity;
  bytes : g.K.Sink.tells → g.K.Sink.taken l.sink ≡ g.K.Sink.taken l.fn.sink ++ flat_map (note_line l.catalogue) (take l.notice-index l.notices);
  faults : g.K.Sink.faults l.sink ≡ g.K.Sink.faults l.fn.sink;
}
