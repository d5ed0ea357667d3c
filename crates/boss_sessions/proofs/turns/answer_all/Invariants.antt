use Rattle.std.proofs.Common.{◌≡◌, ◌≤◌, List, length, Option, vec_capacity}
use Rattle.std.specs.List.{AllByRecursion}
use Rattle.boss_model.specs.Catalogue.{actuators}
use Rattle.def_history.specs.History.{MayCall}
use Rattle.boss_sessions.specs.Speaking.{speech_of}
use Rattle.boss_lock.specs.Places.{entries_at}
use Rattle.boss_keys.specs.declared.entry.Entry.{Entry}
use Rattle.boss_sessions.specs.Turns.{voice}
use Rattle.boss_sessions.proofs.AnsweredLemmas.{Answered}
use Rattle.boss_sessions.proofs.turns.answer_all.Given as goal

-- the commands that are no longer held were replied to
abbrev pub invariant-loop-session : goal.invariant-loop-session
invariant-loop-session g l = record {
  own : g.G.Desk.owns l.desk l.pass;
  parts : g.G.Desk.parts l.pass ≡ g.G.Desk.parts l.fn.pass;
  room : vec_capacity l.answers ≡ vec_capacity l.fn.answers;
  text : l.text.capacity ≡ l.fn.text.capacity;
  few : length l.held ≤ 16;
  may : AllByRecursion (MayCall (actuators l.catalogue)) l.held;
  answered : (keys : Option (List Entry)) → Answered (speech_of l.catalogue (g.G.Desk.denies l.desk) keys) l.session g.K.Sink.tells l.fn.commands.items l.held
      (voice (entries_at (g.G.Desk.seen l.fn.pass) (g.G.Desk.mine l.fn.pass)) (g.K.Sink.taken l.fn.sink) (g.K.Sink.faults l.fn.sink) l.fn.attached (g.G.Desk.seen l.fn.pass) (g.G.Desk.held l.fn.pass))
      (voice (entries_at (g.G.Desk.seen l.pass) (g.G.Desk.mine l.pass)) (g.K.Sink.taken l.sink) (g.K.Sink.faults l.sink) l.attached (g.G.Desk.seen l.pass) (g.G.Desk.held l.pass));
}

abbrev pub decreases-loop-session : goal.decreases-loop-session
decreases-loop-session g l = length l.held
