use Rattle.std.proofs.Common.{Some, ◌≡◌, [], ◌++◌, ℕ, List, false, length, vec_len}
use Rattle.def_history.specs.declared.entry.Entry.{Entry}
use Rattle.boss_lines.specs.declared.reader.Next.TheVariants.{Line, Finish}
use Rattle.boss_lines.specs.Lines.{StopsAt}
use Rattle.boss_lines.proofs.TakenLemmas.{Taken}
use Rattle.boss_outside.specs.Notes.{IsShown}
use Rattle.boss_scripts.specs.Ends.{has_too_long}
use Rattle.boss_scripts.specs.Keepers.{Kept, ThroughInTime}
use Rattle.boss_scripts.specs.Outside.{trace}
use Rattle.boss_scripts.specs.Runs.{lines_taken, stop}
use Rattle.boss_scripts.proofs.script.take_lines.Given as goal

-- so far lines were taken, and those that are ahead are left to be taken; the source was shown what was taken
abbrev pub invariant-loop : goal.invariant-loop
invariant-loop g l = record {
  going : StopsAt Line l.reader.stopped;
  over : g.S.Source.tells → l.reader.stopped ≡ Some Finish → g.S.Source.left l.source ≡ [];
  shown : g.K.Sink.tells → IsShown (g.S.Source.reads l.source) (g.S.Source.told l.source) (length (g.K.Sink.taken l.sink));
  under : g.V.Keeper.under l.keeper ≡ g.V.Keeper.under l.fn.keeper;
  room : l.text.capacity ≡ l.fn.text.capacity;
  len : vec_len l.devices ≡ vec_len l.fn.devices;
  write : g.K.Sink.faults l.sink ≡ g.K.Sink.faults l.fn.sink;
  read : g.S.Source.faults l.source ≡ g.S.Source.faults l.fn.source;
  taken : (entries : List Entry) × Kept g.V.Keeper l.fn.keeper l.keeper entries
      × (g.S.Source.tells → (given : List (List ℕ))
      × Taken (l.fn.reader.ahead ++ g.S.Source.left l.fn.source) given (l.reader.ahead ++ g.S.Source.left l.source) l.reader.stopped
      × (length given ≡ l.counter) × (has_too_long given ≡ false)
      × (g.K.Sink.tells → ThroughInTime g.V.Keeper l.fn.catalogue (l.fn.reader.ahead ++ g.S.Source.left l.fn.source) (g.S.Source.reads l.fn.source) (g.S.Source.reads l.source)
      (lines_taken l.fn.catalogue given) stop l.fn.keeper entries
      (trace g.K.Sink g.A.Actuators l.fn.sink l.fn.devices.items) (trace g.K.Sink g.A.Actuators l.sink l.devices.items)));
}
