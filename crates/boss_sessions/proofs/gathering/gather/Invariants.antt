use Rattle.std.proofs.Common.{◌≡◌, ◌<◌, ◌≤◌, length, option_copied}
use Rattle.std.specs.List.{AllByRecursion}
use Rattle.boss_model.specs.Catalogue.{actuators}
use Rattle.def_history.specs.History.{MayCall}
use Rattle.boss_sessions.specs.declared.heard.Heard.TheVariants.{Requests}
use Rattle.boss_sessions.specs.Gathered.{Gathered}
use Rattle.boss_outside.specs.Notes.{NotesEach}
use Rattle.boss_sessions.specs.Places.{footing_of, place_of, IsOpen, IsReadAt}
use Rattle.boss_sessions.specs.Speaking.{manner_of}
use Rattle.boss_sessions.proofs.gathering.gather.Given as goal

-- all that was taken so far are requests that are held
abbrev pub invariant-loop-commands : goal.invariant-loop-commands
invariant-loop-commands g l = record {
  ready : IsOpen g.S.Source.tells (place_of l.hearing (g.S.Source.left l.source));
  gathered : Gathered (manner_of l.catalogue (option_copied l.keys)) g.S.Source.tells g.C.Clock.tells (footing_of l.initial.hearing) (footing_of l.hearing)
      l.initial.commands.items l.commands.items (g.C.Clock.given l.initial.clock) (g.C.Clock.given l.clock)
      (place_of l.initial.hearing (g.S.Source.left l.initial.source)) (place_of l.hearing (g.S.Source.left l.source)) Requests;
  may : AllByRecursion (MayCall (actuators l.catalogue)) l.commands.items;
  few : length l.commands.items ≤ 16;
  fewer : l.hearing.lines ≤ l.initial.hearing.lines;
  some : 0 < length l.commands.items → l.hearing.lines < l.initial.hearing.lines;
  held : g.S.Source.tells → g.S.Source.held l.source ≡ g.S.Source.held l.initial.source;
  reads : g.S.Source.tells → NotesEach (IsReadAt (place_of l.initial.hearing (g.S.Source.left l.initial.source)) (g.S.Source.told l.initial.source))
      (g.S.Source.reads l.initial.source) (g.S.Source.reads l.source);
  shown : g.S.Source.told l.source ≡ g.S.Source.told l.initial.source;
  read : g.S.Source.faults l.source ≡ g.S.Source.faults l.initial.source;
  clocked : g.C.Clock.faults l.clock ≡ g.C.Clock.faults l.initial.clock;
}

abbrev pub decreases-loop-commands : goal.decreases-loop-commands
decreases-loop-commands g l = l.hearing.lines
