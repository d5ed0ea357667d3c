use Rattle.std.proofs.Common.{◌≡◌, ◌+◌, ◌-◌, ◌≤◌, true, ◌++◌, length}
use Rattle.boss_model.specs.Limits.{longest_line}
use Rattle.boss_outside.specs.Notes.{NotesEach}
use Rattle.boss_lines.specs.Lines.{ends_line, IsReadFor}
use Rattle.boss_lines.specs.Window.{NoLineEnd}
use Rattle.boss_lines.proofs.window.Window.find_line_end.Given as goal

abbrev pub invariant-loop-place : goal.invariant-loop-place
invariant-loop-place g l = record {
  within : l.sought ≤ length l.self;
  passed : NoLineEnd l.sought l.self;
  bytes : g.S.Source.tells → l.self ++ g.S.Source.left l.source ≡ l.initial.self ++ g.S.Source.left l.initial.source;
  stays : g.S.Source.tells → g.S.Source.held l.source ≡ g.S.Source.held l.initial.source;
  reads : g.S.Source.tells → NotesEach (IsReadFor (l.initial.self ++ g.S.Source.left l.initial.source) (g.S.Source.told l.initial.source))
      (g.S.Source.reads l.initial.source) (g.S.Source.reads l.source);
  shown : g.S.Source.told l.source ≡ g.S.Source.told l.initial.source;
  unread : ends_line l.initial.self ≡ true → (l.self ≡ l.initial.self) × (l.source ≡ l.initial.source);
  faults : g.S.Source.faults l.source ≡ g.S.Source.faults l.initial.source;
}

abbrev pub decreases-loop-place : goal.decreases-loop-place
decreases-loop-place g l = longest_line + 1 - length l.self
