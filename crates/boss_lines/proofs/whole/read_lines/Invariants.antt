use Rattle.std.proofs.Common.{◌≡◌, ◌≤◌, [], ◌++◌, length, Some, All}
use Rattle.boss_model.specs.Limits.{longest_line}
use Rattle.boss_lines.specs.declared.reader.Next.TheVariants.{Line, Finish}
use Rattle.boss_lines.specs.Lines.{StopsAt}
use Rattle.boss_lines.proofs.TakenLemmas.{Taken}
use Rattle.boss_lines.proofs.whole.read_lines.Given as goal

abbrev pub invariant-loop : goal.invariant-loop
invariant-loop g l = record {
  going : StopsAt Line l.reader.stopped;
  over : g.S.Source.tells → l.reader.stopped ≡ Some Finish → g.S.Source.left l.source ≡ [];
  taken : g.S.Source.tells → Taken (g.S.Source.left l.initial.source) l.lines (l.reader.ahead ++ g.S.Source.left l.source) l.reader.stopped;
  short : All (λ line. length line ≤ longest_line) l.lines;
  count : length l.lines ≡ l.counter;
  within : l.counter ≤ l.limit;
  faults : g.S.Source.faults l.source ≡ g.S.Source.faults l.initial.source;
}
