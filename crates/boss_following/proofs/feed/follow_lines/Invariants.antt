use Rattle.std.proofs.Common.{◌≡◌, ℕ, [], ◌++◌, List, false, length, Some}
use Rattle.boss_disk_pair.specs.Causes.{counts_of}
use Rattle.boss_durable.specs.Words.{keeps}
use Rattle.boss_following.specs.Ends.{LastsAfterSome, Runs, start_of}
use Rattle.boss_following.specs.Moves.{IsKept}
use Rattle.boss_following.specs.Places.{spot}
use Rattle.boss_following.proofs.Lines.{Reaches}
use Rattle.boss_lines.specs.declared.reader.Next.TheVariants.{Line, Finish}
use Rattle.boss_lines.specs.Lines.{StopsAt}
use Rattle.boss_lines.proofs.TakenLemmas.{Taken}
use Rattle.boss_model.specs.declared.event.Event.{Event}
use Rattle.boss_following.proofs.feed.follow_lines.Given as goal

-- so far lines were taken, and led to where the journal is; those that are ahead are left to be taken
abbrev pub invariant-loop-line : goal.invariant-loop-line
invariant-loop-line g l = record {
  going : StopsAt Line l.lines.stopped;
  over : g.S.Source.tells → l.lines.stopped ≡ Some Finish → g.S.Source.left l.source ≡ [];
  reads : g.S.Source.faults l.source ≡ g.S.Source.faults l.fn.source;
  disks : counts_of l.durable.disks ≡ counts_of l.fn.durable.disks;
  fine : l.durable.disks.stopped ≡ false;
  same_plant : l.durable.engine.plant ≡ l.fn.durable.engine.plant;
  limit : l.durable.log_limit ≡ l.fn.durable.log_limit;
  digest : l.durable.disks.digest ≡ l.fn.durable.disks.digest;
  keeps_on : (before : List Event) → keeps l.fn.durable before → IsKept l.durable;
  taken : g.S.Source.tells → (given : List (List ℕ))
      × Taken (g.S.Source.left l.fn.source) given (l.lines.ahead ++ g.S.Source.left l.source) l.lines.stopped
      × (length given ≡ l.line)
      × Reaches l.fn.durable.engine.plant (start_of l.fn.durable) given (spot l.durable l.following)
      × (g.D.Disk.tells → (before : List Event) → keeps l.fn.durable before → Runs (LastsAfterSome l.fn.durable.engine.plant (start_of l.fn.durable) given) l.fn.durable l.durable);
}
