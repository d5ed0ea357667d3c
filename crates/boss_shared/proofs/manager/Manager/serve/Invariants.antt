use Rattle.std.proofs.Common.{◌≡◌, ◌≤◌, ◌++◌, length, vec_capacity}
use Rattle.boss_lock.specs.Seats.{found}
use Rattle.boss_shared.specs.Groups.{AreOwed, IsBare, IsTurnOf}
use Rattle.boss_shared.specs.Keeping.{IsHeld}
use Rattle.boss_shared.specs.Together.{made_together}
use Rattle.boss_shared.proofs.Served.{AtReplies}
use Rattle.boss_shared.proofs.manager.Manager.serve.Given as goal

-- the keeper has done all; those in the group are still to be told
abbrev pub invariant-loop-first : goal.invariant-loop-first
invariant-loop-first g l = record {
  turn : IsTurnOf l.self.lock l.runner;
  bare : IsBare l.runner;
  held : IsHeld g.K.Keeper.plant g.K.Keeper.state g.K.Keeper.stopped g.K.Keeper.faults g.K.Keeper.leaves g.K.Keeper.passes g.K.Keeper.keeps l.self.lock.start l.held.keeper.value
      (found l.runner ++ made_together l.group.asked.items);
  under : g.K.Keeper.under l.held.keeper.value ≡ g.K.Keeper.under l.self.lock.start;
  owed : AreOwed l.self.lock l.group.owed.items l.group.asked.items;
  replies : AtReplies (g.K.Keeper.plant l.self.lock.start) (g.K.Keeper.state l.self.lock.start) (found l.runner) l.group.asked.items;
  room : 16 ≤ vec_capacity l.group.asked;
  place : 16 ≤ vec_capacity l.group.owed;
}

abbrev pub decreases-loop-first : goal.decreases-loop-first
decreases-loop-first g l = length l.group.asked.items
