use Rattle.std.proofs.Common.{◌≡◌, ◌≤◌, vec_capacity}
use Rattle.boss_lock.specs.Seats.{found}
use Rattle.boss_shared.specs.Groups.{IsBare, IsTaken, IsTurnOf}
use Rattle.boss_shared.specs.Keeping.{IsHeld}
use Rattle.boss_shared.specs.Together.{commands_in}
use Rattle.boss_shared.proofs.manager.Manager.serve_all.Given as goal

-- all that lies in the group was taken, and nothing of it is done yet
abbrev pub invariant-loop-counter : goal.invariant-loop-counter
invariant-loop-counter g l = record {
  turn : IsTurnOf l.self.lock l.runner;
  bare : IsBare l.runner;
  held : IsHeld g.K.Keeper.plant g.K.Keeper.state g.K.Keeper.stopped g.K.Keeper.faults g.K.Keeper.leaves g.K.Keeper.passes g.K.Keeper.keeps l.self.lock.start l.held.keeper.value (found l.runner);
  under : g.K.Keeper.under l.held.keeper.value ≡ g.K.Keeper.under l.self.lock.start;
  taken : IsTaken (g.K.Keeper.plant l.self.lock.start) l.self.lock l.group.owed.items l.group.asked.items;
  many : l.commands ≡ commands_in l.group.asked.items;
  room : 16 ≤ vec_capacity l.group.asked;
  place : 16 ≤ vec_capacity l.group.owed;
}
