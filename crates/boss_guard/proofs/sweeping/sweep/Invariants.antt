use Rattle.std.proofs.Common.{◌≡◌, ◌≤◌, length, drop}
use Rattle.boss_model.specs.Limits.{last_moment}
use Rattle.boss_lock.specs.Places.{entries_at}
use Rattle.def_guards.specs.Acts.{due_from}
use Rattle.boss_guard.specs.Trying.{Swept}
use Rattle.boss_guard.proofs.sweeping.sweep.Given as goal

-- the wants of the points before this place were tried
abbrev pub invariant-loop-place : goal.invariant-loop-place
invariant-loop-place g l = record {
  own : g.G.Desk.owns l.desk l.pass;
  parts : g.G.Desk.parts l.pass ≡ g.G.Desk.parts l.fn.pass;
  swept : Swept g.C.Clock.tells g.A.Actuators.tells
      (record { own = entries_at (g.G.Desk.seen l.fn.pass) (g.G.Desk.mine l.fn.pass); given = g.C.Clock.given l.fn.clock; whole = g.A.Actuators.whole l.fn.devices; calls = g.A.Actuators.calls l.fn.devices })
      (record { own = entries_at (g.G.Desk.seen l.pass) (g.G.Desk.mine l.pass); given = g.C.Clock.given l.clock; whole = g.A.Actuators.whole l.devices; calls = g.A.Actuators.calls l.devices })
      (record { now = l.fn.now; guards = l.fn.guards }) (due_from 0 l.skipped l.fn.guards) (record { now = l.now; guards = l.guards })
      (due_from l.place l.skipped (drop l.place l.guards)) l.written;
  long : length l.guards ≡ length l.fn.guards;
  soon : l.now ≤ last_moment;
  clock : g.C.Clock.faults l.clock ≡ g.C.Clock.faults l.fn.clock;
}
