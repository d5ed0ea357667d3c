use Rattle.std.proofs.Common.{◌≡◌, ◌+◌, if◌then◌else◌, vec_len}
use Rattle.law_machine.specs.Draining.{weight}
use Rattle.boss_model.specs.Catalogue.{actuators}
use Rattle.boss_scripts.specs.Keepers.{Went}
use Rattle.boss_scripts.specs.Outside.{trace}
use Rattle.boss_scripts.specs.Runs.{served}
use Rattle.boss_scripts.proofs.draining.drain.Given as goal

-- so far wants were served, and wants are left to be served
abbrev pub invariant-loop-driver : goal.invariant-loop-driver
invariant-loop-driver g l = record {
  under : g.V.Keeper.under l.keeper ≡ g.V.Keeper.under l.fn.keeper;
  room : l.text.capacity ≡ l.fn.text.capacity;
  len : vec_len l.devices ≡ vec_len l.fn.devices;
  cause : g.K.Sink.faults l.sink ≡ g.K.Sink.faults l.fn.sink;
  went : Went g.V.Keeper (actuators l.fn.catalogue) (served l.fn.catalogue l.fn.moment) (served l.fn.catalogue l.fn.moment) l.fn.keeper l.keeper g.K.Sink.tells
      (trace g.K.Sink g.A.Actuators l.fn.sink l.fn.devices.items) (trace g.K.Sink g.A.Actuators l.sink l.devices.items);
}

-- each turn leaves less to do, or its disk fails
abbrev pub decreases-loop-driver : goal.decreases-loop-driver
decreases-loop-driver g l = if g.V.Keeper.stopped l.keeper then 0 else weight (g.V.Keeper.plant l.keeper) l.moment (g.V.Keeper.state l.keeper) + 1
