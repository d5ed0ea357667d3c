use Rattle.std.proofs.Common.{◌≡◌, ◌≤◌, ◌-◌, length, take}
use Rattle.boss_model.specs.Sound.{IsSound}
use Rattle.boss_opening.proofs.Redone.{SoFar}
use Rattle.boss_opening.proofs.replaying.replay_record.Given as goal

abbrev pub invariant-loop-place : goal.invariant-loop-place
invariant-loop-place l = record {
  within : l.place ≤ length l.bytes;
  few : l.count ≤ 16;
  so_far : SoFar l.initial.engine.plant l.version l.initial.engine.state.persistent (take l.place l.bytes) l.count l.engine.state.persistent;
  same : l.engine.plant ≡ l.initial.engine.plant;
  sound : IsSound l.engine.plant l.engine.state;
}

abbrev pub decreases-loop-place : goal.decreases-loop-place
decreases-loop-place l = length l.bytes - l.place
