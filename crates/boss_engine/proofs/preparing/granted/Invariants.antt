use Rattle.std.proofs.Common.{◌≡◌, ◌≤◌, length, map, take, vec_capacity}
use Rattle.boss_model.specs.Submit.{lease_of}
use Rattle.boss_engine.proofs.preparing.granted.Given as goal

abbrev pub invariant-loop-write : goal.invariant-loop-write
invariant-loop-write l = record {
  leases : l.leases.items ≡ map (lease_of l.owner l.policy l.txn l.n) (take l.write-index l.writes);
  room : length l.writes ≤ vec_capacity l.leases;
}
