use Rattle.std.proofs.Common.{◌≡◌, ◌-◌, ◌≤◌}
use Rattle.boss_etcd.specs.Asking.{AskedTimes}
use Rattle.boss_etcd.specs.Commits.{transaction}
use Rattle.boss_etcd.proofs.cluster.EtcdCluster.transact.Given as goal

abbrev pub invariant-loop-asked : goal.invariant-loop-asked
invariant-loop-asked g l = record {
  within : l.asked ≤ l.times;
  asked : g.L.Link.tells
      → AskedTimes g.L.Link l.initial.self.members.hosts transaction l.body l.asked l.initial.self.members.link l.self.members.link;
  kept : l.self ≡ record l.initial.self { members = l.self.members };
  hosts : l.self.members.hosts ≡ l.initial.self.members.hosts;
}

abbrev pub decreases-loop-asked : goal.decreases-loop-asked
decreases-loop-asked g l = l.times - l.asked
