use Rattle.boss_etcd.specs.Commits.{transaction}
use Rattle.boss_etcd.proofs.Asks.{asked_still}
use Rattle.boss_etcd.proofs.cluster.EtcdCluster.ask.Goals as goal

pub returns-in-Ok-Unclear-clause-asked : goal.returns-in-Ok-Unclear-clause-asked
returns-in-Ok-Unclear-clause-asked g c =
    λ tells.
    asked_still g.L.Link c.args.self.now.members.hosts transaction c.args.body.now c.args.self.now.members.link c.ask.new.self.link c.leave.new.self.link
    (c.leave.ensures.sent tells) (c.ask.ensures.asked tells)
