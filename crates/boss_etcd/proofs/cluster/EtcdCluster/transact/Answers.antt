use Rattle.boss_etcd.specs.Commits.{transaction}
use Rattle.boss_etcd.proofs.Commits.{asked_more, told_then}
use Rattle.boss_etcd.proofs.cluster.EtcdCluster.transact.Goals as goal

pub returns-in_default-clause-asked : goal.returns-in_default-clause-asked
returns-in_default-clause-asked g c =
    λ tells.
    asked_more g.L.Link c.args.self.now.members.hosts transaction c.args.body.now c.loop-asked.asked c.args.times c.args.self.now.members.link
    c.loop-asked.self.members.link c.ask.new.self.members.link c.loop-asked.self.members.hosts c.loop-asked.invariant.hosts c.loop-asked-test.true
    (c.loop-asked.invariant.asked tells) (c.ask.ensures.asked tells)

pub returns-in_default-clause-told : goal.returns-in_default-clause-told
returns-in_default-clause-told g c =
    λ tells.
    told_then g.L.Link c.args.self.now.members.hosts transaction c.args.body.now c.loop-asked.asked c.args.self.now.members.link
    c.loop-asked.self.members.link c.ask.new.self.members.link c.ask.result c.loop-asked.self.members.hosts c.loop-asked.invariant.hosts
    (c.loop-asked.invariant.asked tells) (c.ask.ensures.told tells)
