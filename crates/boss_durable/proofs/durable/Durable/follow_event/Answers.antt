use Rattle.std.proofs.Common.{◌≡◌, ℕ, refl, ap, subst, arith}
use Rattle.boss_disk_pair.specs.Causes.{Counts, counts_of}
use Rattle.boss_durable.specs.declared.beginning.Begun.TheVariants.{Ready, NoMemory, DiskFault}
use Rattle.boss_durable.specs.Followed.{CountsFollowed, FollowedCause}
use Rattle.boss_durable.proofs.Doing.{keeps_leaves, keeps_passes}
use Rattle.boss_durable.proofs.Followings.{begun_follows, begun_leaves, begun_passes, passed_left, passes_further}
use Rattle.boss_durable.proofs.durable.Durable.follow_event.Goals as goal

ready : Ready ≡ DiskFault → ⊥
ready is = cc

wanting : NoMemory ≡ DiskFault → ⊥
wanting is = cc

pub returns-then-stopped-clause-passes : goal.returns-then-stopped-clause-passes
returns-then-stopped-clause-passes g c = keeps_passes c.args.self.now

pub returns-then-stopped-clause-leaves : goal.returns-then-stopped-clause-leaves
returns-then-stopped-clause-leaves g c = keeps_leaves c.args.self.now

pub returns-in-Ready-clause-follows : goal.returns-in-Ready-clause-follows
returns-in-Ready-clause-follows g c =
    begun_follows c.args.self.now c.begin.new.self c.follow.new.self c.args.event.now c.follow.result c.follow.ensures.going c.in-Ready.ensures.engine
    (λ before held. c.in-Ready.ensures.keeps before held ready) c.follow.ensures.follows

pub returns-in-Ready-clause-passes : goal.returns-in-Ready-clause-passes
returns-in-Ready-clause-passes g c =
    begun_passes c.args.self.now c.begin.new.self c.follow.new.self c.args.event.now c.follow.result c.in-Ready.ensures.engine
    (λ before held. c.in-Ready.ensures.keeps before held ready) c.in-Ready.ensures.passes c.follow.ensures.passes

pub returns-in-Ready-clause-leaves : goal.returns-in-Ready-clause-leaves
returns-in-Ready-clause-leaves g c =
    begun_leaves c.args.self.now c.begin.new.self c.follow.new.self c.args.event.now c.follow.result c.in-Ready.ensures.engine
    (λ before held. c.in-Ready.ensures.keeps before held ready) c.follow.ensures.leaves

pub returns-in-Ready-clause-cause : goal.returns-in-Ready-clause-cause
returns-in-Ready-clause-cause g c =
    subst (λ (before : Counts). FollowedCause before (counts_of c.follow.new.self.disks) c.follow.result) c.in-Ready.ensures.cause c.follow.ensures.cause

pub returns-in-Ready-clause-events : goal.returns-in-Ready-clause-events
returns-in-Ready-clause-events g c =
    subst (λ (before : ℕ). CountsFollowed before c.follow.new.self.disks.events c.follow.result) c.in-Ready.ensures.events c.follow.ensures.events

pub returns-in-Ready-clause-log : goal.returns-in-Ready-clause-log
returns-in-Ready-clause-log g c done = omega (arith, c.follow.ensures.log done, c.in-Ready.ensures.room refl, c.follow.ensures.limit)

pub returns-in-NoMemory-clause-follows : goal.returns-in-NoMemory-clause-follows
returns-in-NoMemory-clause-follows g c = record {
  engine = c.in-NoMemory.ensures.engine;
  stays = λ before held. c.in-NoMemory.ensures.keeps before held wanting;
}

pub returns-in-DiskFault-clause-passes : goal.returns-in-DiskFault-clause-passes
returns-in-DiskFault-clause-passes g c before held = passes_further c.args.self.now c.begin.new.self _ (c.in-DiskFault.ensures.passes before held)

pub returns-in-DiskFault-clause-leaves : goal.returns-in-DiskFault-clause-leaves
returns-in-DiskFault-clause-leaves g c before held =
    passed_left c.args.self.now c.begin.new.self _ _ (ap (λ e. e.plant) c.in-DiskFault.ensures.engine) (returns-in-DiskFault-clause-passes g c before held)
