use Rattle.std.proofs.Common.{◌≡◌, Bool, true, false, map, sym, ◌∙◌, subst}
use Rattle.std.specs.List.{AllByRecursion}
use Rattle.boss_engine.specs.Running.{Running}
use Rattle.boss_shared.specs.Together.{made_together, tried_of, AreReplied, MayAsk}
use Rattle.boss_shared.proofs.Together.{asks_some}
use Rattle.boss_durable.specs.declared.beginning.Begun.TheVariants.{Ready, NoMemory, DiskFault}
use Rattle.boss_durable.specs.Words.{Does, RunsThrough}
use Rattle.boss_durable.proofs.Doing.{begun_does, begun_runs, idle_does, idle_runs, unbegun_runs}
use Rattle.boss_durable.proofs.Groups.{unbegun_together}
use Rattle.boss_durable.proofs.durable.Durable.apply_together.Goals as goal

ready : Ready ≡ DiskFault → ⊥
ready is = cc

wanting : NoMemory ≡ DiskFault → ⊥
wanting is = cc

-- ---- a disk had failed before

pub stop_all-requires : goal.stop_all-requires
stop_all-requires g c = record { some = asks_some c.args.self.now.engine.plant c.args.group.now c.requires.may }

pub returns-then-stopped-clause-kept : goal.returns-then-stopped-clause-kept
returns-then-stopped-clause-kept g c = idle_does c.args.self.now (made_together c.stop_all.new.group) (sym c.stopped.ensures ∙ c.if-stopped.true) c.stop_all.ensures.nothing

pub returns-then-stopped-clause-images : goal.returns-then-stopped-clause-images
returns-then-stopped-clause-images g c = subst (RunsThrough c.args.self.now c.args.self.now) (sym c.stop_all.ensures.nothing) (idle_runs c.args.self.now)

pub returns-then-stopped-clause-told : goal.returns-then-stopped-clause-told
returns-then-stopped-clause-told g c =
    subst (λ (b : Bool). AreReplied b c.stop_all.new.group) (sym (sym c.stopped.ensures ∙ c.if-stopped.true)) c.stop_all.ensures.told

-- ---- the log has room, or the commands that want no memory go on

pub take_together-requires-clause-may : goal.take_together-requires-clause-may
take_together-requires-clause-may g c =
    subst (λ (e : Running). AllByRecursion (MayAsk e.plant) c.args.group.now) (sym c.in-Ready.ensures.engine) c.requires.may

pub returns-in-Ready-clause-images : goal.returns-in-Ready-clause-images
returns-in-Ready-clause-images g c =
    begun_runs c.args.self.now c.begin_at.new.self c.take_together.new.self (made_together c.take_together.new.group) c.in-Ready.ensures.engine (λ before held. c.in-Ready.ensures.keeps before held ready)
    c.in-Ready.ensures.passes c.take_together.ensures.images

pub returns-in-Ready-clause-kept : goal.returns-in-Ready-clause-kept
returns-in-Ready-clause-kept g c =
    begun_does c.args.self.now c.begin_at.new.self c.take_together.new.self _ (sym c.stopped.ensures ∙ c.if-stopped.false) c.in-Ready.ensures.stops
    c.in-Ready.ensures.engine c.in-Ready.ensures.cause (λ before held. c.in-Ready.ensures.keeps before held ready) c.take_together.ensures.kept (returns-in-Ready-clause-images g c)

pub returns-in-Ready-clause-told : goal.returns-in-Ready-clause-told
returns-in-Ready-clause-told g c = subst (λ (b : Bool). AreReplied b c.take_together.new.group) (sym (sym c.stopped.ensures ∙ c.if-stopped.false)) c.take_together.ensures.told

pub take_together-requires-in-NoMemory-clause-may : goal.take_together-requires-in-NoMemory-clause-may
take_together-requires-in-NoMemory-clause-may g c =
    subst (λ (e : Running). AllByRecursion (MayAsk e.plant) c.args.group.now) (sym c.in-NoMemory.ensures.engine) c.requires.may

pub returns-in-NoMemory-clause-images : goal.returns-in-NoMemory-clause-images
returns-in-NoMemory-clause-images g c =
    begun_runs c.args.self.now c.begin_at.new.self c.take_together-in-NoMemory.new.self (made_together c.take_together-in-NoMemory.new.group) c.in-NoMemory.ensures.engine (λ before held. c.in-NoMemory.ensures.keeps before held wanting)
    c.in-NoMemory.ensures.passes c.take_together-in-NoMemory.ensures.images

pub returns-in-NoMemory-clause-kept : goal.returns-in-NoMemory-clause-kept
returns-in-NoMemory-clause-kept g c =
    begun_does c.args.self.now c.begin_at.new.self c.take_together-in-NoMemory.new.self _ (sym c.stopped.ensures ∙ c.if-stopped.false) c.in-NoMemory.ensures.stops
    c.in-NoMemory.ensures.engine c.in-NoMemory.ensures.cause (λ before held. c.in-NoMemory.ensures.keeps before held wanting) c.take_together-in-NoMemory.ensures.kept (returns-in-NoMemory-clause-images g c)

pub returns-in-NoMemory-clause-told : goal.returns-in-NoMemory-clause-told
returns-in-NoMemory-clause-told g c = subst (λ (b : Bool). AreReplied b c.take_together-in-NoMemory.new.group) (sym (sym c.stopped.ensures ∙ c.if-stopped.false)) c.take_together-in-NoMemory.ensures.told

-- ---- a disk failed before any step

pub fail_all-requires-clause-some : goal.fail_all-requires-clause-some
fail_all-requires-clause-some g c = asks_some c.args.self.now.engine.plant c.args.group.now c.requires.may

pub returns-in-DiskFault-clause-kept : goal.returns-in-DiskFault-clause-kept
returns-in-DiskFault-clause-kept g c =
    let mark = c.fail_all.ensures.mark in
    subst (Does c.args.self.now c.begin_at.new.self) (sym mark.3)
    (unbegun_together c.args.self.now c.begin_at.new.self mark.0 mark.1 (sym c.stopped.ensures ∙ c.if-stopped.false) c.in-DiskFault.ensures.stops c.in-DiskFault.ensures.cause
    (subst (AllByRecursion (MayAsk c.args.self.now.engine.plant)) mark.2 c.requires.may) c.in-DiskFault.ensures.engine c.in-DiskFault.ensures.passes)

pub returns-in-DiskFault-clause-images : goal.returns-in-DiskFault-clause-images
returns-in-DiskFault-clause-images g c =
    let mark = c.fail_all.ensures.mark in
    subst (RunsThrough c.args.self.now c.begin_at.new.self) (sym mark.3)
    (unbegun_runs c.args.self.now c.begin_at.new.self mark.0.session mark.0.commands (map tried_of mark.1) c.in-DiskFault.ensures.passes)

pub returns-in-DiskFault-clause-told : goal.returns-in-DiskFault-clause-told
returns-in-DiskFault-clause-told g c = subst (λ (b : Bool). AreReplied b c.fail_all.new.group) (sym (sym c.stopped.ensures ∙ c.if-stopped.false)) c.fail_all.ensures.told
