use Rattle.std.proofs.Common.{◌≡◌, [], ◌∷◌, refl, sym, ◌∙◌}
use Rattle.def_history.specs.Made.{made_by}
use Rattle.boss_durable.specs.declared.beginning.Begun.TheVariants.{Ready, NoMemory, DiskFault}
use Rattle.boss_durable.proofs.Doing.{begun_does, begun_runs, idle_does, idle_runs, unbegun_does, unbegun_runs, unmoved_does}
use Rattle.boss_durable.proofs.durable.Durable.apply.Goals as goal

ready : Ready ≡ DiskFault → ⊥
ready is = cc

wanting : NoMemory ≡ DiskFault → ⊥
wanting is = cc

pub returns-then-stopped-clause-kept : goal.returns-then-stopped-clause-kept
returns-then-stopped-clause-kept g c = idle_does c.args.self.now [] (sym c.stopped.ensures ∙ c.if-stopped.true) refl

pub returns-then-stopped-clause-images : goal.returns-then-stopped-clause-images
returns-then-stopped-clause-images g c = idle_runs c.args.self.now

pub returns-in-Ready-clause-images : goal.returns-in-Ready-clause-images
returns-in-Ready-clause-images g c =
    begun_runs c.args.self.now c.begin_for.new.self c.take.new.self (made_by c.args.session c.args.command.now c.args.moment c.take.result) c.in-Ready.ensures.engine (λ before held. c.in-Ready.ensures.keeps before held ready)
    c.in-Ready.ensures.passes c.take.ensures.images

pub returns-in-Ready-clause-kept : goal.returns-in-Ready-clause-kept
returns-in-Ready-clause-kept g c =
    begun_does c.args.self.now c.begin_for.new.self c.take.new.self _ (sym c.stopped.ensures ∙ c.if-stopped.false) c.in-Ready.ensures.stops
    c.in-Ready.ensures.engine c.in-Ready.ensures.cause (λ before held. c.in-Ready.ensures.keeps before held ready) c.take.ensures.kept (returns-in-Ready-clause-images g c)

pub returns-in-NoMemory-clause-images : goal.returns-in-NoMemory-clause-images
returns-in-NoMemory-clause-images g c before held = (0, tt, c.in-NoMemory.ensures.passes before held)

pub returns-in-NoMemory-clause-kept : goal.returns-in-NoMemory-clause-kept
returns-in-NoMemory-clause-kept g c =
    unmoved_does c.args.self.now c.begin_for.new.self (sym c.stopped.ensures ∙ c.if-stopped.false) c.in-NoMemory.ensures.stops
    c.in-NoMemory.ensures.engine c.in-NoMemory.ensures.cause (λ before held. c.in-NoMemory.ensures.keeps before held wanting)
    (returns-in-NoMemory-clause-images g c)

pub returns-in-DiskFault-clause-kept : goal.returns-in-DiskFault-clause-kept
returns-in-DiskFault-clause-kept g c =
    unbegun_does c.args.self.now c.begin_for.new.self c.args.session ((c.args.command.now, c.args.moment) ∷ []) [] (sym c.stopped.ensures ∙ c.if-stopped.false)
    c.in-DiskFault.ensures.stops c.in-DiskFault.ensures.engine c.in-DiskFault.ensures.cause (c.requires.may, tt) tt c.in-DiskFault.ensures.passes

pub returns-in-DiskFault-clause-images : goal.returns-in-DiskFault-clause-images
returns-in-DiskFault-clause-images g c =
    unbegun_runs c.args.self.now c.begin_for.new.self c.args.session ((c.args.command.now, c.args.moment) ∷ []) [] c.in-DiskFault.ensures.passes
