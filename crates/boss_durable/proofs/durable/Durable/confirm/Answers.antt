use Rattle.std.proofs.Common.{refl}
use Rattle.boss_durable.specs.Words.{lasting}
use Rattle.boss_durable.proofs.Doing.{anew_keeps, anew_leaves, anew_passes, keeps_leaves, keeps_passes}
use Rattle.boss_durable.proofs.durable.Durable.confirm.Goals as goal

pub returns-then-not-is_due-clause-leaves : goal.returns-then-not-is_due-clause-leaves
returns-then-not-is_due-clause-leaves g c before held = keeps_leaves c.args.self.now before held

pub returns-then-not-is_due-clause-passes : goal.returns-then-not-is_due-clause-passes
returns-then-not-is_due-clause-passes g c before held = keeps_passes c.args.self.now before held

pub returns-in-Ok-clause-keeps : goal.returns-in-Ok-clause-keeps
returns-in-Ok-clause-keeps g c before held =
    anew_keeps c.args.self.now _ c.args.self.now.engine refl (λ count at. c.in-Ok.ensures.rests c.args.self.now.engine.plant (lasting c.args.self.now) count at) before held

pub returns-in-Ok-clause-leaves : goal.returns-in-Ok-clause-leaves
returns-in-Ok-clause-leaves g c before held =
    anew_leaves c.args.self.now _ refl (λ count at. c.confirm.ensures.leaves c.args.self.now.engine.plant (lasting c.args.self.now) count at) before held

pub returns-in-Ok-clause-passes : goal.returns-in-Ok-clause-passes
returns-in-Ok-clause-passes g c before held =
    anew_passes c.args.self.now _ (λ count at. c.confirm.ensures.passes c.args.self.now.engine.plant (lasting c.args.self.now) count at) before held

pub returns-in-Err-clause-leaves : goal.returns-in-Err-clause-leaves
returns-in-Err-clause-leaves g c before held =
    anew_leaves c.args.self.now _ refl (λ count at. c.confirm.ensures.leaves c.args.self.now.engine.plant (lasting c.args.self.now) count at) before held

pub returns-in-Err-clause-passes : goal.returns-in-Err-clause-passes
returns-in-Err-clause-passes g c before held =
    anew_passes c.args.self.now _ (λ count at. c.confirm.ensures.passes c.args.self.now.engine.plant (lasting c.args.self.now) count at) before held
