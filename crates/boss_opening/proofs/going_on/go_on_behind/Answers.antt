use Rattle.std.proofs.Common.{ℕ, sym, subst}
use Rattle.boss_disk_pair.specs.Rests.{rests}
use Rattle.boss_opening.proofs.going_on.go_on_behind.Goals as goal

pub returns-in-Ok-clause-rest : goal.returns-in-Ok-clause-rest
returns-in-Ok-clause-rest g c =
    let engine = c.args.engine.now in
    subst (λ (n : ℕ). rests c.next_generation.new.self engine.plant engine.state.persistent n) (sym c.next_generation.ensures.events)
    (c.in-Ok.ensures.rests engine.plant engine.state.persistent c.args.pair.now.events c.requires.rest c.requires.kept c.requires.sound)

pub returns-in-Ok-clause-passes : goal.returns-in-Ok-clause-passes
returns-in-Ok-clause-passes g c =
    let engine = c.args.engine.now in
    c.next_generation.ensures.passes engine.plant engine.state.persistent c.args.pair.now.events c.requires.rest c.requires.kept c.requires.sound

pub returns-in-Err-clause-passes : goal.returns-in-Err-clause-passes
returns-in-Err-clause-passes g c =
    let engine = c.args.engine.now in
    c.next_generation.ensures.passes engine.plant engine.state.persistent c.args.pair.now.events c.requires.rest c.requires.kept c.requires.sound
