use Rattle.boss_durable.specs.Words.{lasting}
use Rattle.boss_durable.proofs.Doing.{anew_changes, anew_keeps}
use Rattle.boss_durable.proofs.durable.Durable.change.Goals as goal

pub returns-in-Ok-clause-keeps : goal.returns-in-Ok-clause-keeps
returns-in-Ok-clause-keeps g c before held =
    let old = c.args.self.now in
    let engine = c.args.engine in
    anew_keeps old _ engine c.new.ensures
    (λ count at. c.in-Ok.ensures.rests old.engine.plant engine.plant (lasting old) engine.state.persistent count at c.requires.kept c.requires.sound.persistent) before held

pub returns-in-Ok-clause-changes : goal.returns-in-Ok-clause-changes
returns-in-Ok-clause-changes g c before held =
    let old = c.args.self.now in
    let engine = c.args.engine in
    anew_changes old _ engine.plant c.args.digest.now engine.state.persistent
    (λ count at. c.change.ensures.changes old.engine.plant engine.plant (lasting old) engine.state.persistent count at c.requires.kept c.requires.sound.persistent) before held

pub returns-in-Err-clause-changes : goal.returns-in-Err-clause-changes
returns-in-Err-clause-changes g c before held =
    let old = c.args.self.now in
    let engine = c.args.engine in
    anew_changes old _ engine.plant c.args.digest.now engine.state.persistent
    (λ count at. c.change.ensures.changes old.engine.plant engine.plant (lasting old) engine.state.persistent count at c.requires.kept c.requires.sound.persistent) before held
