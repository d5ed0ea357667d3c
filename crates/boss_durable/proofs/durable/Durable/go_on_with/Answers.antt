use Rattle.std.proofs.Common.{refl}
use Rattle.boss_model.specs.Seen.{seen}
use Rattle.boss_durable.specs.Words.{lasting}
use Rattle.boss_durable.proofs.Followings.{passed_left, taken_gains, taken_leaves, taken_passes}
use Rattle.boss_durable.proofs.durable.Durable.go_on_with.Goals as goal

pub returns-in-Ok-clause-takes : goal.returns-in-Ok-clause-takes
returns-in-Ok-clause-takes g c =
    let old = c.args.self.now in
    let e = seen c.args.kept.now in
    record {
      sound = c.requires.sound;
      opens = c.requires.engine;
      gained = taken_gains old _ e c.args.events c.requires.engine
          (λ count many at counts. c.in-Ok.ensures.rests old.engine.plant (lasting old) e count many at refl c.requires.sound (λ told. counts));
    }

pub returns-in-Ok-clause-passes : goal.returns-in-Ok-clause-passes
returns-in-Ok-clause-passes g c =
    let old = c.args.self.now in
    let e = seen c.args.kept.now in
    taken_passes old _ e (λ count at. c.take_state.ensures.passes old.engine.plant (lasting old) e count at refl c.requires.sound)

pub returns-in-Ok-clause-leaves : goal.returns-in-Ok-clause-leaves
returns-in-Ok-clause-leaves g c =
    let old = c.args.self.now in
    let e = seen c.args.kept.now in
    taken_leaves old _ e c.args.events c.requires.engine c.requires.few
    (λ count many at counts. c.in-Ok.ensures.rests old.engine.plant (lasting old) e count many at refl c.requires.sound (λ told. counts))

pub returns-in-Err-clause-takes : goal.returns-in-Err-clause-takes
returns-in-Err-clause-takes g c = (c.requires.sound, refl)

pub returns-in-Err-clause-passes : goal.returns-in-Err-clause-passes
returns-in-Err-clause-passes g c =
    let old = c.args.self.now in
    let e = seen c.args.kept.now in
    taken_passes old _ e (λ count at. c.take_state.ensures.passes old.engine.plant (lasting old) e count at refl c.requires.sound)

pub returns-in-Err-clause-leaves : goal.returns-in-Err-clause-leaves
returns-in-Err-clause-leaves g c before held = passed_left c.args.self.now _ _ _ refl (returns-in-Err-clause-passes g c before held)
