use Rattle.std.proofs.Common.{sym, ◌∙◌}
use Rattle.boss_state_check.proofs.Whole.{sound-of, sound-passes}
use Rattle.boss_state_check.proofs.sound.is_sound.Goals as goal

pub returns-clause-sound : goal.returns-clause-sound
returns-clause-sound c = λ yes. sound-of c.args.plant.now c.args.kept.now (sym c.all_pass.ensures ∙ yes)

pub returns-clause-unsound : goal.returns-clause-unsound
returns-clause-unsound c = λ no sound. absurd (let passes = sym (sound-passes c.args.plant.now c.args.kept.now sound) ∙ (sym c.all_pass.ensures ∙ no) in cc)
