use Rattle.std.proofs.Common.{refl}
use Rattle.boss_model.specs.Seen.{seen}
use Rattle.boss_feeding.proofs.Stood.{written_text}
use Rattle.boss_feeding.proofs.kept.write_anew.Goals as goal

pub returns-in-Ok-clause-text : goal.returns-in-Ok-clause-text
returns-in-Ok-clause-text c = (written_text _ _ c.args.before (seen c.args.kept.now) c.in-Ok.gate _ refl c.requires.few c.requires.fits (c.in-Ok.ensures.done tt)).0

pub returns-in-Ok-clause-inside : goal.returns-in-Ok-clause-inside
returns-in-Ok-clause-inside c = (written_text _ _ c.args.before (seen c.args.kept.now) c.in-Ok.gate _ refl c.requires.few c.requires.fits (c.in-Ok.ensures.done tt)).1
