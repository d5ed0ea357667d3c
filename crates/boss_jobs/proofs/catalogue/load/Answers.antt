use Rattle.std.proofs.Common.{◌<◌, Err, ap, sym, ◌∙◌}
use Rattle.boss_points.specs.declared.CatalogueRefusal.TheVariants.{TooLong}
use Rattle.boss_jobs.proofs.Places.{all-have, too-long}
use Rattle.boss_jobs.proofs.catalogue.load.Goals as goal

pub returns-in-Ok-Longer-clause-loads : goal.returns-in-Ok-Longer-clause-loads
returns-in-Ok-Longer-clause-loads g c = λ tells.
    let held = rw c.in-Ok-Longer.field-0-is at (c.in-Ok-Longer.ensures.bytes tells) in
    let past : 1048576 < c.in-Ok-Longer.length = rw c.in-Ok-Longer.field-0-is at c.in-Ok-Longer.ensures.within in
    (held.0, held.1, too-long c.args.devices held.0 (rw held.2 past) ∙ ap (λ n. Err (TooLong n)) held.2)

pub returns-clause-known : goal.returns-clause-known
returns-clause-known g c = all-have c.args.devices 0 c.in-Ok.catalogue.points (sym c.first_without_device.ensures ∙ c.in-None.is)
