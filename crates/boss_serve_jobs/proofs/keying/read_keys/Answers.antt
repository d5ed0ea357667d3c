use Rattle.std.proofs.Common.{◌<◌, Err, ap, ◌∙◌}
use Rattle.boss_keys.specs.declared.refusal.KeysRefusal.TheVariants.{TooLong}
use Rattle.boss_serve_jobs.proofs.KeyingLemmas.{too-long}
use Rattle.boss_serve_jobs.proofs.keying.read_keys.Goals as goal

pub returns-in-Ok-Longer-clause-reads : goal.returns-in-Ok-Longer-clause-reads
returns-in-Ok-Longer-clause-reads g c = λ tells.
    let held = rw c.in-Ok-Longer.field-0-is at (c.in-Ok-Longer.ensures.bytes tells) in
    let past : 1048576 < c.in-Ok-Longer.length = rw c.in-Ok-Longer.field-0-is at c.in-Ok-Longer.ensures.within in
    (held.0, held.1, too-long held.0 (rw held.2 past) ∙ ap (λ n. Err (TooLong n)) held.2)
