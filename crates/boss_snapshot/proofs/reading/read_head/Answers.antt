use Rattle.std.proofs.Common.{◌∙◌, sym, subst}
use Rattle.std.specs.Prelude.{IfErr}
use Rattle.boss_snapshot.specs.Refusals.{ReadCause}
use Rattle.boss_snapshot.proofs.reading.read_head.Goals as goal

pub returns-clause-cause : goal.returns-clause-cause
returns-clause-cause g c =
    subst (λ n. IfErr c.front_of.result (ReadCause (g.D.Disk.faults c.args.disk.now) n))
    (sym (c.in_ok-read_at.ensures.cause.fine ∙ c.in_ok-end.ensures.cause.fine))
    (c.front_of.ensures.cause (g.D.Disk.faults c.args.disk.now))
