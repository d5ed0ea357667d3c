use Rattle.std.proofs.Common.{◌∙◌, ap, sym, subst, take, drop}
use Rattle.std.specs.Prelude.{IfErr}
use Rattle.boss_journal.specs.Opens.{OpenCause}
use Rattle.boss_journal.proofs.start.find_start.Goals as goal

pub returns-clause-start : goal.returns-clause-start
returns-clause-start g c told =
    c.start_of.ensures.start (g.D.Disk.reads c.args.disk.now)
    (c.in_ok-count.ensures.given told ∙ ap (λ l. take 43 (drop 0 l)) (c.length.ensures.bytes told))

pub returns-clause-cause : goal.returns-clause-cause
returns-clause-cause g c =
    subst (λ n. IfErr c.start_of.result (OpenCause (g.D.Disk.faults c.args.disk.now) n))
    (sym (c.in_ok-count.ensures.cause.fine ∙ c.in_ok-end.ensures.cause.fine))
    (c.start_of.ensures.cause (g.D.Disk.faults c.args.disk.now))
