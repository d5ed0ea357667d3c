use Rattle.std.proofs.Common.{◌≡◌, take, drop, ap, subst, ◌∙◌}
use Rattle.std.specs.Prelude.{IfErr}
use Rattle.boss_pair_find.specs.Refusals.{FrontRefuses, DiskCause}
use Rattle.boss_pair_find.proofs.Told.{ok_of, err_of, version_read}
use Rattle.boss_snapshot.specs.Fronts.{version_of, digest_of}
use Rattle.def_log.specs.Versions.{IsKnown}
use Rattle.boss_pair_find.proofs.front.check_front.Goals as goal

pub returns-clause-known : goal.returns-clause-known
returns-clause-known g c told =
    ok_of (IsKnown (version_of (g.D.Disk.reads c.args.disk.now)) × (digest_of (g.D.Disk.reads c.args.disk.now) ≡ c.args.digest.now))
    (FrontRefuses c.args.digest.now (g.D.Disk.reads c.args.disk.now)) c.check_version.result
    (c.check_version.ensures.tells (g.D.Disk.reads c.args.disk.now) (version_read (g.D.Disk.reads c.args.disk.now) c.read_at.new.into (c.in_ok-read_at.ensures.given told))
    (c.in_ok-read_at-2.ensures.given told ∙ ap (λ r. take 32 (drop 9 r)) (c.read_at.ensures.bytes told)))

pub returns-clause-refuses : goal.returns-clause-refuses
returns-clause-refuses g c told =
    err_of (IsKnown (version_of (g.D.Disk.reads c.args.disk.now)) × (digest_of (g.D.Disk.reads c.args.disk.now) ≡ c.args.digest.now))
    (FrontRefuses c.args.digest.now (g.D.Disk.reads c.args.disk.now)) c.check_version.result
    (c.check_version.ensures.tells (g.D.Disk.reads c.args.disk.now) (version_read (g.D.Disk.reads c.args.disk.now) c.read_at.new.into (c.in_ok-read_at.ensures.given told))
    (c.in_ok-read_at-2.ensures.given told ∙ ap (λ r. take 32 (drop 9 r)) (c.read_at.ensures.bytes told)))

pub returns-clause-cause : goal.returns-clause-cause
returns-clause-cause g c =
    subst (λ n. IfErr c.check_version.result (DiskCause n (g.D.Disk.faults c.read_at-2.new.self)))
    (c.in_ok-read_at-2.ensures.cause.fine ∙ c.in_ok-read_at.ensures.cause.fine) (c.check_version.ensures.cause (g.D.Disk.faults c.read_at-2.new.self))
