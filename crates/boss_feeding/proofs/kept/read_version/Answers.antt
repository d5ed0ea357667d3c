use Rattle.boss_pair_find.proofs.Told.{version_read}
use Rattle.boss_feeding.proofs.kept.read_version.Goals as goal

pub returns-clause-version : goal.returns-clause-version
returns-clause-version g c told = version_read (g.D.Disk.reads c.args.disk.now) c.read_at.new.into (c.in_ok-read_at.ensures.given told)
