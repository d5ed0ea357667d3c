use Rattle.std.proofs.Common.{◌∙◌, ap}
use Rattle.def_seal.specs.Seals.{seed_of}
use Rattle.boss_snapshot.proofs.OfFronts.{seed_mid, seed_first}
use Rattle.boss_snapshot.proofs.writing.write_seed.Goals as goal

pub returns-clause-seed : goal.returns-clause-seed
returns-clause-seed g c told =
    c.seed_of-seed.ensures 0 ∙ seed_mid 0 _ ∙ ap seed_of (c.in_ok-read_at.ensures.given told) ∙ seed_first (g.D.Disk.reads c.args.disk.now)
