use Rattle.boss_disk_pair.specs.Reads.{reads_to}
use Rattle.boss_disk_pair.proofs.Beginnings.{begins_kept, begins_plain, kept_seeded, plain_seeded}
use Rattle.boss_disk_pair.proofs.two_disks.TwoDisks.begin.Goals as goal

pub returns-clause-kept : goal.returns-clause-kept
unfolding reads_to
returns-clause-kept g c told here kind version d kept plant sound = λ again.
    begins_kept plant c.args.digest.now _ c.told-digest c.args.second c.args.generation _ _ here c.args.journal.version c.args.events c.args.journal.place d
    version kind c.ranges.generation.fits
    (kept_seeded c.args.digest.now c.seed_by-seed.result c.version.result c.args.journal.version c.place.result c.args.journal.place c.args.generation c.args.events
    c.version.ensures c.place.ensures c.seed_by-seed.ensures.kept)
    kept sound

pub returns-clause-plain : goal.returns-clause-plain
unfolding reads_to
returns-clause-plain g c told here kind version known same gate none plant = λ again.
    begins_plain plant c.args.digest.now _ c.told-digest c.args.second c.args.generation _ _ here c.args.journal.version c.args.events c.args.journal.place
    version kind known same gate
    (plain_seeded c.args.digest.now c.seed_by-seed.result c.version.result c.args.journal.version c.place.result c.args.journal.place
    c.version.ensures c.place.ensures c.seed_by-seed.ensures.plain gate)
    none

pub returns-clause-seed : goal.returns-clause-seed
returns-clause-seed g c gate =
    plain_seeded c.args.digest.now c.seed_by-seed.result c.version.result c.args.journal.version c.place.result c.args.journal.place
    c.version.ensures c.place.ensures c.seed_by-seed.ensures.plain gate
