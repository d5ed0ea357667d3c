use Rattle.std.proofs.Common.{◌∙◌, ◌∷◌, ap}
use Rattle.def_bytes.specs.Fields.{number_text}
use Rattle.def_disk_pair.specs.Fronts.{kept_head}
use Rattle.def_seal.specs.Seals.{seed_of}
use Rattle.boss_disk_pair.proofs.seeds.seed_by.Goals as goal

pub returns-else-place-eq-FIRST_GATE-clause-kept : goal.returns-else-place-eq-FIRST_GATE-clause-kept
unfolding number_text
returns-else-place-eq-FIRST_GATE-clause-kept c other first =
    c.seed_of_counts.ensures first
    ∙ ap (λ n. seed_of (first ∷ kept_head c.args.version c.args.digest.now c.args.generation c.args.events n)) c.saturating_sub-size.ensures
