use Rattle.std.proofs.Common.{◌∙◌, sym, ap, length, take, drop}
use Rattle.std.specs.Prelude.{bytes_eq}
use Rattle.def_seal.specs.Seals.{seed_of}
use Rattle.boss_snapshot.proofs.OfFronts.{seed_mid}
use Rattle.boss_snapshot.proofs.OfKind.{if_on, not_same, too_few, short_seed}
use Rattle.boss_snapshot.proofs.kinds.is_seeded.Goals as goal

pub returns-then-first-ge73 : goal.returns-then-first-ge73
returns-then-first-ge73 c =
    let first = c.args.first.now in
    c.are_same.ensures ∙ ap (bytes_eq (take 8 (drop 65 first))) (c.seed_of.ensures 0 ∙ seed_mid 0 first) ∙ if_on _ _ (sym c.has_sums.ensures ∙ c.if-not-has_sums.false)

pub returns-else-first-ge73 : goal.returns-else-first-ge73
returns-else-first-ge73 c =
    let first = c.args.first.now in
    too_few (length first) c.if-first-ge73.false ∙ sym (not_same (take 8 (drop 65 first)) (seed_of first) (short_seed first c.if-first-ge73.false)) ∙ if_on _ _ (sym c.has_sums.ensures ∙ c.if-not-has_sums.false)
