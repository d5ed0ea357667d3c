use Rattle.std.proofs.Common.{◌∙◌, sym, map, subst}
use Rattle.boss_points.specs.declared.refusal.CatalogueRefusal.TheVariants.{SameName}
use Rattle.boss_model.specs.Sound.{DistinctNames}
use Rattle.boss_points.specs.Keys.{name_of}
use Rattle.boss_points.specs.Seen.{views, texts}
use Rattle.boss_points.proofs.Distinct.{distinct-apart}
use Rattle.boss_points.proofs.Names.{parts-read, points-read, distinct-names}
use Rattle.boss_points.proofs.Whole.{all_whole}
use Rattle.boss_points.proofs.tables.points_of.Goals as goal

pub all_points-requires-clause-passed : goal.all_points-requires-clause-passed
all_points-requires-clause-passed c =
    points-read c.args.drivers.now (views c.args.tables.now) (parts-read c.args.drivers.now c.args.tables.now
    (sym c.first_without_name.ensures ∙ c.in_default.is) (sym c.first_without_kind.ensures ∙ c.in_default-first_without_kind.is)
    (sym c.first_without_default.ensures ∙ c.in_default-first_without_default.is) (sym c.first_without_driver.ensures ∙ c.in_default-first_without_driver.is)
    (sym c.first_without_times.ensures ∙ c.in_default-first_without_times.is))

pub returns-clause-names : goal.returns-clause-names
returns-clause-names c =
    let parts = parts-read c.args.drivers.now c.args.tables.now
    (sym c.first_without_name.ensures ∙ c.in_default.is) (sym c.first_without_kind.ensures ∙ c.in_default-first_without_kind.is)
    (sym c.first_without_default.ensures ∙ c.in_default-first_without_default.is) (sym c.first_without_driver.ensures ∙ c.in_default-first_without_driver.is)
    (sym c.first_without_times.ensures ∙ c.in_default-first_without_times.is) in
    rw c.in_ok-points.ensures.points (distinct-names c.args.drivers.now (λ place. SameName place) (views c.args.tables.now) (texts c.in_ok-names.names.keys) parts c.in_ok-names.ensures)

pub returns-clause-apart : goal.returns-clause-apart
returns-clause-apart c =
    let parts = parts-read c.args.drivers.now c.args.tables.now
    (sym c.first_without_name.ensures ∙ c.in_default.is) (sym c.first_without_kind.ensures ∙ c.in_default-first_without_kind.is)
    (sym c.first_without_default.ensures ∙ c.in_default-first_without_default.is) (sym c.first_without_driver.ensures ∙ c.in_default-first_without_driver.is)
    (sym c.first_without_times.ensures ∙ c.in_default-first_without_times.is) in
    let all_names = distinct-names c.args.drivers.now (λ place. SameName place) (views c.args.tables.now) (texts c.in_ok-names.names.keys) parts c.in_ok-names.ensures in
    rw c.in_ok-points.ensures.points (subst DistinctNames all_names
    (distinct-apart (λ place. SameName place) (map name_of (views c.args.tables.now)) (texts c.in_ok-names.names.keys) c.in_ok-names.ensures))

pub returns-clause-whole : goal.returns-clause-whole
returns-clause-whole c = rw c.in_ok-points.ensures.points (all_whole c.args.drivers.now (views c.args.tables.now))
