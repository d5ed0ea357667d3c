use Rattle.std.proofs.Common.{refl, sym, subst, ◌∙◌}
use Rattle.def_log.specs.Versions.{IsKnown}
use Rattle.boss_snapshot.proofs.OfFronts.{denied}
use Rattle.boss_pair_find.proofs.front.check_version.Goals as goal

pub returns-then-not-are_same-clause-tells : goal.returns-then-not-are_same-clause-tells
returns-then-not-are_same-clause-tells c bytes version kept = (
  subst IsKnown version (c.is_known.ensures.0 c.if-not-is_known.false),
  kept,
  refl,
  λ same. denied c.are_same.result c.are_same.ensures.1 c.if-not-are_same.true same,
)

pub returns-clause-tells : goal.returns-clause-tells
returns-clause-tells c bytes version kept =
    (subst IsKnown version (c.is_known.ensures.0 c.if-not-is_known.false), sym kept ∙ c.are_same.ensures.0 c.if-not-are_same.false)
