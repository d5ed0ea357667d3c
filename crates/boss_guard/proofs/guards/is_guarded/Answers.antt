use Rattle.std.proofs.Common.{sym}
use Rattle.def_guards.specs.Guards.{is_guarded_at}
use Rattle.boss_points.specs.Seen.{seen}
use Rattle.boss_guard.proofs.Places.{any_here, none_more}
use Rattle.boss_guard.proofs.guards.is_guarded.Goals as goal

pub returns-then-is_guarded_at : goal.returns-then-is_guarded_at
returns-then-is_guarded_at c = sym (any_here (is_guarded_at c.args.driver) c.args.catalogue.now.points c.loop-place.place (seen c.point.result.now) c.point.ensures.point (sym c.if-is_guarded_at.ensures))

pub loop-place-preserved : goal.loop-place-preserved
loop-place-preserved c = none_more (is_guarded_at c.args.driver) c.args.catalogue.now.points c.loop-place.place (seen c.point.result.now) c.point.ensures.point (sym c.if-is_guarded_at.ensures) c.loop-place.invariant
