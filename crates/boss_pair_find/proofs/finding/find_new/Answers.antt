use Rattle.std.proofs.Common.{inl, inr, refl, sym, subst}
use Rattle.boss_pair_find.specs.Refusals.{FindRefuses, PairCause}
use Rattle.boss_pair_find.proofs.Made.{both_idle}
use Rattle.boss_snapshot.proofs.OfFronts.{denied}
use Rattle.boss_pair_find.proofs.finding.find_new.Goals as goal

pub is_new-requires : goal.is_new-requires
is_new-requires g c told = (both_idle _ _ (c.requires told)).0

pub returns-then-new-clause-finds : goal.returns-then-new-clause-finds
returns-then-new-clause-finds g c told digest = (c.requires told, (c.in-Ok.ensures.new told).0 c.if-new.true)

pub returns-else-new-clause-refuses : goal.returns-else-new-clause-refuses
returns-else-new-clause-refuses g c told digest =
    inr (c.requires told, λ new. denied c.in-Ok.new (c.in-Ok.ensures.new told).1 c.if-new.false new)

pub returns-in-Err-clause-refuses : goal.returns-in-Err-clause-refuses
returns-in-Err-clause-refuses g c told digest = subst (FindRefuses digest (g.D.Disk.reads c.args.first) (g.D.Disk.reads c.args.second)) (sym c.from.ensures) tt

pub returns-in-Err-clause-cause : goal.returns-in-Err-clause-cause
returns-in-Err-clause-cause g c = subst (PairCause _ _) (sym c.from.ensures) (inl (c.in-Err.ensures.cause.failed, refl))
