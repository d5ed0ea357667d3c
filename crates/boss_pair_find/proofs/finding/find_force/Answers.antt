use Rattle.std.proofs.Common.{◌≡◌, inl}
use Rattle.std.specs.Prelude.{Some}
use Rattle.boss_pair_find.proofs.Orders.{at_both}
use Rattle.def_log.specs.InForce.{Foreign}
use Rattle.def_log.specs.Kinds.{in_force}
use Rattle.boss_disk_pair.specs.Forces.{TellsForce}
use Rattle.boss_pair_find.proofs.finding.find_force.Goals as goal

pub returns-in-Some-clause-force : goal.returns-in-Some-clause-force
returns-in-Some-clause-force g c told =
    at_both (λ a b. TellsForce a b (Some c.in-Some.force)) _ _ _ _ (c.in_ok-one.ensures.kind told) (c.in_ok-other.ensures.kind told) c.in-Some.ensures

pub returns-in-None-clause-refuses : goal.returns-in-None-clause-refuses
returns-in-None-clause-refuses g c told digest =
    inl (at_both (λ a b. in_force a b ≡ Foreign) _ _ _ _ (c.in_ok-one.ensures.kind told) (c.in_ok-other.ensures.kind told) c.in-None.ensures)
