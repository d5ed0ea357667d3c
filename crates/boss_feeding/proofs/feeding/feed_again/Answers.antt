use Rattle.std.proofs.Common.{sym, subst}
use Rattle.std.specs.Prelude.{IfErr}
use Rattle.boss_disk_pair.specs.Causes.{Counts}
use Rattle.boss_disk_pair.specs.Forces.{TellsForce}
use Rattle.boss_feeding.specs.Faults.{DisksCause}
use Rattle.boss_feeding.specs.Refusals.{FeedRefuses}
use Rattle.boss_feeding.proofs.Writing.{nothing_told}
use Rattle.boss_model.specs.Catalogue.{actuators}
use Rattle.boss_opening.specs.Opens.{digest_of}
use Rattle.boss_pair_find.specs.Two.{counts}
use Rattle.boss_pair_find.proofs.Orders.{at_both}
use Rattle.def_disk_pair.specs.Pairs.{StandsFor}
use Rattle.def_log.specs.Kinds.{kind_of}
use Rattle.boss_feeding.proofs.feeding.feed_again.Goals as goal

pub feed_forced-requires : goal.feed_forced-requires
feed_forced-requires g c tells =
    at_both (λ a b. TellsForce (kind_of a) (kind_of b) c.in-Ok.force) _ _ _ _ (sym (c.find_force.ensures.first_reads tells)) (sym (c.find_force.ensures.second_reads tells))
    (c.in-Ok.ensures.force tells)

pub returns-in-Ok-clause-told : goal.returns-in-Ok-clause-told
returns-in-Ok-clause-told g c tells takes base before events stands =
    c.feed_forced.ensures.told tells takes base before events
    (at_both (StandsFor (actuators c.args.catalogue.now) (digest_of c.args.catalogue.now) base before events) _ _ _ _ (sym (c.find_force.ensures.first_reads tells))
    (sym (c.find_force.ensures.second_reads tells)) stands)

pub returns-in-Ok-clause-refuses : goal.returns-in-Ok-clause-refuses
returns-in-Ok-clause-refuses g c tells =
    at_both (λ a b. IfErr c.feed_forced.result.1 (FeedRefuses (actuators c.args.catalogue.now) (digest_of c.args.catalogue.now) a b)) _ _ _ _ (c.find_force.ensures.first_reads tells)
    (c.find_force.ensures.second_reads tells) (c.feed_forced.ensures.refuses tells)

pub returns-in-Ok-clause-cause : goal.returns-in-Ok-clause-cause
returns-in-Ok-clause-cause g c =
    subst (λ (before : Counts). DisksCause before (counts (g.D.Disk.faults c.feed_forced.result.0.0) (g.D.Disk.faults c.feed_forced.result.0.1)) c.feed_forced.result.1) c.in-Ok.ensures.cause
    c.feed_forced.ensures.cause

pub returns-in-Err-clause-told : goal.returns-in-Err-clause-told
returns-in-Err-clause-told g c tells takes base before events stands = nothing_told _ _
