use Rattle.std.proofs.Common.{◌≡◌, inl, [], refl, sym, subst}
use Rattle.std.specs.Prelude.{IfErr}
use Rattle.boss_disk_pair.specs.Causes.{Counts}
use Rattle.boss_feeding.specs.Faults.{DisksCause}
use Rattle.boss_feeding.specs.Held.{Stands}
use Rattle.boss_feeding.specs.Refusals.{FeedRefuses}
use Rattle.boss_feeding.proofs.Forced.{new_stands}
use Rattle.boss_feeding.proofs.Looked.{looked_cause, looked_fine, looked_found, looked_new, looked_refused, at_any_rate, whatever}
use Rattle.boss_feeding.proofs.Stood.{feed_new, new_has}
use Rattle.boss_feeding.proofs.Writing.{no_lines, nothing_told}
use Rattle.boss_model.specs.Catalogue.{actuators}
use Rattle.boss_model.specs.State.{first_persistent}
use Rattle.boss_opening.specs.Opens.{digest_of}
use Rattle.boss_pair_find.specs.Two.{counts}
use Rattle.boss_pair_find.proofs.Orders.{at_both}
use Rattle.def_disk_pair.specs.Pairs.{StandsFor}
use Rattle.boss_feeding.proofs.feeding.feed.Goals as goal

-- ---- a new pair

pub returns-in-Ok-New-clause-told : goal.returns-in-Ok-New-clause-told
returns-in-Ok-New-clause-told g c tells takes base before events stands =
    let plant = actuators c.args.catalogue.now in
    let digest = digest_of c.args.catalogue.now in
    let first = g.D.Disk.reads c.args.first in
    let second = g.D.Disk.reads c.args.second in
    let pair = looked_new plant digest first second c.check-disks.result.1 c.in-Ok-New.field-0 c.in-Ok-New.is (rw c.in-Ok-New.is at c.in-Ok-New.field-0-is) (c.check-disks.ensures.tells tells) in
    let new = new_has plant digest base before events first second stands pair.0 in
    no_lines (g.K.Sink.taken c.args.sink.now) _ (feed_new c.args.from base before events new.0 new.1)

pub returns-in-Ok-New-clause-stands : goal.returns-in-Ok-New-clause-stands
returns-in-Ok-New-clause-stands g c tells =
    let plant = actuators c.args.catalogue.now in
    let digest = digest_of c.args.catalogue.now in
    let first = g.D.Disk.reads c.args.first in
    let second = g.D.Disk.reads c.args.second in
    let pair = looked_new plant digest first second c.check-disks.result.1 c.in-Ok-New.field-0 c.in-Ok-New.is (rw c.in-Ok-New.is at c.in-Ok-New.field-0-is) (c.check-disks.ensures.tells tells) in
    (first_persistent, 0, [], new_stands plant digest first second pair)

pub returns-in-Ok-New-clause-cause : goal.returns-in-Ok-New-clause-cause
returns-in-Ok-New-clause-cause g c = looked_fine _ _ c.check-disks.result.1 c.check-disks.ensures.cause c.in-Ok-New.field-0 c.in-Ok-New.is

-- ---- a pair that stands for something

pub returns-in-Ok-Found-clause-told : goal.returns-in-Ok-Found-clause-told
returns-in-Ok-Found-clause-told g c tells takes base before events stands =
    c.feed_again.ensures.told tells takes base before events
    (at_both (StandsFor (actuators c.args.catalogue.now) (digest_of c.args.catalogue.now) base before events) _ _ _ _ (sym (c.check-disks.ensures.first_reads tells)) (sym (c.check-disks.ensures.second_reads tells)) stands)

pub returns-in-Ok-Found-clause-stands : goal.returns-in-Ok-Found-clause-stands
returns-in-Ok-Found-clause-stands g c tells =
    let plant = actuators c.args.catalogue.now in
    let digest = digest_of c.args.catalogue.now in
    let first = g.D.Disk.reads c.args.first in
    let second = g.D.Disk.reads c.args.second in
    let found = looked_found plant digest first second c.check-disks.result.1 c.in-Ok-Found.field-0 c.in-Ok-Found.field-0-0 c.in-Ok-Found.field-0-1 c.in-Ok-Found.field-0-2 c.in-Ok-Found.field-0-3 c.in-Ok-Found.is
    (rw c.in-Ok-Found.is at c.in-Ok-Found.field-0-is) (c.check-disks.ensures.tells tells) in
    whatever (Stands plant digest first second) c.feed_again.result.1 (found.from, found.before, found.events, found.stands)

pub returns-in-Ok-Found-clause-broke : goal.returns-in-Ok-Found-clause-broke
returns-in-Ok-Found-clause-broke g c tells =
    let plant = actuators c.args.catalogue.now in
    let digest = digest_of c.args.catalogue.now in
    let first = g.D.Disk.reads c.args.first in
    let second = g.D.Disk.reads c.args.second in
    let found = looked_found plant digest first second c.check-disks.result.1 c.in-Ok-Found.field-0 c.in-Ok-Found.field-0-0 c.in-Ok-Found.field-0-1 c.in-Ok-Found.field-0-2 c.in-Ok-Found.field-0-3 c.in-Ok-Found.is
    (rw c.in-Ok-Found.is at c.in-Ok-Found.field-0-is) (c.check-disks.ensures.tells tells) in
    at_any_rate (Stands plant digest first second) (g.K.Sink.tells → g.K.Sink.taken c.feed_again.new.sink ≡ g.K.Sink.taken c.args.sink.now) c.feed_again.result.1
    (found.from, found.before, found.events, found.stands)

pub returns-in-Ok-Found-clause-refuses : goal.returns-in-Ok-Found-clause-refuses
returns-in-Ok-Found-clause-refuses g c tells =
    at_both (λ a b. IfErr c.feed_again.result.1 (FeedRefuses (actuators c.args.catalogue.now) (digest_of c.args.catalogue.now) a b)) _ _ _ _ (c.check-disks.ensures.first_reads tells)
    (c.check-disks.ensures.second_reads tells) (c.feed_again.ensures.refuses tells)

pub returns-in-Ok-Found-clause-cause : goal.returns-in-Ok-Found-clause-cause
returns-in-Ok-Found-clause-cause g c =
    subst (λ (before : Counts). DisksCause before (counts (g.D.Disk.faults c.feed_again.result.0.0) (g.D.Disk.faults c.feed_again.result.0.1)) c.feed_again.result.1)
    (looked_fine _ _ c.check-disks.result.1 c.check-disks.ensures.cause c.in-Ok-Found.field-0 c.in-Ok-Found.is) c.feed_again.ensures.cause

-- ---- a pair that is refused

pub returns-in-Err-clause-told : goal.returns-in-Err-clause-told
returns-in-Err-clause-told g c tells takes base before events stands = nothing_told _ _

pub returns-in-Err-clause-broke : goal.returns-in-Err-clause-broke
returns-in-Err-clause-broke g c tells = inl (λ _. refl)

pub returns-in-Err-clause-refuses : goal.returns-in-Err-clause-refuses
returns-in-Err-clause-refuses g c tells =
    let first = g.D.Disk.reads c.args.first in
    let second = g.D.Disk.reads c.args.second in
    rw c.from.ensures (looked_refused (actuators c.args.catalogue.now) (digest_of c.args.catalogue.now) first second c.check-disks.result.1 c.in-Err.refusal c.in-Err.is (c.check-disks.ensures.refuses tells))

pub returns-in-Err-clause-cause : goal.returns-in-Err-clause-cause
returns-in-Err-clause-cause g c = rw c.from.ensures (looked_cause _ _ c.check-disks.result.1 c.check-disks.ensures.cause c.in-Err.refusal c.in-Err.is)
