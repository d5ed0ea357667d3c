use Rattle.std.proofs.Common.{◌≡◌, subst}
use Rattle.boss_disk_pair.specs.declared.forces.Force.TheVariants as forces
use Rattle.boss_disk_pair.specs.Forces.{TellsForce}
use Rattle.boss_feeding.specs.Faults.{IsLate}
use Rattle.boss_feeding.specs.Refusals.{DiskRefuses, FeedRefuses, IsOfPair}
use Rattle.boss_feeding.proofs.Forced.{is_state, told_first, told_force, told_second}
use Rattle.boss_feeding.proofs.Lifted.{each_fault, first_cause, late_feed_refuses, lifted, never_late, of_first, of_second, second_cause}
use Rattle.boss_feeding.proofs.Stood.{feed_new, first_has, never_foreign, new_has, second_has}
use Rattle.boss_feeding.proofs.Writing.{no_lines}
use Rattle.boss_model.specs.Catalogue.{actuators}
use Rattle.boss_opening.specs.Opens.{digest_of}
use Rattle.def_catalogue.specs.Canonical.{canonical}
use Rattle.def_log.specs.Kinds.{kind_of}
use Rattle.sha2.proofs.Facts256.{length-sha256}
use Rattle.boss_feeding.proofs.feeding.feed_forced.Goals as goal

-- ---- none

pub returns-in-None-clause-told : goal.returns-in-None-clause-told
returns-in-None-clause-told g c tells takes base before events stands =
    let told = subst (TellsForce (kind_of (g.D.Disk.reads c.args.first)) (kind_of (g.D.Disk.reads c.args.second))) c.in-None.is (c.requires tells) in
    absurd (never_foreign (actuators c.args.catalogue.now) (digest_of c.args.catalogue.now) base before events (g.D.Disk.reads c.args.first) (g.D.Disk.reads c.args.second) stands told)

pub returns-in-Some-Neither-clause-told : goal.returns-in-Some-Neither-clause-told
returns-in-Some-Neither-clause-told g c tells takes base before events stands =
    let first = g.D.Disk.reads c.args.first in
    let second = g.D.Disk.reads c.args.second in
    let told = told_force (kind_of first) (kind_of second) c.args.force c.in-Some-Neither.field-0 forces.Neither c.in-Some-Neither.is (rw c.in-Some-Neither.is at c.in-Some-Neither.field-0-is) (c.requires tells) in
    let new = new_has (actuators c.args.catalogue.now) (digest_of c.args.catalogue.now) base before events first second stands told in
    no_lines (g.K.Sink.taken c.args.sink.now) _ (feed_new c.args.from base before events new.0 new.1)

-- ---- a journal from the first state on

pub feed_plain-first-requires : goal.feed_plain-first-requires
feed_plain-first-requires g c tells =
    (told_force (kind_of (g.D.Disk.reads c.args.first)) (kind_of (g.D.Disk.reads c.args.second)) c.args.force c.in-Some-Plain.field-0 forces.Plain c.in-Some-Plain.is (rw c.in-Some-Plain.is at c.in-Some-Plain.field-0-is)
    (c.requires tells)).1

pub returns-in-Some-Plain-clause-told : goal.returns-in-Some-Plain-clause-told
returns-in-Some-Plain-clause-told g c tells takes base before events stands =
    let first = g.D.Disk.reads c.args.first in
    let second = g.D.Disk.reads c.args.second in
    let plant = actuators c.args.catalogue.now in
    let digest = digest_of c.args.catalogue.now in
    let told = told_force (kind_of first) (kind_of second) c.args.force c.in-Some-Plain.field-0 forces.Plain c.in-Some-Plain.is (rw c.in-Some-Plain.is at c.in-Some-Plain.field-0-is) (c.requires tells) in
    c.feed_plain-first.ensures.told tells takes plant digest base before events (length-sha256 (canonical c.args.catalogue.now))
    (first_has plant digest base before events first second stands told.0)

pub returns-in-Some-Plain-clause-refuses : goal.returns-in-Some-Plain-clause-refuses
returns-in-Some-Plain-clause-refuses g c tells =
    let first = g.D.Disk.reads c.args.first in
    let second = g.D.Disk.reads c.args.second in
    let plant = actuators c.args.catalogue.now in
    let digest = digest_of c.args.catalogue.now in
    each_fault IsLate (FeedRefuses plant digest first second) c.feed_plain-first.result.1 (late_feed_refuses plant digest first second) c.feed_plain-first.ensures.late

pub returns-in-Some-Plain-clause-silent : goal.returns-in-Some-Plain-clause-silent
returns-in-Some-Plain-clause-silent g c takes =
    each_fault IsLate (λ fault. IsOfPair fault → g.K.Sink.taken c.feed_plain-first.new.sink ≡ g.K.Sink.taken c.args.sink.now) c.feed_plain-first.result.1
    (λ fault late some. absurd (never_late fault late some)) c.feed_plain-first.ensures.late

pub returns-in-Some-Plain-clause-cause : goal.returns-in-Some-Plain-clause-cause
returns-in-Some-Plain-clause-cause g c =
    first_cause (g.D.Disk.faults c.args.first) (g.D.Disk.faults c.feed_plain-first.result.0) (g.D.Disk.faults c.args.second) c.feed_plain-first.result.1 c.feed_plain-first.ensures.cause

-- ---- a kept state on the first disk

pub feed_state-first-requires : goal.feed_state-first-requires
feed_state-first-requires g c tells =
    let first = g.D.Disk.reads c.args.first in
    let second = g.D.Disk.reads c.args.second in
    is_state (kind_of first) c.in-Some-State.field-0-1
    (told_first (kind_of first) (kind_of second) c.args.force c.in-Some-State.field-0 c.in-Some-State.is_second c.in-Some-State.field-0-1 c.in-Some-State.is (rw c.in-Some-State.is at c.in-Some-State.field-0-is) c.if-is_second.false (c.requires tells)).1

pub returns-else-is_second-clause-told : goal.returns-else-is_second-clause-told
returns-else-is_second-clause-told g c tells takes base before events stands =
    let first = g.D.Disk.reads c.args.first in
    let second = g.D.Disk.reads c.args.second in
    let told = told_first (kind_of first) (kind_of second) c.args.force c.in-Some-State.field-0 c.in-Some-State.is_second c.in-Some-State.field-0-1 c.in-Some-State.is (rw c.in-Some-State.is at c.in-Some-State.field-0-is) c.if-is_second.false (c.requires tells) in
    c.feed_state-first.ensures.told tells takes base before events
    (first_has (actuators c.args.catalogue.now) (digest_of c.args.catalogue.now) base before events first second stands told.0)

pub returns-else-is_second-clause-refuses : goal.returns-else-is_second-clause-refuses
returns-else-is_second-clause-refuses g c tells =
    let first = g.D.Disk.reads c.args.first in
    let second = g.D.Disk.reads c.args.second in
    let plant = actuators c.args.catalogue.now in
    let digest = digest_of c.args.catalogue.now in
    let told = told_first (kind_of first) (kind_of second) c.args.force c.in-Some-State.field-0 c.in-Some-State.is_second c.in-Some-State.field-0-1 c.in-Some-State.is (rw c.in-Some-State.is at c.in-Some-State.field-0-is) c.if-is_second.false (c.requires tells) in
    each_fault (DiskRefuses plant digest first) (FeedRefuses plant digest first second) c.feed_state-first.result.1
    (lifted plant digest first second first (is_state (kind_of first) c.in-Some-State.field-0-1 told.1) (of_first first second told.0)) (c.feed_state-first.ensures.refuses tells)

pub returns-else-is_second-clause-cause : goal.returns-else-is_second-clause-cause
returns-else-is_second-clause-cause g c =
    first_cause (g.D.Disk.faults c.args.first) (g.D.Disk.faults c.feed_state-first.result.0) (g.D.Disk.faults c.args.second) c.feed_state-first.result.1 c.feed_state-first.ensures.cause

-- ---- a kept state on the second disk

pub feed_state-second-requires : goal.feed_state-second-requires
feed_state-second-requires g c tells =
    let first = g.D.Disk.reads c.args.first in
    let second = g.D.Disk.reads c.args.second in
    is_state (kind_of second) c.in-Some-State.field-0-1
    (told_second (kind_of first) (kind_of second) c.args.force c.in-Some-State.field-0 c.in-Some-State.is_second c.in-Some-State.field-0-1 c.in-Some-State.is (rw c.in-Some-State.is at c.in-Some-State.field-0-is) c.if-is_second.true (c.requires tells)).1

pub returns-then-is_second-clause-told : goal.returns-then-is_second-clause-told
returns-then-is_second-clause-told g c tells takes base before events stands =
    let first = g.D.Disk.reads c.args.first in
    let second = g.D.Disk.reads c.args.second in
    let told = told_second (kind_of first) (kind_of second) c.args.force c.in-Some-State.field-0 c.in-Some-State.is_second c.in-Some-State.field-0-1 c.in-Some-State.is (rw c.in-Some-State.is at c.in-Some-State.field-0-is) c.if-is_second.true (c.requires tells) in
    c.feed_state-second.ensures.told tells takes base before events
    (second_has (actuators c.args.catalogue.now) (digest_of c.args.catalogue.now) base before events first second stands told.0)

pub returns-then-is_second-clause-refuses : goal.returns-then-is_second-clause-refuses
returns-then-is_second-clause-refuses g c tells =
    let first = g.D.Disk.reads c.args.first in
    let second = g.D.Disk.reads c.args.second in
    let plant = actuators c.args.catalogue.now in
    let digest = digest_of c.args.catalogue.now in
    let told = told_second (kind_of first) (kind_of second) c.args.force c.in-Some-State.field-0 c.in-Some-State.is_second c.in-Some-State.field-0-1 c.in-Some-State.is (rw c.in-Some-State.is at c.in-Some-State.field-0-is) c.if-is_second.true (c.requires tells) in
    each_fault (DiskRefuses plant digest second) (FeedRefuses plant digest first second) c.feed_state-second.result.1
    (lifted plant digest first second second (is_state (kind_of second) c.in-Some-State.field-0-1 told.1) (of_second first second told.0)) (c.feed_state-second.ensures.refuses tells)

pub returns-then-is_second-clause-cause : goal.returns-then-is_second-clause-cause
returns-then-is_second-clause-cause g c =
    second_cause (g.D.Disk.faults c.args.second) (g.D.Disk.faults c.feed_state-second.result.0) (g.D.Disk.faults c.args.first) c.feed_state-second.result.1 c.feed_state-second.ensures.cause
