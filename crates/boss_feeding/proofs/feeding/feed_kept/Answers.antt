use Rattle.std.proofs.Common.{◌≡◌, inr, refl, sym, subst}
use Rattle.boss_feeding.specs.Faults.{IsLate}
use Rattle.boss_feeding.specs.Refusals.{DiskRefuses, IsOfPair}
use Rattle.boss_feeding.proofs.Lifted.{each_fault, late_refuses, never_late}
use Rattle.boss_feeding.proofs.Stood.{feed_same, kept_log}
use Rattle.boss_feeding.proofs.Writing.{nothing_told}
use Rattle.boss_model.specs.Catalogue.{actuators}
use Rattle.boss_model.specs.Seen.{seen}
use Rattle.boss_opening.specs.Opens.{digest_of}
use Rattle.boss_outside.specs.Streams.{Writes}
use Rattle.boss_feeding.proofs.feeding.feed_kept.Goals as goal

pub returns-in-Ok-clause-told : goal.returns-in-Ok-clause-told
returns-in-Ok-clause-told g c tells takes from_state before events has =
    let d = seen c.args.base.now.kept in
    let many = c.args.base.now.before in
    let kept = kept_log (actuators c.args.catalogue.now) (digest_of c.args.catalogue.now) from_state before events (g.D.Disk.reads c.args.disk) d many c.args.base.now.gate has
    (c.requires.state tells) (c.requires.kept tells) c.in-Ok.ensures.right in
    subst (λ text. Writes (g.K.Sink.taken c.args.sink.now) (g.K.Sink.taken c.feed_sound.new.sink) text c.feed_sound.result.1)
    (feed_same c.args.from d from_state many before events (sym kept.base_is) (sym kept.before_is)) (c.feed_sound.ensures.told tells takes events kept.log)

pub returns-in-Ok-clause-refuses : goal.returns-in-Ok-clause-refuses
returns-in-Ok-clause-refuses g c tells =
    each_fault IsLate (DiskRefuses (actuators c.args.catalogue.now) (digest_of c.args.catalogue.now) (g.D.Disk.reads c.args.disk)) c.feed_sound.result.1
    (late_refuses (actuators c.args.catalogue.now) (digest_of c.args.catalogue.now) (g.D.Disk.reads c.args.disk)) c.feed_sound.ensures.late

pub returns-in-Ok-clause-silent : goal.returns-in-Ok-clause-silent
returns-in-Ok-clause-silent g c takes =
    each_fault IsLate (λ fault. IsOfPair fault → g.K.Sink.taken c.feed_sound.new.sink ≡ g.K.Sink.taken c.args.sink.now) c.feed_sound.result.1
    (λ fault late some. absurd (never_late fault late some)) c.feed_sound.ensures.late

pub returns-in-Err-NotSound-clause-told : goal.returns-in-Err-NotSound-clause-told
returns-in-Err-NotSound-clause-told g c tells takes from_state before events has = nothing_told _ _

pub returns-in-Err-NotSound-clause-refuses : goal.returns-in-Err-NotSound-clause-refuses
returns-in-Err-NotSound-clause-refuses g c tells =
    inr (refl, seen c.args.base.now.kept, c.args.base.now.before, c.args.base.now.gate, c.requires.kept tells, c.in-Err-NotSound.ensures.wrong c.in-Err-NotSound.field-0-is)

pub returns-in-Err-NoMemory-clause-told : goal.returns-in-Err-NoMemory-clause-told
returns-in-Err-NoMemory-clause-told g c tells takes from_state before events has = nothing_told _ _
