use Rattle.std.proofs.Common.{refl, sym, subst}
use Rattle.std.specs.Prelude.{IfErr}
use Rattle.boss_feeding.specs.Faults.{ActiveCause}
use Rattle.boss_feeding.specs.Refusals.{DiskRefuses}
use Rattle.boss_feeding.proofs.Lifted.{state_cause, state_refuses}
use Rattle.boss_feeding.proofs.Writing.{nothing_told}
use Rattle.boss_model.specs.Catalogue.{actuators}
use Rattle.boss_model.specs.Seen.{seen}
use Rattle.boss_opening.specs.Opens.{digest_of}
use Rattle.boss_pair_find.specs.Refusals.{DiskCause}
use Rattle.boss_pair_find.proofs.Begun.{kept_stands}
use Rattle.boss_snapshot.specs.Refusals.{IsKeptState, IsState, Refuses}
use Rattle.def_disk_pair.specs.Pairs.{HasEvents}
use Rattle.def_log.specs.Kinds.{kind_of}
use Rattle.boss_feeding.proofs.feeding.feed_state.Goals as goal

pub feed_kept-requires-clause-state : goal.feed_kept-requires-clause-state
feed_kept-requires-clause-state g c tells = subst (λ bytes. IsState (kind_of bytes)) (sym (c.read_state.ensures.reads tells)) (c.requires tells)

pub feed_kept-requires-clause-kept : goal.feed_kept-requires-clause-kept
feed_kept-requires-clause-kept g c tells =
    kept_stands (digest_of c.args.catalogue.now) _ _ _ _ _ _ _ (c.read_state.ensures.reads tells) c.min-before.ensures refl
    (subst (λ digest. IsKeptState digest (g.D.Disk.reads c.args.disk) (seen c.in-Ok.kept) c.in-Ok.before c.in-Ok.gate) c.digest.ensures (c.in-Ok.ensures.finds tells))

pub returns-in-Ok-clause-told : goal.returns-in-Ok-clause-told
returns-in-Ok-clause-told g c tells takes base before events has =
    c.feed_kept.ensures.told tells takes base before events
    (subst (HasEvents (actuators c.args.catalogue.now) (digest_of c.args.catalogue.now) base before events) (sym (c.read_state.ensures.reads tells)) has)

pub returns-in-Ok-clause-refuses : goal.returns-in-Ok-clause-refuses
returns-in-Ok-clause-refuses g c tells =
    subst (λ bytes. IfErr c.feed_kept.result.1 (DiskRefuses (actuators c.args.catalogue.now) (digest_of c.args.catalogue.now) bytes)) (c.read_state.ensures.reads tells) (c.feed_kept.ensures.refuses tells)

pub returns-in-Ok-clause-cause : goal.returns-in-Ok-clause-cause
returns-in-Ok-clause-cause g c =
    subst (λ before. ActiveCause before (g.D.Disk.faults c.feed_kept.result.0) c.feed_kept.result.1) c.in-Ok.ensures.fine c.feed_kept.ensures.cause

pub returns-in-Err-clause-told : goal.returns-in-Err-clause-told
returns-in-Err-clause-told g c tells takes base before events has = nothing_told _ _

pub returns-in-Err-clause-refuses : goal.returns-in-Err-clause-refuses
returns-in-Err-clause-refuses g c tells =
    rw c.from.ensures (state_refuses (actuators c.args.catalogue.now) (digest_of c.args.catalogue.now) (g.D.Disk.reads c.args.disk) c.in-Err.refusal
    (subst (λ digest. Refuses digest (g.D.Disk.reads c.args.disk) c.in-Err.refusal) c.digest.ensures (c.in-Err.ensures.refuses tells)))

pub returns-in-Err-clause-cause : goal.returns-in-Err-clause-cause
returns-in-Err-clause-cause g c =
    subst (DiskCause (g.D.Disk.faults c.args.disk) (g.D.Disk.faults c.read_state.new.disk)) (sym c.from.ensures)
    (state_cause (g.D.Disk.faults c.args.disk) (g.D.Disk.faults c.read_state.new.disk) c.in-Err.refusal c.in-Err.ensures.cause)
