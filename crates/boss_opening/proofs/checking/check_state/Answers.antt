use Rattle.std.proofs.Common.{inl, inr, List, [], refl, sym, subst}
use Rattle.boss_pair_find.specs.declared.refusal.DurableRefusal.TheVariants.{Damaged, NoMemory}
use Rattle.boss_pair_find.proofs.Apart.{new_not_kept}
use Rattle.boss_model.specs.Catalogue.{actuators}
use Rattle.boss_model.specs.declared.state.Actuator.{Actuator}
use Rattle.boss_model.specs.Seen.{seen}
use Rattle.boss_model.specs.State.{State}
use Rattle.boss_opening.specs.Checks.{IsCheck}
use Rattle.boss_opening.specs.Opens.{digest_of}
use Rattle.boss_opening.proofs.Looks.{unlooked}
use Rattle.boss_disk_pair.specs.Causes.{first_disk, second_disk}
use Rattle.boss_disk_pair.specs.Reads.{reads_to}
use Rattle.boss_opening.proofs.checking.check_state.Goals as goal

pub check_pair-requires-clause-begins : goal.check_pair-requires-clause-begins
check_pair-requires-clause-begins g c =
    subst (λ (plant : List Actuator). reads_to c.args.pair plant c.in-Ok.engine.state.persistent c.args.pair.events [] c.in-Ok.engine.state.persistent) (sym c.in-Ok.ensures.plant)
    (subst (λ (s : State). reads_to c.args.pair (actuators c.args.catalogue.now) s.persistent c.args.pair.events [] s.persistent) (sym c.in-Ok.ensures.state)
    (c.requires.reads c.in-Ok.ensures.right))

pub check_pair-requires-clause-not_new : goal.check_pair-requires-clause-not_new
check_pair-requires-clause-not_new g c told new = new_not_kept (digest_of c.args.catalogue.now) (g.D.Disk.reads (first_disk c.args.pair)) (g.D.Disk.reads (second_disk c.args.pair)) (seen c.args.kept.now) c.args.pair.events c.args.pair.journal.place new (c.requires.found told)

pub returns-in-Ok : goal.returns-in-Ok
returns-in-Ok g c =
    subst (λ digest. IsCheck g.D.Disk (actuators c.args.catalogue.now) digest (first_disk c.args.pair) (second_disk c.args.pair) c.check_pair.result) c.requires.starts.catalogue
    (subst (λ plant. IsCheck g.D.Disk plant c.args.pair.digest (first_disk c.args.pair) (second_disk c.args.pair) c.check_pair.result) c.in-Ok.ensures.plant c.check_pair.ensures)

pub returns-in-Err-NotSound : goal.returns-in-Err-NotSound
returns-in-Err-NotSound g c =
    unlooked (actuators c.args.catalogue.now) (digest_of c.args.catalogue.now) (first_disk c.args.pair) (second_disk c.args.pair) c.close.result (Damaged 65) c.close.ensures.disks.0 c.close.ensures.disks.1
    (λ told. inr (inl (refl, (seen c.args.kept.now, c.args.pair.events, c.args.pair.journal.place, c.requires.found told, c.in-Err-NotSound.ensures.wrong c.in-Err-NotSound.field-0-is)))) refl

pub returns-in-Err-NoMemory : goal.returns-in-Err-NoMemory
returns-in-Err-NoMemory g c =
    unlooked (actuators c.args.catalogue.now) (digest_of c.args.catalogue.now) (first_disk c.args.pair) (second_disk c.args.pair) c.close-in-Err-NoMemory.result NoMemory c.close-in-Err-NoMemory.ensures.disks.0 c.close-in-Err-NoMemory.ensures.disks.1
    (λ told. tt) refl
