use Rattle.std.proofs.Common.{inl, inr, List, [], refl, sym, ap, subst, ◌∙◌}
use Rattle.boss_pair_find.specs.declared.refusal.DurableRefusal.TheVariants.{Damaged, NoMemory}
use Rattle.boss_model.specs.Catalogue.{actuators}
use Rattle.boss_model.specs.declared.state.Actuator.{Actuator}
use Rattle.boss_model.specs.Plants.{IsPlant}
use Rattle.boss_model.specs.Seen.{seen}
use Rattle.boss_model.specs.State.{State}
use Rattle.boss_opening.specs.Opens.{Opening, Stays, digest_of}
use Rattle.boss_opening.proofs.Beginnings.{unread, unread_stays}
use Rattle.boss_disk_pair.specs.Causes.{first_disk, second_disk}
use Rattle.boss_disk_pair.specs.Reads.{reads_to}
use Rattle.boss_opening.proofs.opening.open_state.Goals as goal

pub go_on-requires-clause-whole : goal.go_on-requires-clause-whole
go_on-requires-clause-whole g c = subst IsPlant (sym c.in-Ok.ensures.plant) c.points_are_a_plant.ensures

pub go_on-requires-clause-begins : goal.go_on-requires-clause-begins
go_on-requires-clause-begins g c =
    subst (λ (plant : List Actuator). reads_to c.args.pair plant c.in-Ok.engine.state.persistent c.args.pair.events [] c.in-Ok.engine.state.persistent) (sym c.in-Ok.ensures.plant)
    (subst (λ (s : State). reads_to c.args.pair (actuators c.args.catalogue.now) s.persistent c.args.pair.events [] s.persistent) (sym c.in-Ok.ensures.state)
    (c.requires.reads c.in-Ok.ensures.right))

pub returns-in-Ok-clause-opening : goal.returns-in-Ok-clause-opening
returns-in-Ok-clause-opening g c =
    subst (λ digest. Opening (actuators c.args.catalogue.now) digest c.args.log_limit (first_disk c.args.pair) (second_disk c.args.pair) c.go_on.result) c.requires.starts.catalogue
    (subst (λ plant. Opening plant c.args.pair.digest c.args.log_limit (first_disk c.args.pair) (second_disk c.args.pair) c.go_on.result) c.in-Ok.ensures.plant c.go_on.ensures.opening)

pub returns-in-Ok-clause-stays : goal.returns-in-Ok-clause-stays
returns-in-Ok-clause-stays g c told =
    subst (λ digest. Stays (actuators c.args.catalogue.now) digest (first_disk c.args.pair) (second_disk c.args.pair) c.go_on.result) c.requires.starts.catalogue
    (subst (λ plant. Stays plant c.args.pair.digest (first_disk c.args.pair) (second_disk c.args.pair) c.go_on.result) c.in-Ok.ensures.plant (c.go_on.ensures.stays told))

pub returns-in-Err-NotSound-clause-opening : goal.returns-in-Err-NotSound-clause-opening
returns-in-Err-NotSound-clause-opening g c =
    unread (actuators c.args.catalogue.now) (digest_of c.args.catalogue.now) c.args.log_limit c.args.pair c.close.result c.close.ensures.disks (Damaged 65)
    (λ told. inr (inl (refl, (seen c.args.kept.now, c.args.pair.events, c.args.pair.journal.place, c.requires.found told, c.in-Err-NotSound.ensures.wrong c.in-Err-NotSound.field-0-is)))) refl

pub returns-in-Err-NotSound-clause-untouched : goal.returns-in-Err-NotSound-clause-untouched
returns-in-Err-NotSound-clause-untouched g c told some = (ap g.D.Disk.story c.close.ensures.disks.0, ap g.D.Disk.story c.close.ensures.disks.1)

pub returns-in-Err-NotSound-clause-stays : goal.returns-in-Err-NotSound-clause-stays
returns-in-Err-NotSound-clause-stays g c told =
    unread_stays (actuators c.args.catalogue.now) (digest_of c.args.catalogue.now) c.args.log_limit c.args.pair c.close.result c.close.ensures.disks (Damaged 65) c.requires.settled told

pub returns-in-Err-NoMemory-clause-opening : goal.returns-in-Err-NoMemory-clause-opening
returns-in-Err-NoMemory-clause-opening g c =
    unread (actuators c.args.catalogue.now) (digest_of c.args.catalogue.now) c.args.log_limit c.args.pair c.close-in-Err-NoMemory.result c.close-in-Err-NoMemory.ensures.disks NoMemory (λ told. tt) refl

pub returns-in-Err-NoMemory-clause-stays : goal.returns-in-Err-NoMemory-clause-stays
returns-in-Err-NoMemory-clause-stays g c told =
    unread_stays (actuators c.args.catalogue.now) (digest_of c.args.catalogue.now) c.args.log_limit c.args.pair c.close-in-Err-NoMemory.result c.close-in-Err-NoMemory.ensures.disks NoMemory c.requires.settled told
