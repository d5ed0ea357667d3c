use Rattle.std.proofs.Common.{sym}
use Rattle.boss_model.specs.Catalogue.{actuators}
use Rattle.boss_model.specs.Seen.{seen}
use Rattle.boss_adopting.specs.Places.{places_of}
use Rattle.boss_adopting.proofs.AdoptedSound.{sound-by}
use Rattle.boss_adopting.proofs.Known.{in_use-known, unfit-known, in-catalogue}
use Rattle.boss_adopting.proofs.adopting.adopt_by.Goals as goal

pub name_of-name-requires : goal.name_of-name-requires
name_of-name-requires c =
    in-catalogue c.args.old.now c.in-Some.point
    (in_use-known (actuators c.args.old.now) (places_of c.args.numbering.now) (seen c.args.kept.now) c.requires.sound c.in-Some.point (sym c.in-Some.ensures))

pub name_of-name-requires-in-Some-least_unfit : goal.name_of-name-requires-in-Some-least_unfit
name_of-name-requires-in-Some-least_unfit c =
    in-catalogue c.args.old.now c.in-Some-least_unfit.point
    (unfit-known (actuators c.args.old.now) (places_of c.args.numbering.now) (seen c.args.kept.now) c.requires.sound (actuators c.args.new.now) c.in-Some-least_unfit.point
    (sym c.in-Some-least_unfit.ensures))

pub moved_state-requires-clause-leases : goal.moved_state-requires-clause-leases
moved_state-requires-clause-leases c =
    (sound-by c.args.old.now c.args.new.now (places_of c.args.numbering.now) (seen c.args.kept.now) c.requires.places c.requires.apart c.requires.sound
    (sym c.in_default.ensures) (sym c.in_default-least_unfit.ensures)).lease_slots

pub moved_state-requires-clause-pending : goal.moved_state-requires-clause-pending
moved_state-requires-clause-pending c =
    (sound-by c.args.old.now c.args.new.now (places_of c.args.numbering.now) (seen c.args.kept.now) c.requires.places c.requires.apart c.requires.sound
    (sym c.in_default.ensures) (sym c.in_default-least_unfit.ensures)).pending_slots

pub moved_state-requires-clause-txns : goal.moved_state-requires-clause-txns
moved_state-requires-clause-txns c =
    (sound-by c.args.old.now c.args.new.now (places_of c.args.numbering.now) (seen c.args.kept.now) c.requires.places c.requires.apart c.requires.sound
    (sym c.in_default.ensures) (sym c.in_default-least_unfit.ensures)).numbers
