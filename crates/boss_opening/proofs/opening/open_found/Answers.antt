use Rattle.std.proofs.Common.{◌≡◌, subst, sym}
use Rattle.boss_disk.specs.Window.{settled}
use Rattle.boss_pair_find.specs.Finds.{Finds, IsSettled, Starts, found_first, found_second}
use Rattle.boss_model.specs.Catalogue.{actuators}
use Rattle.boss_opening.specs.Opens.{IsUntouched, Opening, Stays, digest_of}
use Rattle.boss_disk_pair.specs.Reads.{is_settled, reads_to}
use Rattle.boss_opening.proofs.opening.open_found.Goals as goal

pub returns-in-New-clause-opening : goal.returns-in-New-clause-opening
returns-in-New-clause-opening g c =
    subst (λ found. Opening (actuators c.args.catalogue.now) (digest_of c.args.catalogue.now) c.args.log_limit (found_first found) (found_second found) c.open_new.result) (sym c.in-New.is) c.open_new.ensures.opening

pub returns-in-New-clause-untouched : goal.returns-in-New-clause-untouched
returns-in-New-clause-untouched g c told =
    subst (λ found. IsUntouched (found_first found) (found_second found) c.open_new.result) (sym c.in-New.is) (c.open_new.ensures.untouched told)

pub returns-in-New-clause-stays : goal.returns-in-New-clause-stays
returns-in-New-clause-stays g c told =
    subst (λ found. Stays (actuators c.args.catalogue.now) (digest_of c.args.catalogue.now) (found_first found) (found_second found) c.open_new.result) (sym c.in-New.is) (c.open_new.ensures.stays told)

pub returns-in-Plain-clause-opening : goal.returns-in-Plain-clause-opening
returns-in-Plain-clause-opening g c =
    subst (λ found. Opening (actuators c.args.catalogue.now) (digest_of c.args.catalogue.now) c.args.log_limit (found_first found) (found_second found) c.open_plain.result) (sym c.in-Plain.is) c.open_plain.ensures.opening

pub returns-in-Plain-clause-untouched : goal.returns-in-Plain-clause-untouched
returns-in-Plain-clause-untouched g c told =
    subst (λ found. IsUntouched (found_first found) (found_second found) c.open_plain.result) (sym c.in-Plain.is) (c.open_plain.ensures.untouched told)

pub returns-in-Plain-clause-stays : goal.returns-in-Plain-clause-stays
returns-in-Plain-clause-stays g c told =
    subst (λ found. Stays (actuators c.args.catalogue.now) (digest_of c.args.catalogue.now) (found_first found) (found_second found) c.open_plain.result) (sym c.in-Plain.is) (c.open_plain.ensures.stays told)

pub returns-in-State-clause-opening : goal.returns-in-State-clause-opening
returns-in-State-clause-opening g c =
    subst (λ found. Opening (actuators c.args.catalogue.now) (digest_of c.args.catalogue.now) c.args.log_limit (found_first found) (found_second found) c.open_state.result) (sym c.in-State.is) c.open_state.ensures.opening

pub returns-in-State-clause-untouched : goal.returns-in-State-clause-untouched
returns-in-State-clause-untouched g c told =
    subst (λ found. IsUntouched (found_first found) (found_second found) c.open_state.result) (sym c.in-State.is) (c.open_state.ensures.untouched told)

pub returns-in-State-clause-stays : goal.returns-in-State-clause-stays
returns-in-State-clause-stays g c told =
    subst (λ found. Stays (actuators c.args.catalogue.now) (digest_of c.args.catalogue.now) (found_first found) (found_second found) c.open_state.result) (sym c.in-State.is) (c.open_state.ensures.stays told)

pub open_new-requires-clause-new : goal.open_new-requires-clause-new
open_new-requires-clause-new g c told = (subst (λ found. Finds (digest_of c.args.catalogue.now) (g.D.Disk.reads (found_first found)) (g.D.Disk.reads (found_second found)) found) c.in-New.is (c.requires.finds told))

pub open_new-requires-clause-synced : goal.open_new-requires-clause-synced
open_new-requires-clause-synced g c told =
    subst (λ found. ((g.D.Disk.story (found_first found)).window ≡ settled (g.D.Disk.reads (found_first found))) × ((g.D.Disk.story (found_second found)).window ≡ settled (g.D.Disk.reads (found_second found))))
    c.in-New.is (c.requires.synced told)

pub open_plain-requires-clause-starts : goal.open_plain-requires-clause-starts
open_plain-requires-clause-starts g c = subst (λ found. Starts (digest_of c.args.catalogue.now) found) c.in-Plain.is c.requires.starts

pub open_plain-requires-clause-reads : goal.open_plain-requires-clause-reads
unfolding reads_to
open_plain-requires-clause-reads g c = λ told. ((subst (λ found. Finds (digest_of c.args.catalogue.now) (g.D.Disk.reads (found_first found)) (g.D.Disk.reads (found_second found)) found) c.in-Plain.is (c.requires.finds told))).1 (actuators c.args.catalogue.now) told

pub open_plain-requires-clause-settled : goal.open_plain-requires-clause-settled
unfolding is_settled
open_plain-requires-clause-settled g c = λ told. (subst (λ found. IsSettled found) c.in-Plain.is (c.requires.settled told)) told

pub open_state-requires-clause-starts : goal.open_state-requires-clause-starts
open_state-requires-clause-starts g c = subst (λ found. Starts (digest_of c.args.catalogue.now) found) c.in-State.is c.requires.starts

pub open_state-requires-clause-found : goal.open_state-requires-clause-found
open_state-requires-clause-found g c told = ((subst (λ found. Finds (digest_of c.args.catalogue.now) (g.D.Disk.reads (found_first found)) (g.D.Disk.reads (found_second found)) found) c.in-State.is (c.requires.finds told))).0

pub open_state-requires-clause-reads : goal.open_state-requires-clause-reads
unfolding reads_to
open_state-requires-clause-reads g c sound = λ told. ((subst (λ found. Finds (digest_of c.args.catalogue.now) (g.D.Disk.reads (found_first found)) (g.D.Disk.reads (found_second found)) found) c.in-State.is (c.requires.finds told))).1 (actuators c.args.catalogue.now) sound told

pub open_state-requires-clause-settled : goal.open_state-requires-clause-settled
unfolding is_settled
open_state-requires-clause-settled g c = λ told. (subst (λ found. IsSettled found) c.in-State.is (c.requires.settled told)) told
