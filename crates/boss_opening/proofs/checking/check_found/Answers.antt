use Rattle.std.proofs.Common.{refl, subst, sym}
use Rattle.std.specs.Prelude.{Ok}
use Rattle.boss_opening.specs.declared.checking.Checked.TheVariants.{New}
use Rattle.boss_pair_find.specs.Finds.{Finds, Starts, found_first, found_second}
use Rattle.boss_model.specs.Catalogue.{actuators}
use Rattle.boss_opening.specs.Checks.{IsCheck}
use Rattle.boss_opening.specs.Opens.{digest_of}
use Rattle.boss_disk_pair.specs.Reads.{reads_to}
use Rattle.boss_opening.proofs.checking.check_found.Goals as goal

pub returns-in-New : goal.returns-in-New
returns-in-New g c =
    subst (λ found. IsCheck g.D.Disk (actuators c.args.catalogue.now) (digest_of c.args.catalogue.now) (found_first found) (found_second found) ((c.in-New.first, c.in-New.second), Ok New)) (sym c.in-New.is) (record {
      tells = λ told. (subst (λ found. Finds (digest_of c.args.catalogue.now) (g.D.Disk.reads (found_first found)) (g.D.Disk.reads (found_second found)) found) c.in-New.is (c.requires.finds told));
      refuses = λ told. tt;
      first_reads = λ told. refl;
      second_reads = λ told. refl;
      first_story = λ told. refl;
      second_story = λ told. refl;
      cause = refl;
    })

pub check_plain-requires-clause-starts : goal.check_plain-requires-clause-starts
check_plain-requires-clause-starts g c = subst (λ found. Starts (digest_of c.args.catalogue.now) found) c.in-Plain.is c.requires.starts

pub check_plain-requires-clause-found : goal.check_plain-requires-clause-found
check_plain-requires-clause-found g c told = ((subst (λ found. Finds (digest_of c.args.catalogue.now) (g.D.Disk.reads (found_first found)) (g.D.Disk.reads (found_second found)) found) c.in-Plain.is (c.requires.finds told))).0

pub check_plain-requires-clause-reads : goal.check_plain-requires-clause-reads
unfolding reads_to
check_plain-requires-clause-reads g c = λ told. ((subst (λ found. Finds (digest_of c.args.catalogue.now) (g.D.Disk.reads (found_first found)) (g.D.Disk.reads (found_second found)) found) c.in-Plain.is (c.requires.finds told))).1 (actuators c.args.catalogue.now) told

pub returns-in-Plain : goal.returns-in-Plain
returns-in-Plain g c = subst (λ found. IsCheck g.D.Disk (actuators c.args.catalogue.now) (digest_of c.args.catalogue.now) (found_first found) (found_second found) c.check_plain.result) (sym c.in-Plain.is) c.check_plain.ensures

pub check_state-requires-clause-starts : goal.check_state-requires-clause-starts
check_state-requires-clause-starts g c = subst (λ found. Starts (digest_of c.args.catalogue.now) found) c.in-State.is c.requires.starts

pub check_state-requires-clause-found : goal.check_state-requires-clause-found
check_state-requires-clause-found g c told = ((subst (λ found. Finds (digest_of c.args.catalogue.now) (g.D.Disk.reads (found_first found)) (g.D.Disk.reads (found_second found)) found) c.in-State.is (c.requires.finds told))).0

pub check_state-requires-clause-reads : goal.check_state-requires-clause-reads
unfolding reads_to
check_state-requires-clause-reads g c sound = λ told. ((subst (λ found. Finds (digest_of c.args.catalogue.now) (g.D.Disk.reads (found_first found)) (g.D.Disk.reads (found_second found)) found) c.in-State.is (c.requires.finds told))).1 (actuators c.args.catalogue.now) sound told

pub returns-in-State : goal.returns-in-State
returns-in-State g c = subst (λ found. IsCheck g.D.Disk (actuators c.args.catalogue.now) (digest_of c.args.catalogue.now) (found_first found) (found_second found) c.check_state.result) (sym c.in-State.is) c.check_state.ensures
