use Rattle.std.proofs.Common.{ℕ, [], refl, sym, ap, subst}
use Rattle.boss_engine.specs.Running.{Running}
use Rattle.boss_pair_find.specs.declared.refusal.DurableRefusal.TheVariants.{NoMemory}
use Rattle.boss_pair_find.proofs.Apart.{new_not_plain}
use Rattle.boss_model.specs.Catalogue.{actuators}
use Rattle.boss_model.specs.State.{first_persistent}
use Rattle.boss_opening.specs.Checks.{IsCheck}
use Rattle.boss_opening.specs.Opens.{digest_of}
use Rattle.boss_opening.proofs.Looks.{unlooked}
use Rattle.boss_disk_pair.specs.Causes.{first_disk, second_disk}
use Rattle.boss_disk_pair.specs.Reads.{reads_to}
use Rattle.boss_opening.proofs.checking.check_plain.Goals as goal

pub check_pair-requires-clause-begins : goal.check_pair-requires-clause-begins
check_pair-requires-clause-begins g c =
    subst (λ (r : Running). reads_to c.args.pair r.plant r.state.persistent c.args.pair.events [] r.state.persistent) (sym c.in-Ok.ensures.new)
    (subst (λ (n : ℕ). reads_to c.args.pair (actuators c.args.catalogue.now) first_persistent n [] first_persistent) (sym c.requires.starts.events) c.requires.reads)

pub check_pair-requires-clause-not_new : goal.check_pair-requires-clause-not_new
check_pair-requires-clause-not_new g c told new = new_not_plain (digest_of c.args.catalogue.now) (g.D.Disk.reads (first_disk c.args.pair)) (g.D.Disk.reads (second_disk c.args.pair)) new (c.requires.found told)

pub returns-in-Ok : goal.returns-in-Ok
returns-in-Ok g c =
    subst (λ digest. IsCheck g.D.Disk (actuators c.args.catalogue.now) digest (first_disk c.args.pair) (second_disk c.args.pair) c.check_pair.result) c.requires.starts.first.catalogue
    (subst (λ plant. IsCheck g.D.Disk plant c.args.pair.digest (first_disk c.args.pair) (second_disk c.args.pair) c.check_pair.result)
    (ap (λ (r : Running). r.plant) c.in-Ok.ensures.new) c.check_pair.ensures)

pub returns-in-Err : goal.returns-in-Err
returns-in-Err g c =
    unlooked (actuators c.args.catalogue.now) (digest_of c.args.catalogue.now) (first_disk c.args.pair) (second_disk c.args.pair) c.close.result NoMemory c.close.ensures.disks.0 c.close.ensures.disks.1 (λ told. tt) refl
