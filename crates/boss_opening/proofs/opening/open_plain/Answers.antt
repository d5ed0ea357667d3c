use Rattle.std.proofs.Common.{ℕ, List, [], refl, sym, ap, subst, ◌∙◌}
use Rattle.boss_engine.specs.Running.{Running}
use Rattle.boss_pair_find.specs.declared.refusal.DurableRefusal.TheVariants.{NoMemory}
use Rattle.boss_model.specs.Catalogue.{actuators}
use Rattle.boss_model.specs.declared.state.Actuator.{Actuator}
use Rattle.boss_model.specs.Plants.{IsPlant}
use Rattle.boss_model.specs.State.{first_persistent}
use Rattle.boss_opening.specs.Opens.{Opening, Stays, digest_of}
use Rattle.boss_opening.proofs.Beginnings.{unread, unread_stays}
use Rattle.boss_disk_pair.specs.Causes.{first_disk, second_disk}
use Rattle.boss_disk_pair.specs.Reads.{reads_to}
use Rattle.boss_opening.proofs.opening.open_plain.Goals as goal

pub go_on-requires-clause-whole : goal.go_on-requires-clause-whole
go_on-requires-clause-whole g c = subst (λ (r : Running). IsPlant r.plant) (sym c.in-Ok.ensures.new) c.points_are_a_plant.ensures

pub go_on-requires-clause-begins : goal.go_on-requires-clause-begins
go_on-requires-clause-begins g c =
    subst (λ (r : Running). reads_to c.args.pair r.plant r.state.persistent c.args.pair.events [] r.state.persistent) (sym c.in-Ok.ensures.new)
    (subst (λ (n : ℕ). reads_to c.args.pair (actuators c.args.catalogue.now) first_persistent n [] first_persistent) (sym c.requires.starts.events) c.requires.reads)

pub returns-in-Ok-clause-opening : goal.returns-in-Ok-clause-opening
returns-in-Ok-clause-opening g c =
    subst (λ digest. Opening (actuators c.args.catalogue.now) digest c.args.log_limit (first_disk c.args.pair) (second_disk c.args.pair) c.go_on.result) c.requires.starts.first.catalogue
    (subst (λ plant. Opening plant c.args.pair.digest c.args.log_limit (first_disk c.args.pair) (second_disk c.args.pair) c.go_on.result)
    (ap (λ (r : Running). r.plant) c.in-Ok.ensures.new) c.go_on.ensures.opening)

pub returns-in-Ok-clause-stays : goal.returns-in-Ok-clause-stays
returns-in-Ok-clause-stays g c told =
    subst (λ digest. Stays (actuators c.args.catalogue.now) digest (first_disk c.args.pair) (second_disk c.args.pair) c.go_on.result) c.requires.starts.first.catalogue
    (subst (λ plant. Stays plant c.args.pair.digest (first_disk c.args.pair) (second_disk c.args.pair) c.go_on.result)
    (ap (λ (r : Running). r.plant) c.in-Ok.ensures.new) (c.go_on.ensures.stays told))

pub returns-in-Err-clause-opening : goal.returns-in-Err-clause-opening
returns-in-Err-clause-opening g c =
    unread (actuators c.args.catalogue.now) (digest_of c.args.catalogue.now) c.args.log_limit c.args.pair c.close.result c.close.ensures.disks NoMemory (λ told. tt) refl

pub returns-in-Err-clause-stays : goal.returns-in-Err-clause-stays
returns-in-Err-clause-stays g c told =
    unread_stays (actuators c.args.catalogue.now) (digest_of c.args.catalogue.now) c.args.log_limit c.args.pair c.close.result c.close.ensures.disks NoMemory c.requires.settled told
