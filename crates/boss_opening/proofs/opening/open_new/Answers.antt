use Rattle.std.proofs.Common.{ℕ, List, [], refl, sym, ap, subst, ◌∙◌}
use Rattle.boss_disk.specs.Legs.{Legs, LeaveBoth}
use Rattle.boss_engine.specs.Running.{Running}
use Rattle.boss_pair_find.specs.declared.refusal.DurableRefusal.TheVariants.{NoMemory}
use Rattle.boss_pair_find.specs.Refusals.{IsOfBytes}
use Rattle.boss_pair_find.specs.Two.{two}
use Rattle.boss_model.specs.Catalogue.{actuators}
use Rattle.boss_model.specs.declared.state.Actuator.{Actuator}
use Rattle.boss_model.specs.Plants.{IsPlant}
use Rattle.boss_model.specs.State.{State, first_persistent}
use Rattle.boss_opening.specs.Opens.{Finishing, Opening, Stays, digest_of}
use Rattle.boss_opening.proofs.Beginnings.{new_opening, new_stays, not_made, not_made_stays}
use Rattle.boss_opening.proofs.Openings.{none_touched, nothing_moved, refused}
use Rattle.def_disk_pair.specs.Pairs.{OpensCleanly}
use Rattle.boss_disk_pair.specs.Causes.{first_disk, second_disk}
use Rattle.boss_disk_pair.specs.Rests.{rests}
use Rattle.boss_opening.proofs.opening.open_new.Goals as goal

pub finish-requires-clause-whole : goal.finish-requires-clause-whole
finish-requires-clause-whole g c = subst (λ (r : Running). IsPlant r.plant) (sym c.in-Ok.ensures.new) c.points_are_a_plant.ensures

pub finish-requires-clause-rest : goal.finish-requires-clause-rest
unfolding rests
finish-requires-clause-rest g c = λ told.
    (subst (λ (r : Running). rests c.in-Ok-make.pair r.plant r.state.persistent c.in-Ok-make.pair.events) (sym c.in-Ok.ensures.new)
    (subst (λ (n : ℕ). rests c.in-Ok-make.pair (actuators c.args.catalogue.now) first_persistent n) (sym c.in-Ok-make.ensures.starts.events)
    (c.in-Ok-make.ensures.rests told (c.requires.synced told).1 (actuators c.args.catalogue.now)))) told

pub returns-in-Ok-make-clause-opening : goal.returns-in-Ok-make-clause-opening
returns-in-Ok-make-clause-opening g c =
    new_opening g.D.Disk (actuators c.args.catalogue.now) (digest_of c.args.catalogue.now) c.args.log_limit c.args.first c.args.second c.in-Ok.engine.state c.in-Ok-make.pair c.finish.result
    (subst (λ (plant : List Actuator). Finishing plant c.in-Ok.engine.state c.args.log_limit c.in-Ok-make.pair c.finish.result) (ap (λ (r : Running). r.plant) c.in-Ok.ensures.new) c.finish.ensures)
    (c.in-Ok-make.ensures.starts.first.catalogue ∙ c.digest.ensures) (ap (λ (r : Running). r.state.persistent) c.in-Ok.ensures.new) c.requires.new c.in-Ok-make.ensures.starts.events
    c.in-Ok-make.ensures.cause

pub returns-in-Ok-make-clause-stays : goal.returns-in-Ok-make-clause-stays
returns-in-Ok-make-clause-stays g c told =
    new_stays g.D.Disk (actuators c.args.catalogue.now) (digest_of c.args.catalogue.now) c.args.log_limit c.args.first c.args.second c.in-Ok.engine.state c.in-Ok-make.pair c.finish.result
    (subst (λ (plant : List Actuator). Finishing plant c.in-Ok.engine.state c.args.log_limit c.in-Ok-make.pair c.finish.result) (ap (λ (r : Running). r.plant) c.in-Ok.ensures.new) c.finish.ensures)
    (c.in-Ok-make.ensures.starts.first.catalogue ∙ c.digest.ensures) (ap (λ (r : Running). r.state.persistent) c.in-Ok.ensures.new) told (c.requires.new told)
    (subst (λ digest. Legs (LeaveBoth (OpensCleanly (actuators c.args.catalogue.now) digest first_persistent 0)) (two (g.D.Disk.story c.args.first) (g.D.Disk.story c.args.second))
    (two (g.D.Disk.story (first_disk c.in-Ok-make.pair)) (g.D.Disk.story (second_disk c.in-Ok-make.pair)))) c.digest.ensures
    (c.in-Ok-make.ensures.images told (c.requires.synced told).0 (c.requires.synced told).1 (actuators c.args.catalogue.now)))

pub returns-in-Ok-make-clause-untouched : goal.returns-in-Ok-make-clause-untouched
returns-in-Ok-make-clause-untouched g c told = none_touched _ _ c.finish.result c.finish.ensures.refuses

pub returns-in-Err-make-clause-untouched : goal.returns-in-Err-make-clause-untouched
returns-in-Err-make-clause-untouched g c told some = absurd (subst IsOfBytes (c.in-Err-make.ensures.refuses told) some)

pub returns-in-Err-make-clause-opening : goal.returns-in-Err-make-clause-opening
returns-in-Err-make-clause-opening g c =
    not_made g.D.Disk (actuators c.args.catalogue.now) (digest_of c.args.catalogue.now) c.args.log_limit c.args.first c.args.second c.in-Err-make.refused.0 c.in-Err-make.refused.1 c.in-Err-make.ensures.refuses c.in-Err-make.ensures.cause

pub returns-in-Err-make-clause-stays : goal.returns-in-Err-make-clause-stays
returns-in-Err-make-clause-stays g c told =
    not_made_stays g.D.Disk (actuators c.args.catalogue.now) (digest_of c.args.catalogue.now) c.args.log_limit c.args.first c.args.second c.in-Err-make.refused.0 c.in-Err-make.refused.1 (c.requires.new told)
    (subst (λ digest. Legs (LeaveBoth (OpensCleanly (actuators c.args.catalogue.now) digest first_persistent 0)) (two (g.D.Disk.story c.args.first) (g.D.Disk.story c.args.second))
    (two (g.D.Disk.story c.in-Err-make.refused.0.0) (g.D.Disk.story c.in-Err-make.refused.0.1))) c.digest.ensures
    (c.in-Err-make.ensures.images told (c.requires.synced told).0 (c.requires.synced told).1 (actuators c.args.catalogue.now)))

pub returns-in-Err-clause-opening : goal.returns-in-Err-clause-opening
returns-in-Err-clause-opening g c =
    refused (actuators c.args.catalogue.now) (digest_of c.args.catalogue.now) c.args.log_limit c.args.first c.args.second (c.args.first, c.args.second) NoMemory
    (λ told. tt) (λ told some. absurd some) refl

pub returns-in-Err-clause-stays : goal.returns-in-Err-clause-stays
returns-in-Err-clause-stays g c told =
    nothing_moved g.D.Disk (actuators c.args.catalogue.now) (digest_of c.args.catalogue.now) c.args.first c.args.second (c.args.first, c.args.second) NoMemory
    (c.requires.synced told).0 (c.requires.synced told).1 refl refl
