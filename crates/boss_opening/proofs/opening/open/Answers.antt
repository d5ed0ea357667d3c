use Rattle.std.proofs.lemmas.Result.{IfOk-weaker}
use Rattle.boss_model.specs.Catalogue.{actuators}
use Rattle.boss_opening.specs.Opens.{digest_of}
use Rattle.boss_opening.proofs.Openings.{same_opening, synced_ill, synced_then, synced_untouched}
use Rattle.boss_opening.proofs.opening.open.Goals as goal

pub returns-in-Ok-clause-refuses : goal.returns-in-Ok-clause-refuses
returns-in-Ok-clause-refuses g c told =
    (same_opening (actuators c.args.catalogue.now) (digest_of c.args.catalogue.now) c.args.log_limit c.sync_both.new.first c.sync_both.new.second c.args.first c.args.second c.open_synced.result
    c.sync_both.ensures.first_reads c.sync_both.ensures.second_reads c.in-Ok.ensures.cause c.open_synced.ensures.opening).refuses told

pub returns-in-Ok-clause-unchanged : goal.returns-in-Ok-clause-unchanged
returns-in-Ok-clause-unchanged g c told =
    (same_opening (actuators c.args.catalogue.now) (digest_of c.args.catalogue.now) c.args.log_limit c.sync_both.new.first c.sync_both.new.second c.args.first c.args.second c.open_synced.result
    c.sync_both.ensures.first_reads c.sync_both.ensures.second_reads c.in-Ok.ensures.cause c.open_synced.ensures.opening).unchanged told

pub returns-in-Ok-clause-opens : goal.returns-in-Ok-clause-opens
returns-in-Ok-clause-opens g c told =
    (same_opening (actuators c.args.catalogue.now) (digest_of c.args.catalogue.now) c.args.log_limit c.sync_both.new.first c.sync_both.new.second c.args.first c.args.second c.open_synced.result
    c.sync_both.ensures.first_reads c.sync_both.ensures.second_reads c.in-Ok.ensures.cause c.open_synced.ensures.opening).opens told

pub returns-in-Ok-clause-cause : goal.returns-in-Ok-clause-cause
returns-in-Ok-clause-cause g c =
    (same_opening (actuators c.args.catalogue.now) (digest_of c.args.catalogue.now) c.args.log_limit c.sync_both.new.first c.sync_both.new.second c.args.first c.args.second c.open_synced.result
    c.sync_both.ensures.first_reads c.sync_both.ensures.second_reads c.in-Ok.ensures.cause c.open_synced.ensures.opening).cause

pub returns-in-Ok-clause-keeps : goal.returns-in-Ok-clause-keeps
returns-in-Ok-clause-keeps g c any =
    IfOk-weaker c.open_synced.result _ _ (λ durable ready. ready.keeps_any any) c.open_synced.ensures.opening.ready

pub returns-in-Ok-clause-leaves : goal.returns-in-Ok-clause-leaves
returns-in-Ok-clause-leaves g c =
    IfOk-weaker c.open_synced.result _ _ (λ durable ready. ready.leaves_it) c.open_synced.ensures.opening.ready

pub returns-in-Ok-clause-plant : goal.returns-in-Ok-clause-plant
returns-in-Ok-clause-plant g c =
    IfOk-weaker c.open_synced.result _ _ (λ durable ready. ready.plant_is) c.open_synced.ensures.opening.ready

pub returns-in-Ok-clause-sound : goal.returns-in-Ok-clause-sound
returns-in-Ok-clause-sound g c =
    IfOk-weaker c.open_synced.result _ _ (λ durable ready. ready.sound) c.open_synced.ensures.opening.ready

pub returns-in-Ok-clause-going : goal.returns-in-Ok-clause-going
returns-in-Ok-clause-going g c =
    IfOk-weaker c.open_synced.result _ _ (λ durable ready. ready.going) c.open_synced.ensures.opening.ready

pub returns-in-Ok-clause-digest : goal.returns-in-Ok-clause-digest
returns-in-Ok-clause-digest g c =
    IfOk-weaker c.open_synced.result _ _ (λ durable ready. ready.digest_is) c.open_synced.ensures.opening.ready

pub returns-in-Ok-clause-limit : goal.returns-in-Ok-clause-limit
returns-in-Ok-clause-limit g c =
    IfOk-weaker c.open_synced.result _ _ (λ durable ready. ready.limit_is) c.open_synced.ensures.opening.ready

pub returns-in-Ok-clause-looked : goal.returns-in-Ok-clause-looked
returns-in-Ok-clause-looked g c told =
    synced_untouched g.D.Disk (actuators c.args.catalogue.now) (digest_of c.args.catalogue.now) c.args.first c.args.second c.sync_both.new.first c.sync_both.new.second (c.sync_both.ensures.images told)
    c.open_synced.result (c.open_synced.ensures.untouched told)

pub returns-in-Ok-clause-images : goal.returns-in-Ok-clause-images
returns-in-Ok-clause-images g c told =
    synced_then g.D.Disk (actuators c.args.catalogue.now) (digest_of c.args.catalogue.now) c.args.first c.args.second c.sync_both.new.first c.sync_both.new.second (c.sync_both.ensures.images told)
    c.open_synced.result (c.sync_both.ensures.first_reads told) (c.sync_both.ensures.second_reads told) (c.open_synced.ensures.stays told)

pub returns-in-Err-clause-images : goal.returns-in-Err-clause-images
returns-in-Err-clause-images g c told d count opens =
    synced_ill g.D.Disk (actuators c.args.catalogue.now) (digest_of c.args.catalogue.now) c.args.first c.args.second c.sync_both.new.first c.sync_both.new.second (c.sync_both.ensures.images told) d count
