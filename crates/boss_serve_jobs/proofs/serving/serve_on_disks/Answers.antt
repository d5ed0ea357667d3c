use Rattle.std.proofs.Common.{◌≡◌, false, ◌+◌, ◌<◌, ◌++◌, List, refl, inl, inr, sym, ap, subst, ◌∙◌}
use Rattle.std.proofs.lemmas.List.{length-append}
use Rattle.boss_durable.specs.Words.{faults, keeps}
use Rattle.def_history.specs.History.{events, is_broken, run, run_tried}
use Rattle.boss_model.specs.Catalogue.{actuators}
use Rattle.boss_model.specs.declared.event.Event.{Event}
use Rattle.boss_model.specs.Limits.{last_number}
use Rattle.boss_outside.specs.Counts.{Rose}
use Rattle.boss_pair_find.specs.Two.{counts, two}
use Rattle.boss_shared.specs.Walking.{shortened}
use Rattle.boss_disk_pair.specs.Rests.{counted, stories}
use Rattle.boss_durable.proofs.Stories.{walks_stories}
use Rattle.boss_pair_find.proofs.Orders.{stories_are}
use Rattle.boss_jobs.specs.Crashes.{Steps}
use Rattle.boss_jobs.specs.Journals.{on_disks}
use Rattle.boss_serve_jobs.specs.Serving.{at_start, has_listened, outside}
use Rattle.boss_jobs.proofs.OpenedLemmas.{holds-so, many-events, run-so, some-events, within-last}
use Rattle.boss_jobs.proofs.Refusals.{both, told-so}
use Rattle.boss_jobs.proofs.RunLemmas.{one-as, opens-as}
use Rattle.boss_serve_jobs.proofs.ServedLemmas.{gained-so, legal-so, sink-alone, state-so}
use Rattle.boss_jobs.proofs.StandingLemmas.{disks-stand, nothing-stands}
use Rattle.boss_serve_jobs.proofs.ListenLemmas.{five-eight-unheard, line-unheard}
use Rattle.boss_serve_jobs.proofs.serving.serve_on_disks.Goals as goal

pub serve_over-durable-requires-clause-events : goal.serve_over-durable-requires-clause-events
serve_over-durable-requires-clause-events g c =
    let start = c.in-Ok.durable in
    let number = start.disks.events in
    let some : (before : List Event) × keeps start before =
    (some-events number, c.in-Ok.ensures.keeps (some-events number) (ap counted (many-events number) ∙ within-last number start.disks.few)) in
    λ _ _. some

pub returns-then-is_err-clause-serves : goal.returns-then-is_err-clause-serves
returns-then-is_err-clause-serves g c =
    let disks = on_disks g.D.Disk (c.args.first, c.args.second) in
    inl (record { why = inr (refl, refl); untouched = refl }, λ told lasts. nothing-stands c.args.site.catalogue.now disks)

pub returns-in-Ok-clause-serves : goal.returns-in-Ok-clause-serves
returns-in-Ok-clause-serves g c =
    let d = g.D.Disk in
    let plant = actuators c.args.site.catalogue.now in
    let start = c.in-Ok.durable in
    let s = start.engine.state in
    let number = start.disks.events in
    let any : List Event = some-events number in
    let few : counted number ≡ number = within-last number start.disks.few in
    let kept : keeps start any = c.in-Ok.ensures.keeps any (ap counted (many-events number) ∙ few) in
    let before = ap both c.in-Ok.ensures.cause in
    let it = c.serve_over-durable.ensures.serves in
    let now = c.serve_over-durable.result.0 in
    let log = it.log in
    let more = events plant log s in
    let disks = c.close.result in
    let off : is_broken log ≡ false → now.disks.stopped ≡ false = λ fine. it.held.marked ∙ fine in
    let state : is_broken log ≡ false → now.engine.state ≡ run plant log s = state-so _ _ _ _ _ _ _ plant start now log it.held c.in-Ok.ensures.plant in
    let gained : is_broken log ≡ false → (before : List Event) → keeps start before → keeps now (before ++ more) =
    gained-so _ _ _ _ _ _ _ plant start now log it.held c.in-Ok.ensures.plant in
    let parts = c.close.ensures.disks in
    let sum : d.faults disks.0 + d.faults disks.1 ≡ faults now = λ i. d.faults (parts.0 i) + d.faults (parts.1 i) in
    let same : now.engine.plant ≡ plant = it.held.same_plant ∙ c.in-Ok.ensures.plant in
    inr (inr (record {
      state = s;
      number = number;
      opened = c.in-Ok.ensures.opens;
      served = record {
        log = log;
        legal = legal-so _ _ _ _ _ _ _ plant start now log it.held c.in-Ok.ensures.plant;
        end = it.end number any kept (many-events number);
      };
      disk_fault = λ broken. subst (λ n. Rose n (d.faults disks.0 + d.faults disks.1)) before (subst (Rose (faults start)) (sym sum) (it.held.rose (it.held.marked ∙ broken)));
      no_disk_fault = λ fine. sum ∙ it.held.stood (off fine) ∙ before;
      holds = holds-so d c.args.site.catalogue.now start disks log few c.in-Ok.ensures.keeps c.in-Ok.ensures.leaves c.in-Ok.ensures.digest
          (λ told before held fine few.
          opens-as _ plant _ start.disks.digest _ (run plant log s).persistent _ _ (d.reads disks.0) (d.reads disks.1) same c.serve_over-durable.ensures.under
          (ap (λ t. t.persistent) (state fine)) (length-append before more)
          (c.close.ensures.opens told (before ++ more) (gained fine before held) (subst (λ n. n < last_number) (sym (length-append before more)) few)))
          (λ told before held left. (
            it.held.images.0,
            it.held.images.1,
            one-as _ plant _ start.disks.digest _ (run plant log s).persistent _ (run_tried plant (shortened it.held.images.0 log) s).persistent (d.reads disks.0) (d.reads disks.1)
                same c.serve_over-durable.ensures.under
                (ap (λ p. (run p log s).persistent) c.in-Ok.ensures.plant) (ap (λ p. (run_tried p (shortened it.held.images.0 log) s).persistent) c.in-Ok.ensures.plant)
                (c.close.ensures.left told (run start.engine.plant log s).persistent (run_tried start.engine.plant (shortened it.held.images.0 log) s).persistent it.held.images.2),
          ));
      images = λ told _.
          run-so d c.args.site.catalogue.now c.args.first c.args.second start c.in-Ok.ensures.keeps c.in-Ok.ensures.leaves c.in-Ok.ensures.digest c.in-Ok.ensures.plant
          c.in-Ok.ensures.images told log (two (d.story disks.0) (d.story disks.1))
          (λ before held.
          subst (λ at. Steps plant start.disks.digest s (stories start.disks) log at)
          (stories_are d.story now.disks.second now.disks.journal.disk now.disks.spare ∙ (λ i. two (d.story (sym parts.0 i)) (d.story (sym parts.1 i))))
          (subst (λ p. Steps p start.disks.digest s (stories start.disks) log (stories now.disks)) c.in-Ok.ensures.plant
          (walks_stories start.engine.plant start.disks.digest told s start now log refl refl it.held.through)));
    }))

pub returns-in-Err-clause-serves : goal.returns-in-Err-clause-serves
returns-in-Err-clause-serves g c =
    let d = g.D.Disk in
    let around = at_start c.args.surroundings in
    let it = told-so g.K.Sink c.args.site.catalogue.now (on_disks d (c.args.first, c.args.second)) (on_disks d c.in-Err.disks) around.sink c.say_journal-status.new.sink c.say_journal-status.result.0
    (counts (d.faults c.args.first) (d.faults c.args.second)) (counts (d.faults c.in-Err.disks.0) (d.faults c.in-Err.disks.1)) refl refl c.in-Err.refusal
    c.in-Err.ensures.refuses c.in-Err.ensures.unchanged c.in-Err.ensures.looked c.say_journal-status.ensures c.in-Err.ensures.cause in
    elim it [
      | inl none ↦ inl (
        record { why = none.why; untouched = ap (λ k. outside k around.devices around.clock around.host around.waiter around.spawner) none.untouched },
        disks-stand d c.args.site.catalogue.now c.args.first c.args.second c.in-Err.disks (g.met.D.Disk g.world.𝓛 g.world.𝓜 g.world.𝓡 ((λ s x. x), (λ x. x), (λ x. x), λ x. x)).reads_stay c.in-Err.ensures.images,
      )
      | inr refused ↦ inr (inl (refused, sink-alone around.sink c.say_journal-status.new.sink around.devices around.clock around.host around.waiter around.spawner))
    ]

pub returns-then-is_err-clause-listens : goal.returns-then-is_err-clause-listens
returns-then-is_err-clause-listens g c told = inr (refl, refl, refl)

pub returns-in-Ok-clause-listens : goal.returns-in-Ok-clause-listens
returns-in-Ok-clause-listens g c = c.serve_over-durable.ensures.listens

pub returns-in-Err-clause-listens : goal.returns-in-Err-clause-listens
returns-in-Err-clause-listens g c told =
    let d = g.D.Disk in
    let around = at_start c.args.surroundings in
    let it = told-so g.K.Sink c.args.site.catalogue.now (on_disks d (c.args.first, c.args.second)) (on_disks d c.in-Err.disks) around.sink c.say_journal-status.new.sink c.say_journal-status.result.0
    (counts (d.faults c.args.first) (d.faults c.args.second)) (counts (d.faults c.in-Err.disks.0) (d.faults c.in-Err.disks.1)) refl refl c.in-Err.refusal
    c.in-Err.ensures.refuses c.in-Err.ensures.unchanged c.in-Err.ensures.looked c.say_journal-status.ensures c.in-Err.ensures.cause in
    let unheard : has_listened c.say_journal-status.result.0 ≡ false =
    elim it [
      | inl none ↦ five-eight-unheard c.say_journal-status.result.0 none.why
      | inr refused ↦ line-unheard g.K.Sink _ 4 around.sink c.say_journal-status.new.sink c.say_journal-status.result.0 refl refused.tells
    ] in
    inr (refl, refl, unheard)
