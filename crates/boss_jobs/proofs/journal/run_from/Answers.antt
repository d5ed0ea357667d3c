use Rattle.std.proofs.Common.{◌≡◌, false, ◌+◌, ◌<◌, ◌++◌, if◌then◌else◌, length, refl, sym, ap, subst, ◌∙◌}
use Rattle.std.proofs.lemmas.List.{length-append}
use Rattle.boss_disk_pair.specs.Rests.{stories}
use Rattle.boss_durable.specs.Words.{faults}
use Rattle.boss_durable.proofs.Stories.{walks_stories}
use Rattle.def_history.specs.History.{events, IsLegal, run, run_tried}
use Rattle.boss_model.specs.Catalogue.{actuators}
use Rattle.boss_model.specs.Limits.{last_number}
use Rattle.boss_outside.specs.Counts.{Rose}
use Rattle.boss_scripts.specs.Outside.{outside}
use Rattle.boss_shared.specs.Walking.{shortened}
use Rattle.boss_pair_find.specs.Two.{two}
use Rattle.boss_pair_find.proofs.Orders.{stories_are}
use Rattle.boss_jobs.specs.Crashes.{Steps}
use Rattle.boss_jobs.specs.Ends.{status_of}
use Rattle.boss_jobs.proofs.RunLemmas.{one-as, opens-as, ran-so}
use Rattle.boss_jobs.proofs.journal.run_from.Goals as goal

pub returns : goal.returns
returns g c =
    let d = g.D.Disk in
    let plant = actuators c.args.catalogue.now in
    let start = c.args.durable.engine.state in
    let now = c.run_script-end.new.keeper in
    let end = c.run_script-end.result in
    let ran = ran-so _ c.args.catalogue.now c.args.durable now
    (outside g.S.Source g.K.Sink g.A.Actuators c.args.source.now c.args.sink.now c.args.devices.now.items)
    (outside g.S.Source g.K.Sink g.A.Actuators c.run_script-end.new.source c.run_script-end.new.sink c.run_script-end.new.devices.items)
    end c.run_script-end.ensures.ran c.run_script-end.ensures.broke in
    let same = ran.kept.same_plant ∙ c.requires.plant in
    let parts = c.close.ensures.disks in
    let sum : d.faults c.close.result.0 + d.faults c.close.result.1 ≡ faults now = λ i. d.faults (parts.0 i) + d.faults (parts.1 i) in
    record {
      made = ran.made;
      legal = subst (λ p. IsLegal p ran.made start) c.requires.plant ran.kept.legal;
      end = end;
      told = c.kept_status-status.ensures ∙ ap (λ b. if b then 5 else status_of end) (c.stopped.ensures ∙ ran.stopped);
      ended = ran.ended;
      broke = ran.broke;
      read_fault = c.run_script-end.ensures.read;
      write_fault = c.run_script-end.ensures.write;
      disk_fault = λ broken. subst (Rose (faults c.args.durable)) (sym sum) (ran.disk_fault broken);
      no_disk_fault = λ fine. sum ∙ ran.kept.stood (ran.stopped ∙ fine ∙ sym c.requires.going);
      whole = λ told before held fine few.
          let off : now.disks.stopped ≡ false = ran.stopped ∙ fine in
          let more = events c.args.durable.engine.plant ran.made start in
          let size : length (before ++ more) ≡ length before + length (events plant ran.made start) =
          length-append before more ∙ ap (λ p. length before + length (events p ran.made start)) c.requires.plant in
          opens-as _ plant _ c.args.durable.disks.digest _ (run plant ran.made start).persistent _ _ (d.reads c.close.result.0) (d.reads c.close.result.1) same c.run_script-end.ensures.under
          (ap (λ t. t.persistent) (ran.kept.state_is off) ∙ ap (λ p. (run p ran.made start).persistent) c.requires.plant) size
          (c.close.ensures.opens told (before ++ more) (ran.kept.gained off before held) (subst (λ n. n < last_number) (sym size) few));
      torn = λ told before held left.
          let may = ran.kept.images c.requires.going left before held in (
            may.0,
            may.1,
            one-as _ plant _ c.args.durable.disks.digest _ (run plant ran.made start).persistent _ (run_tried plant (shortened may.0 ran.made) start).persistent (d.reads c.close.result.0) (d.reads c.close.result.1) same c.run_script-end.ensures.under
                (ap (λ p. (run p ran.made start).persistent) c.requires.plant) (ap (λ p. (run_tried p (shortened may.0 ran.made) start).persistent) c.requires.plant)
                (c.close.ensures.left told _ _ may.2),
          );
      steps = λ told before held.
          subst (λ at. Steps plant c.args.durable.disks.digest start (stories c.args.durable.disks) ran.made at)
          (stories_are d.story now.disks.second now.disks.journal.disk now.disks.spare ∙ (λ i. two (d.story (sym parts.0 i)) (d.story (sym parts.1 i))))
          (subst (λ p. Steps p c.args.durable.disks.digest start (stories c.args.durable.disks) ran.made (stories now.disks)) c.requires.plant
          (walks_stories c.args.durable.engine.plant c.args.durable.disks.digest told start c.args.durable now ran.made refl refl (ran.kept.through c.requires.going before held)));
    }
