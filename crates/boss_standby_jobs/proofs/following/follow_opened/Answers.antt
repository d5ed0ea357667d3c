use Rattle.std.proofs.Common.{sym, subst, ◌∙◌}
use Rattle.boss_disk_pair.specs.Causes.{counts_of}
use Rattle.boss_durable.specs.Words.{lasting}
use Rattle.boss_following.specs.Owns.{BeginOwn}
use Rattle.boss_jobs.proofs.Refusals.{both}
use Rattle.boss_model.specs.Lines.{lines}
use Rattle.boss_outside.specs.Counts.{Rose}
use Rattle.boss_standby_jobs.proofs.Came.{came-so, Closed, counts-so, disk-rose, disk-stood, own-so}
use Rattle.boss_standby_jobs.proofs.following.follow_opened.Goals as goal

pub returns : goal.returns
returns g c =
    let d = g.D.Disk in
    let call = c.follow-end in
    let before = c.args.durable in
    let now = call.new.durable in
    let disks = c.close.result in
    let closed : Closed d now disks = record { parts = c.close.ensures.disks; opens = c.close.ensures.opens; left = c.close.ensures.left } in
    record {
      end = call.result;
      lasting = lasting now;
      count = now.disks.events;
      tells = c.say_end-status.ensures;
      read_fault = call.ensures.read;
      disk_fault = λ failed.
          subst (Rose (both (counts_of before.disks))) (sym (counts-so d now disks closed))
          (disk-rose call.result (counts_of before.disks) (counts_of now.disks) (call.ensures.stopped ∙ c.requires.going) call.ensures.disk failed);
      no_disk_fault = λ fine. counts-so d now disks closed ∙ disk-stood call.result (counts_of before.disks) (counts_of now.disks) call.ensures.disk fine;
      own = λ told history items begins.
          own-so d c.args.catalogue.now before now disks c.requires.plant c.requires.digest c.requires.keeps call.ensures.plant call.ensures.digest closed g.met.D.Disk.reads_stay
          (g.S.Source.left c.args.source.now) (g.S.Source.left call.new.source) call.result (call.ensures.follows told) history items
          (call.ensures.own told history items (subst (λ p. BeginOwn p history before.disks.events (lasting before) (lines (g.S.Source.left c.args.source.now)) items) (sym c.requires.plant) begins));
      came = λ told.
          came-so d c.args.catalogue.now before now disks c.requires.plant c.requires.digest c.requires.keeps call.ensures.plant call.ensures.digest closed g.met.D.Disk.reads_stay
          (g.S.Source.left c.args.source.now) (g.S.Source.left call.new.source) call.result (call.ensures.follows told);
    }
