use Rattle.std.proofs.Common.{◌∙◌, sym, ap, subst, Ok}
use Rattle.boss_disk.specs.Runs.{Since}
use Rattle.boss_disk.specs.Story.{Story}
use Rattle.boss_disk.specs.Window.{settled}
use Rattle.boss_journal.specs.Opens.{IsStart, WhileOpening}
use Rattle.boss_journal.proofs.OpeningRuns.{new_or_found, sync_run, opening_run}
use Rattle.boss_journal.proofs.opening.begin.Goals as goal

pub make-requires : goal.make-requires
make-requires g c told =
    subst (λ held. IsStart c.args.digest.now held (Ok c.in-Ok.start))
    (sym (c.find_start.ensures.reads told)) (c.in-Ok.ensures.start told)

pub returns-in_err-make-in-Ok-clause-images : goal.returns-in_err-make-in-Ok-clause-images
returns-in_err-make-in-Ok-clause-images g c told =
    let held = c.find_start.ensures.reads told ∙ c.sync.ensures.bytes told in
    let start = subst (λ h. IsStart c.args.digest.now h (Ok c.in-Ok.start)) (sym (c.find_start.ensures.reads told)) (c.in-Ok.ensures.start told) in
    let synced = ap (λ (s : Story). s.window) (c.find_start.ensures.windows told) ∙ (c.in_ok-sync.ensures.windows told).done.window ∙ ap settled (sym held) in
    opening_run c.args.digest.now _ _ _ _ _ _
    (sync_run c.args.digest.now _ _ _ _ (g.met.D.Disk.reads_stay c.args.disk.now told) (c.sync.ensures.windows told))
    (c.find_start.ensures.windows told) held (new_or_found c.args.digest.now _ c.in-Ok.start start)
    (c.make.ensures.images told synced) (c.make.ensures.still told)

pub returns-in_ok-make-in-Ok-clause-images : goal.returns-in_ok-make-in-Ok-clause-images
returns-in_ok-make-in-Ok-clause-images g c told =
    let held = c.find_start.ensures.reads told ∙ c.sync.ensures.bytes told in
    let start = subst (λ h. IsStart c.args.digest.now h (Ok c.in-Ok.start)) (sym (c.find_start.ensures.reads told)) (c.in-Ok.ensures.start told) in
    let synced = ap (λ (s : Story). s.window) (c.find_start.ensures.windows told) ∙ (c.in_ok-sync.ensures.windows told).done.window ∙ ap settled (sym held) in
    opening_run c.args.digest.now _ _ _ _ _ _
    (sync_run c.args.digest.now _ _ _ _ (g.met.D.Disk.reads_stay c.args.disk.now told) (c.sync.ensures.windows told))
    (c.find_start.ensures.windows told) held (new_or_found c.args.digest.now _ c.in-Ok.start start)
    (c.make.ensures.images told synced) (c.make.ensures.still told)

pub returns-in-Err-clause-images : goal.returns-in-Err-clause-images
returns-in-Err-clause-images g c told =
    subst (Since (WhileOpening c.args.digest.now (g.D.Disk.reads c.args.disk.now) (g.D.Disk.story c.args.disk.now).window) (g.D.Disk.story c.args.disk.now))
    (sym (c.find_start.ensures.windows told))
    (sync_run c.args.digest.now _ _ _ _ (g.met.D.Disk.reads_stay c.args.disk.now told) (c.sync.ensures.windows told))
