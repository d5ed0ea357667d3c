use Rattle.std.proofs.Common.{◌≡◌, ◌<◌, ◌∙◌, length, ap, sym, subst, arith}
use Rattle.boss_model.specs.declared.kept.KeptProcess.{KeptProcess}
use Rattle.boss_model.specs.Seen.{seen_process}
use Rattle.law_due.proofs.Ordering.{each-at}
use Rattle.boss_persistent.specs.Processes.{IsSomeProcess}
use Rattle.boss_persistent.proofs.Outlasting.{so-many}
use Rattle.boss_persistent.proofs.putting.processes_put_back.Goals as goal

pub put_back-requires-clause-few : goal.put_back-requires-clause-few
put_back-requires-clause-few c =
    let place = c.loop-process.process-index in
    let within : place < length c.args.kept.now = omega arith in
    let many : length c.loop-process.processes ≡ place = ap length c.loop-process.invariant ∙ so-many c.args.kept.now place within in
    omega (arith, c.requires.few)

pub put_back-requires-clause-sound : goal.put_back-requires-clause-sound
put_back-requires-clause-sound c =
    let place = c.loop-process.process-index in
    let within : place < length c.args.kept.now = omega arith in
    subst (λ (p : KeptProcess). IsSomeProcess (seen_process p)) (sym c.process-item.is)
    (each-at (λ (p : KeptProcess). IsSomeProcess (seen_process p)) c.args.kept.now place c.process-item.result c.requires.sound within)
