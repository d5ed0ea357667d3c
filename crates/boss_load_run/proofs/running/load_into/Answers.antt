use Rattle.std.proofs.Common.{◌≡◌, ℕ, List, IfOk, Result, Ok, Err, subst, sym}
use Rattle.boss_model.specs.Lines.{lines}
use Rattle.boss_load.specs.Day.{load_script}
use Rattle.boss_load_run.specs.declared.summary.Summary.{Summary}
use Rattle.boss_load_run.specs.Load.{Ran, summary_of, Summarizes}
use Rattle.boss_load_run.proofs.PlantRows.{catalogue_is_read}
use Rattle.boss_load_run.proofs.running.load_into.Goals as goal

-- what follows from a value follows where there is one
if-ok : {T E : Type 0} {P Q : T → Type 0} (r : Result T E) → ((x : T) → P x → Q x) → IfOk r P → IfOk r Q
if-ok (Ok x) go holds = go x holds
if-ok (Err e) go holds = tt

pub returns-in-Ok : goal.returns-in-Ok
returns-in-Ok c =
    let count = c.args.count in
    let seed = c.args.seed in
    let text = c.taken.result.now in
    let lasting = c.run.new.keeper.engine.state.persistent in
    let ran : Ran (lines (load_script count seed)) text lasting =
    subst (λ (told : List ℕ). Ran (lines (load_script count seed)) told lasting) (sym c.taken.ensures) c.in-Ok.ensures in
    if-ok {P = λ summary. summary ≡ summary_of count seed text lasting} {Q = Summarizes count seed} c.sum_up.result
    (λ summary is. record { spells = catalogue_is_read; text = text; lasting = lasting; ran = ran; sums = is }) c.sum_up.ensures
