use Rattle.std.proofs.Common.{◌≡◌, ◌+◌, ◌-◌, suc, map, [], ◌∷◌, ◌++◌, sym, ◌∙◌, arith}
use Rattle.std.proofs.lemmas.List.{map_push}
use Rattle.std.proofs.lemmas.Result.{err_from_is_err_and}
use Rattle.def_bytes.specs.States.{process}
use Rattle.boss_model.specs.Seen.{seen_process}
use Rattle.boss_records.proofs.Items.{item_more, ends}
use Rattle.boss_snapshot.proofs.processes.read_so_many.Goals as goal

pub loop-preserved : goal.loop-preserved
loop-preserved c =
    let left = c.args.count - (c.loop.counter + 1) in
    let one : c.args.count - c.loop.counter ≡ suc left = omega arith in
    let more : map seen_process c.push.new.self.items ≡ map seen_process c.loop.processes.items ++ seen_process c.in_ok-process.process ∷ [] =
    rw c.in_ok-push.ensures.items (map_push _ c.loop.processes.items c.in_ok-process.process) in
    rw more (sym (item_more (process c.args.version) (map seen_process c.loop.processes.items) c.loop.rest.now c.in_ok-process.behind.now
    (seen_process c.in_ok-process.process) (c.args.count - c.loop.counter) left c.in_ok-process.ensures one) ∙ c.loop.invariant)

pub returns-in_err-process : goal.returns-in_err-process
returns-in_err-process c =
    let left = c.args.count - (c.loop.counter + 1) in
    let one : c.args.count - c.loop.counter ≡ suc left = omega arith in
    let p = err_from_is_err_and c.from_residual.result c.from_residual.ensures.1 in
    rw (p.1, p.2) (ends (process c.args.version) c.in_err-process.field-0.0 (map seen_process c.loop.processes.items) c.loop.rest.now
    (c.args.count - c.loop.counter) left _ c.in_err-process.ensures one c.loop.invariant)
