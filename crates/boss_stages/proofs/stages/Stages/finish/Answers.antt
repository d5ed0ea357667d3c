use Rattle.std.proofs.Common.{◌≡◌, true, refl, sym, ◌∙◌}
use Rattle.boss_stages.specs.Stages.{is_over, kept_as}
use Rattle.boss_stages.proofs.Done.{dropped-room, without-none, nothing_back}
use Rattle.boss_stages.proofs.Order.{kept_as-without}
use Rattle.boss_stages.proofs.stages.Stages.finish.Goals as goal

pub returns-in-Some-clause-done : goal.returns-in-Some-clause-done
returns-in-Some-clause-done c =
    let all = c.self.inside.transactions.kept in
    let over : is_over (kept_as c.args.txn all) ≡ true = rw (← c.self.view_is) at c.requires in
    rw c.forget.ensures (c.ne.ensures ∙ sym (kept_as-without c.args.txn c.in-Some.oldest all over))

pub returns-in-None-clause-records : goal.returns-in-None-clause-records
returns-in-None-clause-records c =
    let less = nothing_back c.self.inside.done.items c.self.inside.done.capacity c.args.txn c.push_back.result c.push_back.ensures.value c.in-None.is in
    let room = dropped-room c.self.inside.done.items c.args.txn (rw (← c.self.invariant.0) less) in
    rw (← c.self.view_is, room, without-none, c.push_back.ensures.items, c.self.invariant.0) refl
