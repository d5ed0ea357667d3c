use Rattle.arrayvec.proofs.ArrayVecLemmas.{filter-from_retain}
use Rattle.std.proofs.Common.{◌≡◌, ◌==◌, not, rules, refl}
use Rattle.std.specs.Prelude.{filter}
use Rattle.boss_stages.proofs.transaction.Transaction.end_reversion.Goals as goal

pub returns : goal.returns
returns c =
    let left : c.retain.new.self.items ≡ filter (λ other. not (other == c.args.point)) c.deref_mut.result.now.reverting.items =
    filter-from_retain _ (λ other. not (other == c.args.point)) _ (λ x b f' y called. search rules) _ _ c.retain.ensures.filtered in
    rw (← c.self.view_is, left, c.deref_mut.ensures.value) refl
