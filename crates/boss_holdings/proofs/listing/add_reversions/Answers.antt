use Rattle.std.proofs.Common.{◌≡◌, ◌∙◌, ℕ, ◌+◌, List, ◌++◌, ap, arith}
use Rattle.std.specs.Option.{option_to_list}
use Rattle.boss_model.specs.declared.state.Pending.{Pending}
use Rattle.boss_slots.specs.Tables.{pending_at}
use Rattle.boss_holdings.proofs.Listed.{none-listed, more-listed}
use Rattle.boss_holdings.proofs.listing.add_reversions.Goals as goal

pub loop-place-init : goal.loop-place-init
loop-place-init c = none-listed (λ priority. option_to_list (pending_at c.args.tables.now c.args.point priority)) 1 c.args.into.now.items

pub loop-place-preserved : goal.loop-place-preserved
loop-place-preserved c =
    let here : ℕ → List Pending = λ priority. option_to_list (pending_at c.args.tables.now c.args.point priority) in
    let place = c.loop-place.place in
    let level : place + 1 ≡ 1 + place = omega arith in
    c.in_ok-add_reversion.ensures ∙ ap (λ q. c.loop-place.into.items ++ here q) level ∙ ap (λ xs. xs ++ here (1 + place)) c.loop-place.invariant
    ∙ more-listed here 1 place c.args.into.now.items
