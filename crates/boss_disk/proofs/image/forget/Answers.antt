use Rattle.std.proofs.Common.{◌≡◌, ℕ, ◌+◌, ◌-◌, ◌<◌, length, None, set, ◌∙◌, ap, arith}
use Rattle.boss_disk.specs.Window.{written}
use Rattle.boss_disk.proofs.Picked.{written_more}
use Rattle.boss_disk.proofs.image.forget.Goals as goal

pub loop-place-preserved : goal.loop-place-preserved
loop-place-preserved c =
    let from : ℕ = c.min-from.result in
    let place : ℕ = c.loop-place.place in
    let here : place ≡ from + (place - from) = omega arith in
    let next : (place - from) + 1 ≡ place + 1 - from = omega arith in
    let inside : from + (place - from) < length c.args.stays.now = omega arith in
    ap (λ stays. set stays place None) c.loop-place.invariant
    ∙ ap (λ k. set (written from (place - from) c.args.stays.now) k None) here
    ∙ written_more from (place - from) c.args.stays.now inside
    ∙ ap (λ k. written from k c.args.stays.now) next
