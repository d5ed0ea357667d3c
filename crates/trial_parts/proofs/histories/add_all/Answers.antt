use Rattle.std.proofs.Common.{◌≡◌, ◌+◌, ◌∷◌, [], ap, ◌∙◌, rules, arith, add-mul, one-mul}
use Rattle.boss_lock.specs.Places.{total}
use Rattle.boss_lock.specs.Seats.{own_entries}
use Rattle.boss_lock.proofs.Entries.{total_append}
use Rattle.trial_parts.proofs.histories.add_all.Goals as goal

pub loop-preserved : goal.loop-preserved
loop-preserved g c =
    let added : total (λ n. n) (own_entries c.add.new.seat) ≡ total (λ n. n) (own_entries c.loop.seat) + (c.args.by + 0) =
    ap (total (λ n. n)) c.if-not-add.ensures.made ∙ total_append (λ n. n) (own_entries c.loop.seat) (c.args.by ∷ []) in
    let kept = c.loop.invariant.made in
    let more = add-mul c.loop.counter 1 c.args.by in
    let once = one-mul c.args.by in
    record { same = search rules; made = omega arith }
