use Rattle.std.proofs.Common.{◌≡◌, ◌<◌, ◌-◌, ◌∙◌, ap, arith, get_or, length, sym, vec_len}
use Rattle.boss_timers.proofs.Laid.{entries-taken, entry-read}
use Rattle.boss_timers.proofs.timers.pop_last.Goals as goal

pub returns-clause-last : goal.returns-clause-last
returns-clause-last c =
    let moments = c.args.moments.now.items in
    let slots = c.args.slots.now.items in
    let last = length moments - 1 in
    let some : 0 < vec_len c.args.moments.now = omega (arith, c.requires.some) in
    let some' : 0 < vec_len c.args.slots.now = omega (arith, c.requires.some, c.requires.pairs) in
    let size : vec_len c.args.moments.now ≡ length moments = omega arith in
    let size' : vec_len c.args.slots.now ≡ length moments = omega (arith, c.requires.pairs) in
    let both = sym c.unwrap-moment.ensures ∙ c.pop.ensures.value 0 some in
    let both' = sym c.unwrap-slot.ensures ∙ c.pop-2.ensures.value 0 some' in
    let moment : c.unwrap-moment.result ≡ get_or moments (vec_len c.args.moments.now - 1) 0 = cc in
    let slot : c.unwrap-slot.result ≡ get_or slots (vec_len c.args.slots.now - 1) 0 = cc in
    rw (moment ∙ ap (λ n. get_or moments (n - 1) 0) size, slot ∙ ap (λ n. get_or slots (n - 1) 0) size') (sym (entry-read moments slots last c.requires.pairs))

pub returns-clause-entries : goal.returns-clause-entries
returns-clause-entries c =
    let moments = c.args.moments.now.items in
    let slots = c.args.slots.now.items in
    let size : vec_len c.args.moments.now ≡ length moments = omega arith in
    let size' : vec_len c.args.slots.now ≡ length moments = omega (arith, c.requires.pairs) in
    rw (c.pop.ensures.rest, c.pop-2.ensures.rest, size, size') (entries-taken (length moments - 1) moments slots)
