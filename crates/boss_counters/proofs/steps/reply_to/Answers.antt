use Rattle.std.proofs.Common.{rules, arith}
use Rattle.boss_counters.proofs.Keeps.{tells, put_part, put_slot}
use Rattle.boss_counters.proofs.steps.reply_to.Goals as goal

pub store-requires : goal.store-requires
store-requires g c =
    let own = c.requires.own in
    let put = c.exchange-before.ensures in
    let now = c.exchange-before.new.seat.me in
    (search rules, omega arith, tells _ _ _ _ _ _ _ c.args.reply (put_part c.args.token.me now _ _ put.3 c.requires.owes.1) (put_slot c.args.token.me now _ _ put.3 c.requires.slot) c.requires.owes.2)
