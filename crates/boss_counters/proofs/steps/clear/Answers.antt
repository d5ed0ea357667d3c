use Rattle.std.proofs.Common.{rules, arith}
use Rattle.boss_counters.proofs.Keeps.{clears, put_part, put_slot}
use Rattle.boss_counters.proofs.steps.clear.Goals as goal

pub store-requires : goal.store-requires
store-requires g c =
    let own = c.requires.own in
    let put = c.exchange-letter.ensures in
    let now = c.exchange-letter.new.seat.me in
    (search rules, omega arith, clears _ _ _ _ _ _ (put_part c.args.token.me now _ _ put.3 c.requires.place) (put_slot c.args.token.me now _ _ put.3 c.requires.letter.1))
