use Rattle.std.proofs.Common.{rules, arith}
use Rattle.boss_counters.proofs.Keeps.{files, put_part, put_slot}
use Rattle.boss_counters.proofs.steps.file.Goals as goal

pub store-requires : goal.store-requires
store-requires g c =
    let own = c.requires.own in
    let put = c.exchange-before.ensures in
    let now = c.exchange-before.new.seat.me in
    (search rules, omega arith, files _ _ _ _ _ _ c.args.request (put_part c.args.token.now.me now _ _ put.3 c.requires.place.0) (put_slot c.args.token.now.me now _ _ put.3 c.requires.place.1) c.requires.may)
