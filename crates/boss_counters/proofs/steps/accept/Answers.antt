use Rattle.std.proofs.Common.{Some, rules, arith}
use Rattle.boss_counters.specs.declared.view.Letter.TheVariants.{Request}
use Rattle.boss_counters.proofs.Keeps.{arrives, accepts, first_held}
use Rattle.boss_counters.proofs.steps.accept.Goals as goal

pub load_new_seat-found-requires : goal.load_new_seat-found-requires
load_new_seat-found-requires g c = let own = c.requires.own in (omega arith, arrives _ _ _ _)

pub compare_exchange-requires : goal.compare_exchange-requires
compare_exchange-requires g c =
    let own = c.requires.own in
    let seat = c.load_new_seat-found.ensures in
    (seat.0, omega arith, accepts _ _ _ _ _ _ seat.1)

pub exchange-letter-requires : goal.exchange-letter-requires
exchange-letter-requires g c =
    let taken = c.compare_exchange.ensures.2.0 c.if-compare_exchange-ne-ASKED.false in
    (search rules, (Some (Request taken.0), first_held _ _ _ taken.2))
