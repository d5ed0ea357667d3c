use Rattle.std.proofs.Common.{arith}
use Rattle.boss_counters.proofs.Keeps.{arrives, claims}
use Rattle.boss_counters.proofs.steps.claim.Goals as goal

pub load_new_seat-found-requires : goal.load_new_seat-found-requires
load_new_seat-found-requires g c = let own = c.requires.own in (omega arith, arrives _ _ _ _)

pub compare_exchange-requires : goal.compare_exchange-requires
compare_exchange-requires g c =
    let own = c.requires.own in
    let seat = c.load_new_seat-found.ensures in
    (seat.0, omega arith, claims _ _ _ _ _ _ seat.1)
