use Rattle.std.proofs.Common.{Some, arith}
use Rattle.boss_counters.specs.declared.view.Letter.TheVariants.{Request}
use Rattle.boss_counters.proofs.Keeps.{recalls, slots_of}
use Rattle.boss_counters.proofs.steps.recall.Goals as goal

pub compare_exchange-requires : goal.compare_exchange-requires
compare_exchange-requires g c = let own = c.requires.own in (own.0, omega arith, recalls _ _ _ _ _ _ _ c.requires.asked.1 c.requires.no_slot)

pub clear-letter-requires-clause-letter : goal.clear-letter-requires-clause-letter
clear-letter-requires-clause-letter g c =
    let told = c.compare_exchange.ensures.2.0 c.if-compare_exchange-ne-ASKED.false in
    (Some (Request told.0), slots_of _ _ _ told.2)
