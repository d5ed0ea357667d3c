use Rattle.std.proofs.Common.{rules, arith}
use Rattle.boss_lock.proofs.Keeps.{gives_back}
use Rattle.boss_lock.proofs.steps.give_back.Goals as goal

pub load-requires : goal.load-requires
load-requires g c =
    let put = c.exchange-empty.ensures in (
      search rules,
      (let own = c.requires.own in omega arith),
      gives_back _ _ _ _ _ _ c.exchange-empty.new.seat.me _ _ c.args.value put.3 c.requires.holding c.requires.slot.1 c.requires.slot.0 c.requires.told c.requires.value,
    )
