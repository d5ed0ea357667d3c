use Rattle.std.proofs.Common.{arith}
use Rattle.std.proofs.lemmas.List.{get_or_read}
use Rattle.boss_slots.proofs.Words.{set-here, set-other}
use Rattle.boss_slots.proofs.bits.set_bit.Goals as goal

pub returns-clause-here : goal.returns-clause-here
returns-clause-here c = set-here c.args.words.now.items c.args.place _ c.requires

pub returns-clause-bits : goal.returns-clause-bits
returns-clause-bits c =
    let read = get_or_read c.args.words.now.items _ _ (omega arith) c.index_mut.ensures.value 0 in
    λ other differs. set-other c.args.words.now.items c.args.place _ other c.requires read differs
