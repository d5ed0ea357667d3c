use Rattle.std.proofs.Common.{◌≡◌, ◌+◌, ◌*◌, slice_index, arith}
use Rattle.std.proofs.lemmas.List.{get_or_read}
use Rattle.boss_slots.specs.Bits.{IsFirstIn}
use Rattle.boss_slots.proofs.Words.{clear-in, first-in, some-within}
use Rattle.boss_slots.proofs.bits.take_bit.Goals as goal

read : (c : goal.After-words-1) → c.index.result.now ≡ slice_index c.args.words.now.items c.args.word
read c = get_or_read c.args.words.now.items _ _ (some-within c.args.words.now.items c.args.word c.requires.some) c.index.ensures 0

first : (c : goal.After-words-1) → IsFirstIn c.args.words.now.items c.args.word (c.args.word * 64 + c.first_of-bit.result)
first c =
    let bit = c.first_of-bit.ensures in
    first-in c.args.words.now.items c.args.word c.first_of-bit.result c.index.result.now (read c) bit.within bit.is bit.first

pub overflow_add-result : goal.overflow_add-result
overflow_add-result c = omega (arith, (first c).here, some-within c.args.words.now.items c.args.word c.requires.some, c.requires.few)

pub returns-clause-first : goal.returns-clause-first
returns-clause-first c = first c

pub returns-clause-here : goal.returns-clause-here
returns-clause-here c =
    let within = some-within c.args.words.now.items c.args.word c.requires.some in
    (clear-in c.args.words.now.items c.args.word c.first_of-bit.result _ within c.first_of-bit.ensures.within (get_or_read c.args.words.now.items _ _ within c.index_mut.ensures.value 0)).0

pub returns-clause-bits : goal.returns-clause-bits
returns-clause-bits c =
    let within = some-within c.args.words.now.items c.args.word c.requires.some in
    (clear-in c.args.words.now.items c.args.word c.first_of-bit.result _ within c.first_of-bit.ensures.within (get_or_read c.args.words.now.items _ _ within c.index_mut.ensures.value 0)).1
