use Rattle.std.proofs.Common.{◌≡◌, replicate, rules}
use Rattle.boss_slots.proofs.Flagged.{no-flags}
use Rattle.boss_slots.proofs.flags.Flags.new.Goals as goal

pub returns : goal.returns
returns c =
    let words : c.in_ok-vec.field-0.items ≡ replicate c.div_ceil-words.result 0 = c.in_ok-vec.ensures.items_if_clones_equal (λ y same. search rules) in
    rw words (no-flags c.args.points c.div_ceil-words.result)
