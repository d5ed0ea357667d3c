use Rattle.std.proofs.Common.{◌+◌, ◌++◌, ap, sym, ◌∙◌, append_assoc}
use Rattle.std.specs.List.{flat_map, range_with_len}
use Rattle.boss_load.specs.Day.{attach_text}
use Rattle.boss_load.proofs.Ranges.{flat_map_next}
use Rattle.boss_load.proofs.script.put_attaches.Goals as goal

pub loop-place-preserved : goal.loop-place-preserved
loop-place-preserved c =
    let before = flat_map attach_text (range_with_len 1 c.loop-place.place) in
    c.in_ok-put_attach.ensures ∙ ap (λ xs. xs ++ attach_text (c.loop-place.place + 1)) c.loop-place.invariant
    ∙ append_assoc c.args.script.now.items before (attach_text (c.loop-place.place + 1))
    ∙ ap (λ xs. c.args.script.now.items ++ xs) (sym (flat_map_next attach_text 1 c.loop-place.place))
