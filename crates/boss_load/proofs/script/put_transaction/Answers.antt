use Rattle.std.proofs.Common.{◌+◌, ◌++◌, ap, sym, ◌∙◌, append_assoc}
use Rattle.std.specs.List.{flat_map, range_with_len}
use Rattle.boss_load.specs.Day.{renew_text}
use Rattle.boss_load.proofs.Ranges.{flat_map_next}
use Rattle.boss_load.proofs.script.put_transaction.Goals as goal

pub loop-place-preserved : goal.loop-place-preserved
loop-place-preserved c =
    let before = flat_map (renew_text c.args.number) (range_with_len 2 c.loop-place.place) in
    c.in_ok-put_renewal.ensures ∙ ap (λ xs. xs ++ renew_text c.args.number (c.loop-place.place + 2)) c.loop-place.invariant
    ∙ append_assoc c.put_submit.new.script.items before (renew_text c.args.number (c.loop-place.place + 2))
    ∙ ap (λ xs. c.put_submit.new.script.items ++ xs) (sym (flat_map_next (renew_text c.args.number) 2 c.loop-place.place))
