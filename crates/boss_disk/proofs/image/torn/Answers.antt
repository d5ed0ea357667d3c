use Rattle.std.proofs.Common.{◌≡◌, ◌++◌, length, map, take, drop, Some, None, get_or, ◌∙◌, ap, arith}
use Rattle.std.specs.List.{fold}
use Rattle.std.proofs.lemmas.Grind.{common_steps}
use Rattle.boss_disk.specs.Kept.{stays_after}
use Rattle.boss_disk.specs.Picked.{picked}
use Rattle.boss_disk.proofs.image.torn.Goals as goal

pub returns-clause-each : goal.returns-clause-each
returns-clause-each c =
    let whole : take c.in_ok-image.image.len (c.pick_bytes.new.bytes ++ drop (length c.pick_bytes.new.bytes) c.in_ok-image.image.items) ≡ c.pick_bytes.new.bytes = grind (arith, common_steps) in
    let marks : c.deref.result.now ≡ fold stays_after (map Some c.args.synced.now) c.args.calls.now =
    c.deref.ensures.value ∙ c.forget_calls.ensures ∙ ap (λ s. fold stays_after s c.args.calls.now) (c.in_ok-stays.ensures) in
    let bytes : c.deref_mut.result.now ≡ c.args.bytes.now = grind (arith, common_steps) in
    rw whole (λ place inside. c.pick_bytes.ensures place inside
    ∙ ap (λ b. picked c.args.pick place (get_or c.deref.result.now place None) (get_or b place 0)) bytes
    ∙ ap (λ s. picked c.args.pick place (get_or s place None) (get_or c.args.bytes.now place 0)) marks)
