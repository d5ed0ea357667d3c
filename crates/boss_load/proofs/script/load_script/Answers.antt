use Rattle.std.proofs.Common.{◌≡◌, ◌+◌, ◌++◌, ap, sym, ◌∙◌, append_assoc, arith, rules}
use Rattle.std.specs.List.{flat_map, range_with_len}
use Rattle.boss_load.specs.Day.{attaches_text, transaction_text}
use Rattle.boss_load.proofs.Ranges.{flat_map_next}
use Rattle.boss_load.proofs.script.load_script.Goals as goal

pub loop-number-preserved : goal.loop-number-preserved
loop-number-preserved c =
    let number = c.loop-number.number in
    let before = flat_map (transaction_text c.args.seed) (range_with_len 0 number) in
    let same : number ≡ number + 0 = omega arith in
    let was : c.loop-number.script.items ≡ attaches_text ++ before = c.loop-number.invariant in
    let added : c.put_transaction.new.script.items ≡ c.loop-number.script.items ++ transaction_text c.args.seed number = search rules in
    added ∙ ap (λ xs. xs ++ transaction_text c.args.seed number) was
    ∙ append_assoc attaches_text before (transaction_text c.args.seed number)
    ∙ ap (λ n. attaches_text ++ (before ++ transaction_text c.args.seed n)) same
    ∙ ap (λ xs. attaches_text ++ xs) (sym (flat_map_next (transaction_text c.args.seed) 0 number))
