use Rattle.std.proofs.Common.{◌≡◌, ◌∙◌, ℕ, ◌==◌, List, filter, length, nat_eq, rules, tests}
use Rattle.std.specs.List.{slice_split, starts_with}
use Rattle.std.proofs.lemmas.Iterator.Consumers.{count_from_yields_List, YieldsList-at, YieldsList-from_filter}
use Rattle.std.proofs.lemmas.Iterator.Splits.{YieldsList-from_slice_split}
use Rattle.std.proofs.lemmas.List.Sums.{length-filter}
use Rattle.boss_load_run.proofs.Pieces.{count_by-pieces, starts_none}
use Rattle.boss_load_run.proofs.counting.lines_with.Goals as goal

pub returns : goal.returns
returns c =
    let text = c.args.text.now in
    let begins = λ (line : List ℕ). starts_with nat_eq line c.args.beginning.now in
    let all = slice_split (λ (byte : ℕ). byte == 10) text in
    let counted : c.count.result ≡ length (filter begins all) = count_from_yields_List c.filter.result c.count.result c.count.ensures.ran
    (YieldsList-from_filter _ begins
    (YieldsList-at c.filter.ensures.source
    (YieldsList-from_slice_split _ (λ (byte : ℕ). byte == 10) text c.split.ensures.rest c.split.ensures.done c.split.ensures.closure (λ x b q k. search (rules, tests))))
    c.filter.ensures.closure (λ x b q k. search (rules, tests))) in
    counted ∙ length-filter begins all ∙ count_by-pieces begins (starts_none c.args.beginning.now c.requires) text
