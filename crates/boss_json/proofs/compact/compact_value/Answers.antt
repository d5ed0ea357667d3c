use Rattle.std.proofs.Common.{◌≡◌, [], ◌++◌, ap, ◌∙◌, sym, subst, arith, rules, append-nil}
use Rattle.std.proofs.lemmas.Str.{IsUtf8-from_ascii}
use Rattle.std.proofs.lemmas.Str.Ascii.{IsAscii-nil}
use Rattle.std.specs.Str.{IsAscii}
use Rattle.boss_json.specs.Compact.{text_of}
use Rattle.boss_json.specs.Trees.{tree_data, tree_json}
use Rattle.boss_json.proofs.Fits.{read-text_of}
use Rattle.boss_json.proofs.Lines.{value_in-text}
use Rattle.boss_json.proofs.compact.compact_value.Goals as goal

pub returns-then-is_empty : goal.returns-then-is_empty
returns-then-is_empty c =
    let j = tree_json c.in_ok-tree.tree in
    let none : c.value.new.self ≡ [] = search rules in
    let whole : c.args.text.now ≡ text_of j ++ c.value.new.self = c.in_ok-tree.ensures.text in
    let ascii : IsAscii c.args.text.now = c.in_ok-tree.ensures.ascii (subst IsAscii (sym none) IsAscii-nil) in
    value_in-text c.args.text.now (tree_data c.in_ok-tree.tree) (IsUtf8-from_ascii c.args.text.now ascii)
    (read-text_of c.args.text.now 8 j (omega arith) c.in_ok-tree.ensures.fit (whole ∙ ap (λ rest. text_of j ++ rest) none ∙ append-nil (text_of j)))
