use Rattle.std.proofs.Common.{◌≡◌, [], sym, ◌∙◌, rules}
use Rattle.json.specs.Value.{value_view}
use Rattle.boss_json.specs.Trees.{view}
use Rattle.boss_json.proofs.Datas.{read-too_large, read-value}
use Rattle.boss_json.proofs.Lines.{value_in-refused, value_in-text}
use Rattle.boss_json.proofs.reader.value_of.Goals as goal

pub returns-then-not-all_in_range : goal.returns-then-not-all_in_range
returns-then-not-all_in_range c =
    let none : c.read.new.reader ≡ [] = search rules in
    let read = rw (c.in-Ok.ensures.ok, none) at c.in-Ok-read.ensures.ok in
    value_in-refused c.args.text.now (λ utf8. read-too_large c.args.text.now (value_view c.in-Ok-read.value) read (sym c.all_in_range.ensures ∙ c.if-not-all_in_range.true))

pub returns : goal.returns
returns c =
    let none : c.read.new.reader ≡ [] = search rules in
    let read = rw (c.in-Ok.ensures.ok, none) at c.in-Ok-read.ensures.ok in
    value_in-text c.args.text.now (view c.in-Ok-read.value) c.utf8.text (read-value c.args.text.now (value_view c.in-Ok-read.value) read (sym c.all_in_range.ensures ∙ c.if-not-all_in_range.false))
