use Rattle.boss_json.proofs.Trees.{tree_json-Text}
use Rattle.boss_json.proofs.tree.TreeJsonValue.text.Goals as goal

pub returns-in-Text : goal.returns-in-Text
returns-in-Text c = rw (c.in-Text.is, tree_json-Text c.in-Text.text)
