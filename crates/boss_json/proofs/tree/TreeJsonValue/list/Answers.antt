use Rattle.boss_json.specs.Trees.{tree_json}
use Rattle.boss_json.proofs.Trees.{tree_json-List}
use Rattle.boss_json.proofs.Views.{list_of_trees}
use Rattle.boss_json.proofs.tree.TreeJsonValue.list.Goals as goal

pub returns-in-List : goal.returns-in-List
returns-in-List c = rw (c.in-List.is, tree_json-List c.in-List.items, list_of_trees tree_json c.in-List.items.now)
