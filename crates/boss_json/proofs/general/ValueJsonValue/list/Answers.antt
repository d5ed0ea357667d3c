use Rattle.json.proofs.Trees.{view-Array}
use Rattle.json.specs.Value.{value_view}
use Rattle.boss_json.proofs.Views.{list_of_trees}
use Rattle.boss_json.proofs.general.ValueJsonValue.list.Goals as goal

pub returns-in-Array : goal.returns-in-Array
returns-in-Array c = rw (c.as_slice.ensures.value, c.in-Array.is, view-Array c.in-Array.items, list_of_trees value_view c.in-Array.items.items)
