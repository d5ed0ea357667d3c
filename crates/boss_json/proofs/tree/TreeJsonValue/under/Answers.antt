use Rattle.std.proofs.Common.{sym, ap, ◌∙◌}
use Rattle.json.specs.Find as tree
use Rattle.boss_json.specs.Trees.{tree_json}
use Rattle.boss_json.proofs.Found.{found-data}
use Rattle.boss_json.proofs.Trees.{tree_json-Object}
use Rattle.boss_json.proofs.tree.TreeJsonValue.under.Goals as goal

pub returns-in-Object : goal.returns-in-Object
returns-in-Object c =
    let seen = ap tree_json c.in-Object.is ∙ tree_json-Object c.in-Object.members in
    let found = rw c.as_bytes.ensures.value at c.bytes_under.ensures in
    found-data tree_json c.bytes_under.result c.args.key.now (tree_json c.args.self.now) (found ∙ sym (ap (tree.get c.args.key.now) seen))
