use Rattle.std.proofs.Common.{sym, ap, ◌∙◌}
use Rattle.json.proofs.Trees.{view-Object}
use Rattle.json.specs.Find as tree
use Rattle.json.specs.Value.{value_view}
use Rattle.boss_json.proofs.Found.{found-data}
use Rattle.boss_json.proofs.general.ValueJsonValue.under.Goals as goal

pub returns-in-Object : goal.returns-in-Object
returns-in-Object c =
    let seen = ap value_view c.in-Object.is ∙ view-Object c.in-Object.members in
    found-data value_view c.member_under.result c.args.key.now (value_view c.args.self.now) (c.member_under.ensures ∙ sym (ap (tree.get c.args.key.now) seen))
