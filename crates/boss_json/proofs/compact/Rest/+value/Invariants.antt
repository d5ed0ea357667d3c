use Rattle.std.proofs.Common.{◌≡◌, ◌+◌, ◌*◌, ◌++◌, length}
use Rattle.std.specs.Str.{IsAscii}
use Rattle.json.specs.Json.{array, object}
use Rattle.boss_json.specs.Compact.{IsFit}
use Rattle.boss_json.specs.Trees.{trees_in, trees_under}
use Rattle.boss_json.proofs.Printed.{items_text, members_text}
use Rattle.boss_json.proofs.compact.Rest.+value.Given as goal

abbrev pub decreases-value : goal.decreases-value
decreases-value l = 2 * l.levels + 1

abbrev pub decreases-items : goal.decreases-items
decreases-items l = 2 * l.levels

abbrev pub decreases-members : goal.decreases-members
decreases-members l = 2 * l.levels

abbrev pub invariant-items-loop-self : goal.invariant-items-loop-self
invariant-items-loop-self l = record {
  text : l.initial.self ≡ items_text l.items.items ++ l.self;
  fit : IsFit l.levels (array (trees_in l.items.items));
  ascii : IsAscii l.self → IsAscii l.initial.self;
}

abbrev pub decreases-items-loop-self : goal.decreases-items-loop-self
decreases-items-loop-self l = length l.self

abbrev pub invariant-members-loop-self : goal.invariant-members-loop-self
invariant-members-loop-self l = record {
  text : l.initial.self ≡ members_text l.members.items ++ l.self;
  fit : IsFit l.levels (object (trees_under l.members.items));
  ascii : IsAscii l.self → IsAscii l.initial.self;
}

abbrev pub decreases-members-loop-self : goal.decreases-members-loop-self
decreases-members-loop-self l = length l.self
