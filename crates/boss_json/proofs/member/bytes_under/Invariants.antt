use Rattle.std.proofs.Common.{◌≡◌, ◌≤◌, length, take}
use Rattle.json.specs.Find.{get_member}
use Rattle.boss_json.specs.Trees.{trees_under}
use Rattle.boss_json.proofs.member.bytes_under.Given as goal

abbrev pub invariant-loop-left : goal.invariant-loop-left
invariant-loop-left l = (get_member l.key (trees_under l.members) ≡ get_member l.key (trees_under (take l.left l.members))) × (l.left ≤ length l.members)

abbrev pub decreases-loop-left : goal.decreases-loop-left
decreases-loop-left l = l.left
