use Rattle.std.proofs.Common.{◌≡◌, option_map, ◌++◌}
use Rattle.boss_places.specs.Words.{members_from}
use Rattle.boss_places.proofs.place.read_members.Given as goal

abbrev pub invariant-loop-left : goal.invariant-loop-left
invariant-loop-left l = members_from l.fn.most l.fn.text ≡ option_map (λ more. l.members ++ more) (members_from l.left l.rest)

abbrev pub decreases-loop-left : goal.decreases-loop-left
decreases-loop-left l = l.left
