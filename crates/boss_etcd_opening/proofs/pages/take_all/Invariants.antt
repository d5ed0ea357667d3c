use Rattle.std.proofs.Common.{map, take, length, ◌-◌, ◌≤◌}
use Rattle.json.specs.Value.{value_view}
use Rattle.boss_etcd_opening.specs.Answers.{ArePages}
use Rattle.boss_etcd_opening.proofs.pages.take_all.Given as goal

abbrev pub invariant-loop-at : goal.invariant-loop-at
invariant-loop-at l = ArePages l.fn.name (map (λ page. value_view page) (take l.at l.fn.pages)) l.initial.held.items l.held.items

abbrev pub decreases-loop-at : goal.decreases-loop-at
decreases-loop-at l = length l.fn.pages - l.at
