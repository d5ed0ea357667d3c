use Rattle.std.proofs.Common.{◌≡◌, ℕ, ◌-◌, ◌<◌, length, get_or}
use Rattle.boss_json.proofs.member.are_same_throughout.Given as goal

abbrev pub invariant-loop-at : goal.invariant-loop-at
invariant-loop-at l = (k : ℕ) → k < l.at → get_or l.bytes k 0 ≡ get_or l.other k 0

abbrev pub decreases-loop-at : goal.decreases-loop-at
decreases-loop-at l = length l.other - l.at
