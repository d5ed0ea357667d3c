use Rattle.std.proofs.Common.{◌≡◌, ℕ, ◌==◌, List, [], take, drop}
use Rattle.std.specs.List.{list_any}
use Rattle.boss_model.specs.Lists.{member}
use Rattle.boss_model.specs.Submit.{repeated}
use Rattle.boss_persistent.proofs.refusals.repeated.Given as goal

-- the points so far, none of which stood before
abbrev pub invariant-loop-place : goal.invariant-loop-place
invariant-loop-place l = (seen : List ℕ) × (repeated [] 0 l.writes ≡ repeated seen l.place (drop l.place l.writes))
    × ((point : ℕ) → member point seen ≡ list_any (λ write. write.point == point) (take l.place l.writes))
