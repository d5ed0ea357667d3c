use Rattle.std.proofs.Common.{◌≡◌, map, take}
use Rattle.trial_states.proofs.adopting.plant_of.Given as goal

-- the points below `place`
abbrev pub invariant-loop-place : goal.invariant-loop-place
invariant-loop-place l = l.plant.items ≡ map (λ point. point.actuator) (take l.place l.catalogue.points)
