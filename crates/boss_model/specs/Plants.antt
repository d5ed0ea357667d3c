-- Source: own.
-- What a catalogue sees to of its points, beside their names: there are not too many, and their limits are within bounds.
use Rattle.std.specs.Prelude.{◌≡◌, ◌^◌, ◌≤◌, ℤ, pos, neg_ℤ, Bool, true, List, length}
use Rattle.std.specs.List.{AllByRecursion}
use Rattle.boss_model.specs.declared.point.Kind.{Kind}
use Rattle.boss_model.specs.declared.point.Kind.TheVariants.{Analog, Binary, Multi}
use Rattle.boss_model.specs.declared.state.Actuator.{Actuator}
use Rattle.boss_model.specs.Limits.{most_points}
use Rattle.boss_model.specs.Submit.{is_within}

-- analog limits lie within these bounds, in thousandths of the unit
abbrev pub is_limit : ℤ → Bool
is_limit z = is_within (neg_ℤ (pos (10 ^ 15))) (pos (10 ^ 15)) z

abbrev pub IsKind : Kind → Type 0
IsKind (Analog min max) = (is_limit min ≡ true) × (is_limit max ≡ true)
IsKind Binary = Unit {0}
IsKind (Multi states) = is_within (pos 2) (pos 255) states ≡ true

pub record IsPlant (plant : List Actuator) : Type 0 where
  pub few : length plant ≤ most_points
  pub kinds : AllByRecursion (λ actuator. IsKind actuator.kind) plant
