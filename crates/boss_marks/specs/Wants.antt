-- Source: own.
use Rattle.std.specs.Prelude.{◌≡◌, ℕ, ◌<◌, ◌≤◌, ◌^◌, ◌==◌, true, List, map, length, find, Option, None, slice_index, slice_index_or}
use Rattle.boss_model.specs.Lists.{member}
use Rattle.boss_model.specs.Order.{least}
use Rattle.boss_model.specs.Sound.{Distinct}
use Rattle.boss_marks.specs.Line.{Line}

-- the driver of each point's device, and the points that want their device to be written, in order of arrival
pub record Wants : Type 0 where
  pub drivers : List ℕ
  pub points : List ℕ

-- the driver's first want
abbrev pub first_of : List ℕ → ℕ → List ℕ → Option ℕ
first_of drivers driver wants = find (λ point. slice_index drivers point == driver) wants

-- the least driver that has a want
abbrev pub least_wanting : List ℕ → List ℕ → Option ℕ
least_wanting drivers wants = least (λ driver. driver) (map (λ point. slice_index drivers point) wants)

-- each driver's first want is kept
pub record IsWants (drivers : List ℕ) (line : Line) (firsts : List (Option ℕ)) : Type 0 where
  pub sized : line.room ≡ length drivers
  pub once : Distinct line.points
  pub known : (point : ℕ) → member point line.points ≡ true → point < length drivers
  pub served : (point : ℕ) → point < length drivers → slice_index drivers point < length firsts
  pub few : length firsts ≤ 2 ^ 16
  pub kept : (driver : ℕ) → slice_index_or firsts driver None ≡ first_of drivers driver line.points
