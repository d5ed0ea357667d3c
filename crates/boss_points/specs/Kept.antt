-- Source: own; minimum times of binary points alone: ASHRAE 135, clause 19.2.
-- What holds of every catalogue.
use Rattle.std.specs.Prelude.{◌≡◌, ℕ, ◌<◌, ◌≤◌, ℤ, pos, true, List, length, map, All, Vec}
use Rattle.std.specs.declared.alloc.Global.{Global}
use Rattle.boss_model.specs.declared.point.Kind.{Kind}
use Rattle.boss_model.specs.declared.point.Kind.TheVariants.{Binary}
use Rattle.boss_model.specs.Catalogue.{fits}
use Rattle.boss_model.specs.Limits.{most_drivers, most_points}
use Rattle.boss_model.specs.Plants.{IsKind}
use Rattle.boss_model.specs.Sound.{DistinctNames}
use Rattle.def_catalogue.specs.Canonical.{digest_of}
use Rattle.boss_points.specs.declared.point.Point.{Point}
use Rattle.boss_points.specs.Keys.{is_minimum}
use Rattle.boss_points.specs.Seen.{all_seen, texts}

-- the minimum times of a point lie within bounds, and only a binary point has any
pub record AreTimes (kind : Kind) (on off : ℤ) : Type 0 where
  pub within_on : is_minimum on ≡ true
  pub within_off : is_minimum off ≡ true
  pub only_binary : ¬ (kind ≡ Binary) → (on ≡ pos 0) × (off ≡ pos 0)

-- the point's limits lie within bounds, its default is a value that it takes, and its driver is one of so many
pub record IsWhole (drivers : ℕ) (point : Point) : Type 0 where
  pub kind : IsKind point.kind
  pub fitting : fits point.kind point.default ≡ true
  pub known : point.driver < drivers
  pub times : AreTimes point.kind point.min_on point.min_off

-- the names are those of the points, in their order, and all different; the digest is that of the catalogue
pub record IsKept (drivers : List (List ℕ)) (points : List Point) (names : List (Vec ℕ Global)) (digest : List ℕ) : Type 0 where
  pub few_drivers : length drivers ≤ most_drivers
  pub few_points : length points ≤ most_points
  pub named : texts names ≡ map (λ point. point.name) points
  pub apart : DistinctNames (map (λ point. point.name) points)
  pub whole : All (IsWhole (length drivers)) points
  pub digested : digest ≡ digest_of (record { drivers = drivers; points = all_seen points })
