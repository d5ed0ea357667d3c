-- Source: own.
use Rattle.std.specs.Prelude.{◌≡◌, ℕ, zero, suc, ◌<◌, ◌==◌, Bool, false, if◌then◌else◌, List, [], ◌∷◌, length, Option, Some, None, slice_index_or, slice_set, reverse}
use Rattle.boss_model.specs.Lists.{member}
use Rattle.boss_model.specs.Sound.{Distinct}

-- points in a line, of which each is below `room`
pub record Line : Type 0 where
  pub room : ℕ
  pub points : List ℕ

-- those that stand behind the point
abbrev pub behind : ℕ → List ℕ → List ℕ
behind point [] = []
behind point (other ∷ points) = if other == point then points else behind point points

-- ---- how a line is kept: each point has a link to the next one, and a link to the one before it

abbrev pub link_of : List (Option ℕ) → ℕ → Option ℕ
link_of links point = slice_index_or links point None

-- the links lead from `start` through these points, and no further
abbrev pub Leads : List (Option ℕ) → Option ℕ → List ℕ → Type 0
Leads links start [] = start ≡ None
Leads links start (point ∷ points) = (start ≡ Some point) × (point < length links) × Leads links (link_of links point) points

-- where the links lead to, up to `most` points
abbrev pub walk : List (Option ℕ) → ℕ → Option ℕ → List ℕ
walk links zero start = []
walk links (suc most) None = []
walk links (suc most) (Some point) = point ∷ walk links most (link_of links point)

pub record IsLine (after before : List (Option ℕ)) (stands : List Bool) (first last : Option ℕ) (points : List ℕ) : Type 0 where
  pub forwards : Leads after first points
  pub backwards : Leads before last (reverse points)
  pub known : (point : ℕ) → slice_index_or stands point false ≡ member point points
  pub once : Distinct points
  pub afters : length after ≡ length stands
  pub befores : length before ≡ length stands

-- the link of `from` leads to `to`; where there is no `from`, the start does
abbrev pub linked : Option ℕ → Option ℕ → List (Option ℕ) → List (Option ℕ)
linked None to links = links
linked (Some from) to links = slice_set links from to

abbrev pub started : Option ℕ → Option ℕ → Option ℕ → Option ℕ
started None to start = to
started (Some from) to start = start
