-- Source: own.
-- Reversions that are put back.
use Rattle.std.specs.Prelude.{◌≡◌, ℕ, ◌==◌, ◌<◌, ◌≤◌, ◌&&◌, Bool, false, List, [], ◌∷◌}
use Rattle.std.specs.List.{list_any}
use Rattle.boss_model.specs.declared.state.Pending.{Pending}
use Rattle.boss_model.specs.Reversions.{end_of}
use Rattle.law_due.specs.Playing.{IsPlayable}

abbrev pub in_place : ℕ → ℕ → Pending → Bool
in_place point priority reversion = (reversion.point == point) && (reversion.priority == priority)

-- no slot is kept twice
abbrev pub ArePlacedApart : List Pending → Type 0
ArePlacedApart [] = Unit {0}
ArePlacedApart (reversion ∷ pending) = (list_any (in_place reversion.point reversion.priority) pending ≡ false) × ArePlacedApart pending

-- it is under way at this moment
abbrev pub IsUnderWay : ℕ → Pending → Type 0
IsUnderWay now reversion = IsPlayable reversion × (reversion.start ≤ now) × (now < end_of reversion)
