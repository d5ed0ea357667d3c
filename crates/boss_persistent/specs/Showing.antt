-- Source: own.
use Rattle.std.specs.Prelude.{◌≡◌, ℕ, ℤ, false}
use Rattle.boss_holdings.specs.Held.{Held, is_touched, shown}

-- each point that is not touched is to have, at any moment, the value that it was to have before
abbrev pub ShowsAsBefore : Held → Held → Type 0
ShowsAsBefore before after = (default : ℤ) (point moment : ℕ) → is_touched after point ≡ false → shown default moment after point ≡ shown default moment before point
