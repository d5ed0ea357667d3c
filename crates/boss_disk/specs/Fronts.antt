-- Source: own.
use Rattle.std.specs.Prelude.{◌≡◌, ℕ, List, Some, map}
use Rattle.boss_disk.specs.Window.{Window}

-- these bytes stay in front, and nothing is known of what a crash leaves behind them
pub record KeepsFront (front : List ℕ) (window : Window) : Type 0 where
  pub only : window.stays ≡ map Some front
