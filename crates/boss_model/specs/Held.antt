-- Source: own.
use Rattle.std.specs.Prelude.{ℕ, List}

-- what a buffer holds: its bytes, and how many it has room for
pub record Held : Type 0 where
  pub bytes : List ℕ
  pub capacity : ℕ
