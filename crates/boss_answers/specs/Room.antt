-- Source: own.
-- Room in a buffer, in bytes. A number has at most 20, and a name in quotes 66; the other bounds are sums, some rounded up.
use Rattle.std.specs.Prelude.{◌≡◌, ℕ, ◌+◌, ◌≤◌, List, ◌++◌, length}
use Rattle.boss_model.specs.Held.{Held}

-- the buffer has room for so many bytes more
abbrev pub HasRoom : ℕ → Held → Type 0
HasRoom most held = length held.bytes + most ≤ held.capacity

-- the text was put at the end, and has at most so many bytes
pub record PutsAtMost (most : ℕ) (old new : Held) (text : List ℕ) : Type 0 where
  pub put : new ≡ record old { bytes = old.bytes ++ text }
  pub short : length text ≤ most
