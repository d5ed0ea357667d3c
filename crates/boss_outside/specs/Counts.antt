-- Source: own.
use Rattle.std.specs.Prelude.{◌≡◌, ℕ, ◌+◌, ◌-◌, ◌^◌, ◌≤◌, ◌<◌, min, Result, OnOk, OnErr}

-- one more, as far as a `u64` counts: there a count stands still
abbrev pub one_more : ℕ → ℕ
one_more count = min (count + 1) (2 ^ 64 - 1)

-- the count rose, or stood still at its end
abbrev pub Rose : ℕ → ℕ → Type 0
Rose before now = one_more before ≤ now

-- the call failed exactly where the count rose in it
pub record HasCause {T E : Type 0} (before now : ℕ) (result : Result T E) : Type 0 where
  pub failed : OnErr result (Rose before now)
  pub fine : OnOk result (now ≡ before)

-- taking a part back raises the count exactly where the part's own count is above 0
pub record Joins (before part now : ℕ) : Type 0 where
  pub failed : 0 < part → Rose before now
  pub fine : part ≡ 0 → now ≡ before
