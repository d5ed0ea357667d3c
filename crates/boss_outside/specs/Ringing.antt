-- Source: own.
-- What a ringer in memory tells.
use Rattle.std.specs.Prelude.{ℕ, ◌-◌, ◌^◌, Bool, true, List, []}

-- the bells that were rung, in order; whether none is missing among them; and the moment of the alarm
pub record Rung : Type 0 where
  pub rung : List ℕ
  pub whole : Bool
  pub alarm : ℕ

-- nothing was rung yet, and the alarm was never set
abbrev pub new_rung : Rung
new_rung = record { rung = []; whole = true; alarm = 2 ^ 64 - 1 }
