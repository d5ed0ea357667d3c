-- Source: own.
-- What a host counts.
use Rattle.std.specs.Prelude.{◌≡◌, ℕ, ◌+◌, ◌-◌, ◌^◌, min}
use Rattle.boss_outside_server.specs.declared.host.Host as host

-- the calls that failed, and the connections that it handed out
pub record Hosted : Type 0 where
  pub faults : ℕ
  pub handed : ℕ

module _ {H In Out : Type 0} (h : host.Ghosts H In Out) where
  abbrev pub hosted_at : H → Hosted
  hosted_at host = record { faults = h.faults host; handed = h.handed host }

-- a count rose by so many, as far as a `u64` counts: it stands still at 2^64 - 1
abbrev pub RoseBy : ℕ → ℕ → ℕ → Type 0
RoseBy more before now = min now (2 ^ 64 - 1) ≡ min (before + more) (2 ^ 64 - 1)
