-- Source: own.
-- How long the workers of a server pause where they have nothing to do. A pause ends sooner where the worker's bell is rung, so these are
-- what is lost where a wake is.
use Rattle.std.specs.Prelude.{ℕ}

-- between two ticks, in milliseconds: the bell rings when something is due, by the clock that was read last, and that one may be set on
abbrev pub tick_pause : ℕ
tick_pause = 1000

-- where a driver has no want, in milliseconds
abbrev pub drive_pause : ℕ
drive_pause = 10000

-- the same where a want is held back that a guard holds, in milliseconds: it is looked at again, since a lease may make it free
abbrev pub held_pause : ℕ
held_pause = 100

-- after a turn of a watch without a notice, in milliseconds
abbrev pub watch_pause : ℕ
watch_pause = 5000

-- turns in a row without a notice, after which a watch ends: about a minute, so that a worker does not wait for who is gone
abbrev pub watch_idle : ℕ
watch_idle = 12
