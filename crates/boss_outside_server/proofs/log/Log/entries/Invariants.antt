use Rattle.std.proofs.Common.{◌≡◌, ◌++◌, map, reverse}
use Rattle.boss_outside_server.specs.Log.{newest_first}
use Rattle.boss_outside_server.proofs.log.Log.entries.Given as goal

-- the entries that are left, and behind them those that were found, from the newest to the oldest
abbrev pub invariant-loop-link : goal.invariant-loop-link
invariant-loop-link g l = l.self ≡ reverse (newest_first l.link) ++ reverse (map (λ entry. entry.now) l.entries.items)
