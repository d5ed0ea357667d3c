use Rattle.std.proofs.Common.{◌≡◌, ◌++◌, reverse}
use Rattle.boss_outside_server.specs.Log.{newest_first}
use Rattle.boss_outside_server.proofs.log.Log.append.Given as goal

-- what is left of the other log, and behind it what was turned
abbrev pub invariant-loop-rest : goal.invariant-loop-rest
invariant-loop-rest g l = reverse (newest_first l.rest) ++ newest_first l.turned ≡ l.fn.other

-- what this log has so far, and behind it what is still turned
abbrev pub invariant-loop-turned : goal.invariant-loop-turned
invariant-loop-turned g l = reverse (newest_first l.self-inside.newest) ++ newest_first l.turned ≡ l.fn.self ++ l.fn.other
