use Rattle.std.proofs.Common.{take}
use Rattle.std.specs.List.{AllByRecursion}
use Rattle.boss_marks.specs.Marks.{IsEarly}
use Rattle.boss_marks.proofs.marks.first_retry.Given as goal

-- no failed write seen so far is to be tried again sooner
abbrev pub invariant-loop-proxy : goal.invariant-loop-proxy
invariant-loop-proxy l = AllByRecursion (IsEarly l.first) (take l.proxy-index l.proxies)
