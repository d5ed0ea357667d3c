use Rattle.std.proofs.Common.{◌≡◌, ◌++◌, map, take, drop}
use Rattle.law_shift.specs.Shifted.{shifted_notice}
use Rattle.boss_shifting.proofs.processes.shift_notices.Given as goal

abbrev pub invariant-loop-notice : goal.invariant-loop-notice
invariant-loop-notice l = l.notices ≡ map (shifted_notice l.by) (take l.notice-index l.initial.notices) ++ drop l.notice-index l.initial.notices
