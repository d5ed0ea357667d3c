use Rattle.std.proofs.Common.{◌≡◌, ◌+◌, drop}
use Rattle.boss_state_check.specs.Tests.{are_numbered}
use Rattle.boss_state_check.proofs.processes.are_numbered.Given as goal

-- the notices so far are numbered; those that are left go on from here
abbrev pub invariant-loop-notice : goal.invariant-loop-notice
invariant-loop-notice l = record {
  reached : l.number ≡ l.first + l.notice-index;
  left : are_numbered l.first l.notices ≡ are_numbered l.number (drop l.notice-index l.notices);
}
