use Rattle.std.proofs.Common.{◌≡◌}
use Rattle.boss_shared.specs.Groups.{IsBare, IsEmpty, IsIdleOf}
use Rattle.boss_shared.proofs.manager.Manager.collect.Given as goal

abbrev pub invariant-loop : goal.invariant-loop
invariant-loop g l = (l.slip ≡ l.fn.posted.slip) × IsIdleOf l.self.lock l.pass × IsBare l.pass × IsEmpty l.group
