use Rattle.std.proofs.Common.{ap, ◌∙◌}
use Rattle.boss_outside_server.specs.declared.waited.Waited.{Waited}
use Rattle.boss_server.proofs.making.make_drives.Goals as goal

-- each worker so far left the waiter as it was told
pub make_drive-requires-clause-told : goal.make_drive-requires-clause-told
make_drive-requires-clause-told g c = λ told. ap (λ (it : Waited). it.expected) (c.loop-driver.invariant.waiter.waited told) ∙ c.requires.told told
