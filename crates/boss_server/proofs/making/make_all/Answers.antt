use Rattle.std.proofs.Common.{ap, ◌∙◌}
use Rattle.boss_outside_server.specs.declared.waited.Waited.{Waited}
use Rattle.boss_server.proofs.making.make_all.Goals as goal

-- the workers before left the waiter as it was told
pub make_time-requires-clause-told : goal.make_time-requires-clause-told
make_time-requires-clause-told g c = λ told. ap (λ (it : Waited). it.expected) (c.make_connections.ensures.waiter.waited told) ∙ c.requires.told told

pub make_drives-requires-clause-told : goal.make_drives-requires-clause-told
make_drives-requires-clause-told g c = λ told. ap (λ (it : Waited). it.expected) (c.make_time.ensures.waiter.waited told ∙ c.make_connections.ensures.waiter.waited told) ∙ c.requires.told told
