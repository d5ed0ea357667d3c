use Rattle.boss_lock.proofs.Ends.{opens}
use Rattle.boss_lock.proofs.lock.with_parts.Goals as goal

pub new-requires-2 : goal.new-requires-2
new-requires-2 g c = rw (c.of.ensures, c.in-Ok-one_slot.ensures.ok) (opens _ _ _ c.args.value c.requires.parts.1 c.requires.value)
