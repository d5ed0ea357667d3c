use Rattle.std.proofs.Common.{sym, ◌∙◌}
use Rattle.boss_durable.specs.Words.{keeps}
use Rattle.boss_disk_pair.specs.Rests.{rests}
use Rattle.boss_durable.proofs.durable.Durable.events.Goals as goal

pub returns-clause-kept : goal.returns-clause-kept
unfolding keeps rests
returns-clause-kept g c told before held = c.events.ensures ∙ sym (held told).counts
