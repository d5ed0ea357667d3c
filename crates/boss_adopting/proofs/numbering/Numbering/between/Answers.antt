use Rattle.boss_adopting.proofs.Numbered.{places-renumber}
use Rattle.boss_adopting.proofs.numbering.Numbering.between.Goals as goal

pub returns-clause-places : goal.returns-clause-places
returns-clause-places c = places-renumber c.args.old.now c.args.new.now c.in_ok-places.places.items c.in_ok-places.ensures.places
