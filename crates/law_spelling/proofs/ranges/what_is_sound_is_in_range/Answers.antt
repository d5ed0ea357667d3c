use Rattle.law_spelling.proofs.Stored.{storable}
use Rattle.law_spelling.proofs.ranges.what_is_sound_is_in_range.Goals as goal

pub returns : goal.returns
returns c plant d whole sound = storable plant whole d sound
