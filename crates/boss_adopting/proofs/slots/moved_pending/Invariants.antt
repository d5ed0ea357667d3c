use Rattle.std.proofs.Common.{◌≡◌, map, take}
use Rattle.law_adoption.specs.Adopted.{moved_pending}
use Rattle.boss_adopting.specs.Places.{places_of}
use Rattle.boss_adopting.proofs.slots.moved_pending.Given as goal

abbrev pub invariant-loop-reversion : goal.invariant-loop-reversion
invariant-loop-reversion l = l.moved.items ≡ map (moved_pending (places_of l.numbering)) (take l.reversion-index l.pending)
