use Rattle.std.proofs.Common.{◌≡◌, map, take}
use Rattle.law_adoption.specs.Adopted.{moved_notice, notice_stays, last_passing}
use Rattle.boss_adopting.specs.Places.{places_of}
use Rattle.boss_adopting.proofs.notices.moved_notices.Given as goal

abbrev pub invariant-loop-notice : goal.invariant-loop-notice
invariant-loop-notice l =
    l.moved.items ≡ map (moved_notice (places_of l.numbering)) (last_passing (notice_stays (places_of l.numbering)) (take l.notice-index l.notices))
