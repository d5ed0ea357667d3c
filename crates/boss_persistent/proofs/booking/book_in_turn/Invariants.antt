use Rattle.std.proofs.Common.{◌≡◌, ◌<◌, length, fold, drop}
use Rattle.std.specs.List.{AllByRecursion}
use Rattle.boss_booking.specs.Books.{booked}
use Rattle.boss_booking.specs.Gathered.{CanBook}
use Rattle.boss_persistent.proofs.booking.book_in_turn.Given as goal

-- the rest of what is told may be booked, and brings the books to where all of it does
abbrev pub invariant-loop-telling : goal.invariant-loop-telling
invariant-loop-telling l = record {
  can : CanBook (record { stages = l.stages; processes = l.processes }) (drop l.telling-index l.told);
  owners : AllByRecursion (λ telling. telling.happening.owner < length l.processes) (drop l.telling-index l.told);
  books : fold booked (record { stages = l.stages; processes = l.processes }) (drop l.telling-index l.told)
      ≡ fold booked (record { stages = l.initial.stages; processes = l.initial.processes }) l.told;
}
