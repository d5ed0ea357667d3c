use Rattle.std.proofs.Common.{◌≡◌, ◌≤◌, length, take, is_none}
use Rattle.std.specs.List.{filter}
use Rattle.boss_model.specs.Catalogue.{place_of}
use Rattle.boss_adopting.proofs.counts.removed_points.Given as goal

abbrev pub invariant-loop-place : goal.invariant-loop-place
invariant-loop-place l = record {
  count : l.count ≡ length (filter (λ point. is_none (place_of l.new point.name)) (take l.place l.old.points));
  few : l.count ≤ l.place;
}
