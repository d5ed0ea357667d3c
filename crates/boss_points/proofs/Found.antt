-- The place of a name among the keys of a set, and among the points.
use Rattle.std.proofs.Common.{◌≡◌, ℕ, List, map, position, Vec, Global, sym, ap, ◌∙◌}
use Rattle.std.proofs.lemmas.Cmp.{lists_equiv}
use Rattle.std.specs.Cmp.{nat_eq_equiv}
use Rattle.std.specs.Str.{bytes_eq}
use Rattle.boss_points.specs.declared.point.Point.{Point}
use Rattle.boss_points.specs.Seen.{texts, all_seen, seen}
use Rattle.boss_points.proofs.Places.{position-map, position-same}

bytes_eq-symm : (xs ys : List ℕ) → bytes_eq xs ys ≡ bytes_eq ys xs
bytes_eq-symm xs ys = (lists_equiv nat_eq_equiv).symm xs ys

pub place_among_points : (points : List Point) (keys : List (Vec ℕ Global)) (name : List ℕ) → texts keys ≡ map (λ point. point.name) points
    → position (λ key. bytes_eq name key.items) keys ≡ position (λ point. bytes_eq point.name name) (all_seen points)
place_among_points points keys name named =
    position-map (λ key. key.items) (bytes_eq name) keys ∙ ap (position (bytes_eq name)) named
    ∙ sym (position-map (λ point. point.name) (bytes_eq name) points)
    ∙ position-same _ _ points (λ point. bytes_eq-symm name point.name)
    ∙ position-map seen (λ point. bytes_eq point.name name) points
