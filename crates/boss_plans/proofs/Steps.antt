-- A list from a place on, one step further.
use Rattle.std.proofs.Common.{◌≡◌, ℕ, zero, suc, ◌+◌, ◌<◌, List, [], ◌∷◌, length, drop, Bool, false, cond, Some, refl, ap, sym, ◌∙◌, arith}
use Rattle.std.specs.List.{position_from, slice_get}
use Rattle.std.specs.Option.{option_map_or}
use Rattle.boss_model.specs.Catalogue.{Point}
use Rattle.boss_model.specs.declared.places.Place.{Place}
use Rattle.boss_plans.specs.declared.hosts.Host.{Host}
use Rattle.boss_plans.specs.Plans.{lacks_place, first_lacking}

drop-get : {X : Type 0} (xs : List X) (i : ℕ) (x : X) → slice_get xs i ≡ Some x → drop i xs ≡ x ∷ drop (i + 1) xs
drop-get [] i x is = cc
drop-get (y ∷ ys) zero x is = let same : y ≡ x = cc in ap (λ z. z ∷ ys) same
drop-get (y ∷ ys) (suc i) x is = let next : suc i + 1 ≡ suc (i + 1) = omega arith in drop-get ys i x is ∙ ap (λ n. x ∷ drop n (y ∷ ys)) (sym next)

-- the place of an item counts from another number here
position-on : {X : Type 0} (test : X → Bool) (xs : List X) (i number : ℕ) → i < length xs →
    position_from test number (drop i xs)
    ≡ cond (option_map_or test (slice_get xs i) false) (Some number) (position_from test (number + 1) (drop (i + 1) xs))
position-on test [] i number within = absurd (omega arith)
position-on test (y ∷ ys) zero number within = refl
position-on test (y ∷ ys) (suc i) number within =
    let next : suc i + 1 ≡ suc (i + 1) = omega arith in
    position-on test ys i number (omega arith)
    ∙ ap (λ n. cond (option_map_or test (slice_get ys i) false) (Some number) (position_from test (number + 1) (drop n (y ∷ ys)))) (sym next)

pub position-here : {X : Type 0} (test : X → Bool) (xs : List X) (place : ℕ) → place < length xs →
    position_from test place (drop place xs)
    ≡ cond (option_map_or test (slice_get xs place) false) (Some place) (position_from test (place + 1) (drop (place + 1) xs))
position-here test xs place within = position-on test xs place place within

pub lacking-here : (hosts : List Host) (places : List Place) (points : List Point) (id : ℕ) (point : Point) → slice_get points id ≡ Some point →
    first_lacking hosts places id (drop id points)
    ≡ cond (lacks_place hosts places id point) (Some id) (first_lacking hosts places (id + 1) (drop (id + 1) points))
lacking-here hosts places points id point is = ap (first_lacking hosts places id) (drop-get points id point is)
