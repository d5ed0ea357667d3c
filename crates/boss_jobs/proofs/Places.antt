-- The first place at which a test passes, as a loop finds it.
use Rattle.std.proofs.Common.{◌≡◌, ℕ, zero, suc, ◌+◌, List, [], ◌∷◌, length, drop, Bool, true, false, not, cond, Some, None, refl, ap, sym, ◌∙◌, arith, nat_lt, map, ◌<◌, Err}
use Rattle.std.specs.List.{position_from, slice_get}
use Rattle.std.proofs.lemmas.Bool.Decides.{nat_tests}
use Rattle.boss_model.specs.Catalogue.{Point}
use Rattle.boss_jobs.specs.Programs.{lacks_device, usable}
use Rattle.boss_points.specs.Reading.{catalogue_of}
use Rattle.boss_points.specs.declared.CatalogueRefusal.TheVariants.{TooLong}
use Rattle.boss_scripts.specs.Devices.{HasDevices}

drop-get : {X : Type 0} (xs : List X) (i : ℕ) (x : X) → slice_get xs i ≡ Some x → drop i xs ≡ x ∷ drop (i + 1) xs
drop-get [] i x is = cc
drop-get (y ∷ ys) zero x is = let same : y ≡ x = cc in ap (λ z. z ∷ ys) same
drop-get (y ∷ ys) (suc i) x is = let next : suc i + 1 ≡ suc (i + 1) = omega arith in drop-get ys i x is ∙ ap (λ n. x ∷ drop n (y ∷ ys)) (sym next)

-- one place on
pub position-here : (test : Point → Bool) (points : List Point) (place : ℕ) (point : Point) → slice_get points place ≡ Some point →
    position_from test place (drop place points) ≡ cond (test point) (Some place) (position_from test (place + 1) (drop (place + 1) points))
position-here test points place point is = ap (position_from test place) (drop-get points place point is)

-- where no point lacks its device, each driver has one
pub all-have : (count place : ℕ) (points : List Point) → position_from (lacks_device count) place points ≡ None → HasDevices count (map (λ p. p.actuator) points)
all-have count place [] none = tt
all-have count place (p ∷ ps) none = from (nat_lt p.actuator.driver count) refl none (all-have count (place + 1) ps)
  where
    from : (b : Bool) → nat_lt p.actuator.driver count ≡ b → cond (not b) (Some place) (position_from (lacks_device count) (place + 1) ps) ≡ None →
        (position_from (lacks_device count) (place + 1) ps ≡ None → HasDevices count (map (λ q. q.actuator) ps)) → HasDevices count (map (λ q. q.actuator) (p ∷ ps))
    from true is e rest = (grind (arith, nat_tests), rest e)
    from false is e rest = cc

-- a file past the limit is refused for its length
pub too-long : (count : ℕ) (file : List ℕ) → 1048576 < length file → usable count file ≡ Err (TooLong (length file))
unfolding catalogue_of
too-long count file long =
    let past : nat_lt 1048576 (length file) ≡ true = grind (arith, nat_tests) in
    rw past refl
