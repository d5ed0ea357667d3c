-- The marks of a plant's points are those of its first state.
use Rattle.std.proofs.Common.{◌≡◌, ℕ, zero, suc, ◌+◌, ℤ, List, [], ◌∷◌, ◌++◌, length, map, take, Some, refl, ap, sym, ◌∙◌, arith}
use Rattle.std.specs.List.{range_with_len, slice_get}
use Rattle.std.proofs.lemmas.List.{length-map}
use Rattle.boss_model.specs.declared.state.Actuator.{Actuator}
use Rattle.boss_model.specs.Catalogue.{default_of}
use Rattle.boss_model.specs.Settle.{fresh, first_state}
use Rattle.boss_model.specs.State.{first_persistent}
use Rattle.boss_marks.specs.Marks.{Marks, opened}
use Rattle.boss_engine.specs.Waiting.{drivers_of, state_of}

-- the driver and the default of a point
abbrev pub device_of : Actuator → ℕ × ℤ
device_of actuator = (actuator.driver, actuator.default)

pub drivers-opened : (plant : List Actuator) → (opened (map device_of plant)).drivers ≡ drivers_of plant
drivers-opened [] = refl
drivers-opened (x ∷ xs) = ap (λ ds. x.driver ∷ ds) (drivers-opened xs)

fresh-from : (value : ℕ → ℤ) (place : ℕ) (plant : List Actuator) → ((k : ℕ) → value (place + k) ≡ default_of plant k) →
    map (λ device. fresh device.1) (map device_of plant) ≡ map (λ point. fresh (value point)) (range_with_len place (length plant))
fresh-from value place [] each = refl
fresh-from value place (x ∷ xs) each =
    let here : value place ≡ x.default = ap value (let same : place ≡ place + 0 = omega arith in same) ∙ each 0 in
    λ i. fresh (sym here i) ∷ fresh-from value (place + 1) xs
    (λ k. ap value (let same : place + 1 + k ≡ place + suc k = omega arith in same) ∙ each (suc k)) i

pub state-opened : (plant : List Actuator) (marks : Marks) → marks ≡ opened (map device_of plant) → state_of first_persistent [] marks ≡ first_state plant
state-opened plant marks is =
    let proxies : (opened (map device_of plant)).proxies ≡ (first_state plant).proxies =
    fresh-from (default_of plant) 0 plant (λ k. ap (default_of plant) (let same : 0 + k ≡ k = omega arith in same)) in
    let wants : (opened (map device_of plant)).wants ≡ (first_state plant).wants = ap (range_with_len 0) (length-map plant device_of) in
    ap (state_of first_persistent []) is ∙ (λ i. record { persistent = first_persistent; attached = []; proxies = proxies i; wants = wants i })

-- ---- the points of a catalogue, one after another

-- a front with one more item
pub take-get : {X : Type 0} (xs : List X) (i : ℕ) (x : X) → slice_get xs i ≡ Some x → take (i + 1) xs ≡ take i xs ++ x ∷ []
take-get [] i x is = cc
take-get (y ∷ ys) zero x is = let same : y ≡ x = cc in ap (λ z. z ∷ []) same
take-get (y ∷ ys) (suc i) x is = let next : suc i + 1 ≡ suc (i + 1) = omega arith in ap (λ n. take n (y ∷ ys)) next ∙ ap (λ zs. y ∷ zs) (take-get ys i x is)
