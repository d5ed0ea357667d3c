-- The least of some numbers, by which of them there are.
use Rattle.std.proofs.Common.{◌≡◌, ℕ, suc, ◌+◌, ◌-◌, ◌<◌, ◌≤◌, ◌==◌, true, false, List, [], ◌∷◌, map, get_or, Option, Some, None, refl, sym, ◌∙◌, ap, ⊎_elim, arith}
use Rattle.std.specs.Prelude.{find, is_some, nat_lt}
use Rattle.std.specs.List.{position_from}
use Rattle.std.proofs.lemmas.Bool.{cases_eq, cases_lt}
use Rattle.std.proofs.lemmas.Grind.{common_steps}
use Rattle.boss_model.specs.Order.{least, lesser}
use Rattle.boss_model.specs.Lists.{member}

-- the number is one of these, and none of them is less
pub record IsLeast (values : List ℕ) (value : ℕ) : Type 0 where
  pub inside : member value values ≡ true
  pub below : (other : ℕ) → member other values ≡ true → value ≤ other

IsLeast-lesser : (value best : ℕ) (values : List ℕ) → IsLeast values best → IsLeast (value ∷ values) (lesser (λ v. v) value (Some best))
IsLeast-lesser value best values is = ⊎_elim less more (cases_lt best value)
  where
    less : best < value → IsLeast (value ∷ values) (lesser (λ v. v) value (Some best))
    less below =
        let test : nat_lt best value ≡ true = grind (arith, common_steps) in
        rw test (record { inside = grind (arith, common_steps, is.inside); below = λ other inside. grind (arith, common_steps, is.below other) })

    more : value ≤ best → IsLeast (value ∷ values) (lesser (λ v. v) value (Some best))
    more above =
        let test : nat_lt best value ≡ false = grind (arith, common_steps) in
        rw test (record { inside = grind (arith, common_steps); below = λ other inside. grind (arith, common_steps, is.below other) })

pub IsLeast-least : (value : ℕ) (values : List ℕ) → (best : ℕ) × (least (λ v. v) (value ∷ values) ≡ Some best) × IsLeast (value ∷ values) best
IsLeast-least value [] = (value, refl, record { inside = grind (arith, common_steps); below = λ other inside. grind (arith, common_steps) })
IsLeast-least value (v ∷ vs) =
    let rest = IsLeast-least v vs in
    (lesser (λ v. v) value (Some rest.0), ap (λ o. Some (lesser (λ v. v) value o)) rest.1, IsLeast-lesser value rest.0 (v ∷ vs) rest.2)

pub least_is : (values : List ℕ) (value : ℕ) → IsLeast values value → least (λ v. v) values ≡ Some value
least_is [] value is = absurd (grind (arith, is.inside))
least_is (v ∷ vs) value is =
    let best = IsLeast-least v vs in
    let same : best.0 ≡ value = omega (arith, best.2.below value is.inside, is.below best.0 best.2.inside) in
    best.1 ∙ ap Some same

not_first : (from value : ℕ) (values : List ℕ) → from ≤ value → member value values ≡ true → member from values ≡ false → from + 1 ≤ value
not_first from value values low inside empty =
    ⊎_elim (λ same. absurd (grind (arith, common_steps))) (λ apart. grind arith) (cases_eq from value)

-- where exactly these places are filled, the first of them is the least number
pub position-least : {X : Type 0} (places : List (Option X)) (from : ℕ) (values : List ℕ)
    → ((place : ℕ) → from ≤ place → is_some (get_or places (place - from) None) ≡ member place values)
    → ((value : ℕ) → member value values ≡ true → from ≤ value)
    → position_from (λ p. is_some p) from places ≡ least (λ v. v) values
position-least [] from [] filled above = refl
position-least [] from (v ∷ vs) filled above =
    let inside : member v (v ∷ vs) ≡ true = grind (arith, common_steps) in
    absurd (grind (arith, common_steps, filled v (above v inside)))
position-least (None ∷ places) from values filled above =
    let empty : member from values ≡ false = grind (arith, common_steps, filled from) in
    position-least places (from + 1) values
    (λ place further.
    let next : place - from ≡ suc (place - (from + 1)) = omega arith in
    let there : is_some (get_or (None ∷ places) (place - from) None) ≡ member place values = filled place (omega arith) in
    rw next at there)
    (λ value inside. not_first from value values (above value inside) inside empty)
position-least (Some x ∷ places) from values filled above =
    let first : from - from ≡ 0 = omega arith in
    let there : is_some (get_or (Some x ∷ places) (from - from) None) ≡ member from values = filled from (omega arith) in
    sym (least_is values from (record { inside = sym (rw first at there); below = above }))

pub is_some-find : (number : ℕ → ℕ) (value : ℕ) (xs : List ℕ) → is_some (find (λ x. number x == value) xs) ≡ member value (map number xs)
is_some-find number value [] = refl
is_some-find number value (x ∷ xs) = grind (arith, common_steps, is_some-find number value xs)
