-- What holds of each item of a list.
use Rattle.std.proofs.Common.{List, [], ◌∷◌, ◌++◌}
use Rattle.std.specs.List.{AllByRecursion}

pub each-append : {X : Type 0} (P : X → Type 0) (xs ys : List X) → AllByRecursion P xs → AllByRecursion P ys → AllByRecursion P (xs ++ ys)
each-append P [] ys first then = then
each-append P (x ∷ xs) ys first then = (first.0, each-append P xs ys first.1 then)

-- the two parts of a list
pub each-parts : {X : Type 0} (P : X → Type 0) (xs ys : List X) → AllByRecursion P (xs ++ ys) → AllByRecursion P xs × AllByRecursion P ys
each-parts P [] ys all = (tt, all)
each-parts P (x ∷ xs) ys all = ((all.0, (each-parts P xs ys all.1).0), (each-parts P xs ys all.1).1)

pub each-map : {X : Type 0} (P Q : X → Type 0) → ((x : X) → P x → Q x) → (xs : List X) → AllByRecursion P xs → AllByRecursion Q xs
each-map P Q then [] all = tt
each-map P Q then (x ∷ xs) all = (then x all.0, each-map P Q then xs all.1)

-- from what holds of each twice
pub each-both : {X : Type 0} (P Q R : X → Type 0) → ((x : X) → P x → Q x → R x) → (xs : List X) → AllByRecursion P xs → AllByRecursion Q xs → AllByRecursion R xs
each-both P Q R then [] all also = tt
each-both P Q R then (x ∷ xs) all also = (then x all.0 also.0, each-both P Q R then xs all.1 also.1)

-- a relation between the items of two lists, seen from the other side
pub each-turned : {X Y : Type 0} (R : X → Y → Type 0) (Q : Y → X → Type 0) → ((x : X) (y : Y) → R x y → Q y x) → (xs : List X) (ys : List Y) →
    AllByRecursion (λ x. AllByRecursion (R x) ys) xs → AllByRecursion (λ y. AllByRecursion (Q y) xs) ys
each-turned R Q turn xs [] all = tt
each-turned {X = X} {Y = Y} R Q turn xs (y ∷ ys) all = (
  each-map (λ x. AllByRecursion (R x) (y ∷ ys)) (Q y) (λ x both. turn x y both.0) xs all,
  each-turned R Q turn xs ys (each-map (λ x. AllByRecursion (R x) (y ∷ ys)) (λ x. AllByRecursion (R x) ys) (λ x both. both.1) xs all),
)
