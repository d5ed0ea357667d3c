use Rattle.std.proofs.Common.{◌≡◌, ap, refl}
use mathlib.Core.List.{List, [], ◌∷◌, ◌++◌, map, reverse, reverse_aux}

map-reverse_aux : {A B : Type 0} (f : A → B) (xs behind : List A) → map f (reverse_aux xs behind) ≡ reverse_aux (map f xs) (map f behind)
map-reverse_aux f [] behind = refl
map-reverse_aux f (x ∷ xs) behind = map-reverse_aux f xs (x ∷ behind)

pub map-reverse : {A B : Type 0} (f : A → B) (xs : List A) → map f (reverse xs) ≡ reverse (map f xs)
map-reverse f xs = map-reverse_aux f xs []

pub map-snoc : {A B : Type 0} (f : A → B) (xs : List A) (x : A) → map f (xs ++ x ∷ []) ≡ map f xs ++ f x ∷ []
map-snoc f [] x = refl
map-snoc f (y ∷ xs) x = ap (λ ys. f y ∷ ys) (map-snoc f xs x)
