-- Points in lists: which stand there, and what a list is around one of them.
use Rattle.std.proofs.Common.{◌≡◌, ℕ, ◌==◌, true, false, List, [], ◌∷◌, ◌++◌, refl, ◌∙◌, ⊎_elim, arith}
use Rattle.std.specs.Prelude.{if◌then◌else◌, reverse}
use Rattle.std.proofs.lemmas.Bool.{cases_eq}
use Rattle.std.proofs.lemmas.Grind.{common_steps}
use Rattle.std.proofs.lemmas.List.{reverse-append}
use Rattle.boss_model.specs.Lists.{member, without}
use Rattle.boss_model.specs.Sound.{Distinct}
use Rattle.boss_model.proofs.Members.{member-append, Distinct-snoc, without-none}
use Rattle.boss_marks.specs.Line.{behind}

-- those that stand before the point
abbrev pub ahead : ℕ → List ℕ → List ℕ
ahead point [] = []
ahead point (other ∷ points) = if other == point then [] else other ∷ ahead point points

pub reverse_cons : (x : ℕ) (xs : List ℕ) → reverse (x ∷ xs) ≡ reverse xs ++ x ∷ []
reverse_cons x xs = reverse-append (x ∷ []) xs

pub member-reverse : (point : ℕ) (xs : List ℕ) → member point (reverse xs) ≡ member point xs
member-reverse point [] = refl
member-reverse point (x ∷ xs) = grind (arith, common_steps, reverse_cons x xs, member-append point (reverse xs) (x ∷ []), member-reverse point xs)

pub Distinct-reverse : (xs : List ℕ) → Distinct xs → Distinct (reverse xs)
Distinct-reverse [] once = tt
Distinct-reverse (x ∷ xs) once = rw reverse_cons (Distinct-snoc (reverse xs) x (Distinct-reverse xs once.1) (member-reverse x xs ∙ once.0))

pub around : (point : ℕ) (xs : List ℕ) → member point xs ≡ true → xs ≡ ahead point xs ++ point ∷ behind point xs
around point [] inside = absurd (cc)
around point (x ∷ xs) inside =
    ⊎_elim
    (λ here. grind (arith, common_steps))
    (λ further. grind (arith, common_steps, around point xs (grind (arith, common_steps))))
    (cases_eq x point)

pub without_is : (point : ℕ) (xs : List ℕ) → Distinct xs → without point xs ≡ ahead point xs ++ behind point xs
without_is point [] once = refl
without_is point (x ∷ xs) once =
    ⊎_elim
    (λ here. grind (arith, common_steps, once.0, without-none point xs (grind (arith, common_steps, once.0))))
    (λ further. grind (arith, common_steps, without_is point xs once.1))
    (cases_eq x point)

-- a point that stands once does not stand before itself
pub Distinct-ahead : (xs : List ℕ) (point : ℕ) (ys : List ℕ) → Distinct (xs ++ point ∷ ys) → member point xs ≡ false
Distinct-ahead [] point ys once = refl
Distinct-ahead (x ∷ xs) point ys once = grind (arith, common_steps, member-append x xs (point ∷ ys), once.0, Distinct-ahead xs point ys once.1)
