-- The first of some points that passes a test, where a point is taken out or comes last.
use Rattle.std.proofs.Common.{◌≡◌, ℕ, ◌==◌, Bool, true, false, List, [], ◌∷◌, ◌++◌, Option, Some, None, refl, sym, ⊎_elim, arith}
use Rattle.std.specs.Prelude.{find, slice_get, unwrap_or}
use Rattle.std.proofs.lemmas.Bool.{cases_eq, cases_Bool}
use Rattle.std.proofs.lemmas.Grind.{common_steps}
use Rattle.boss_model.specs.Lists.{member, without}
use Rattle.boss_model.specs.Sound.{Distinct}
use Rattle.boss_model.proofs.Members.{without-none}
use Rattle.boss_marks.specs.Line.{behind}

-- a point, and those that stand behind it
abbrev pub onward : Option ℕ → List ℕ → List ℕ
onward None points = []
onward (Some point) points = point ∷ behind point points

pub member-behind : (point other : ℕ) (points : List ℕ) → member other (behind point points) ≡ true → member other points ≡ true
member-behind point other [] inside = inside
member-behind point other (x ∷ xs) inside =
    ⊎_elim
    (λ here. grind (arith, common_steps))
    (λ further. grind (arith, common_steps, member-behind point other xs))
    (cases_eq x point)

pub member-first : (point : ℕ) (points : List ℕ) → slice_get points 0 ≡ Some point → member point points ≡ true
member-first point [] first = absurd (grind arith)
member-first point (x ∷ xs) first = grind (arith, common_steps)

pub member-next : (point other : ℕ) (points : List ℕ) → slice_get (behind point points) 0 ≡ Some other → member other points ≡ true
member-next point other points next = member-behind point other points (member-first other (behind point points) next)

pub onward-behind : (point : ℕ) (points : List ℕ) → Distinct points → onward (slice_get (behind point points) 0) points ≡ behind point points
onward-behind point [] once = refl
onward-behind point (x ∷ xs) once =
    ⊎_elim
    (λ here. onward_here point x xs here once.0)
    (λ further.
    let apart : (x == point) ≡ false = grind (arith, common_steps) in
    rw apart (onward_further point x xs (slice_get (behind point xs) 0) refl once.0 (onward-behind point xs once.1)))
    (cases_eq x point)
  where
    onward_here : (point x : ℕ) (xs : List ℕ) → x ≡ point → member x xs ≡ false → onward (slice_get (behind point (x ∷ xs)) 0) (x ∷ xs) ≡ behind point (x ∷ xs)
    onward_here point x [] same outside = grind (arith, common_steps)
    onward_here point x (y ∷ ys) same outside = grind (arith, common_steps)

    onward_further : (point x : ℕ) (xs : List ℕ) (next : Option ℕ) → next ≡ slice_get (behind point xs) 0 → member x xs ≡ false → onward next xs ≡ behind point xs → onward next (x ∷ xs) ≡ behind point xs
    onward_further point x xs None is outside same = same
    onward_further point x xs (Some y) is outside same = grind (arith, common_steps, member-next point y xs (sym is))

module _ (test : ℕ → Bool) where
  -- what is found stands there, and passes
  pub find-member : (points : List ℕ) (point : ℕ) → find test points ≡ Some point → (member point points ≡ true) × (test point ≡ true)
  find-member [] point found = absurd (grind arith)
  find-member (x ∷ xs) point found =
      ⊎_elim
      (λ passes. grind (arith, common_steps))
      (λ fails. let rest = find-member xs point (grind (arith, common_steps)) in (grind (arith, common_steps, rest.0), rest.1))
      (cases_Bool (test x))

  pub find-without_other : (point : ℕ) (points : List ℕ) → (find test points ≡ Some point → ⊥) → find test (without point points) ≡ find test points
  find-without_other point [] other = refl
  find-without_other point (x ∷ xs) other =
      ⊎_elim
      (λ passes. grind (arith, common_steps))
      (λ fails. let rest : find test (without point xs) ≡ find test xs = find-without_other point xs (λ found. other (grind (arith, common_steps))) in grind (arith, common_steps))
      (cases_Bool (test x))

  pub find-without_first : (point : ℕ) (points : List ℕ) → Distinct points → find test points ≡ Some point → find test (without point points) ≡ find test (behind point points)
  find-without_first point [] once found = refl
  find-without_first point (x ∷ xs) once found =
      ⊎_elim
      (λ here. grind (arith, common_steps, once.0, without-none point xs))
      (λ further.
      let fails : test x ≡ false = grind (arith, common_steps) in
      let rest : find test (without point xs) ≡ find test (behind point xs) = find-without_first point xs once.1 (grind (arith, common_steps)) in
      grind (arith, common_steps))
      (cases_eq x point)

  pub find-push_yes : (points : List ℕ) (point : ℕ) → test point ≡ true → find test (points ++ point ∷ []) ≡ Some (unwrap_or (find test points) point)
  find-push_yes [] point passes = grind (arith, common_steps)
  find-push_yes (x ∷ xs) point passes = grind (arith, common_steps, find-push_yes xs point passes)

  pub find-push_no : (points : List ℕ) (point : ℕ) → test point ≡ false → find test (points ++ point ∷ []) ≡ find test points
  find-push_no [] point fails = grind (arith, common_steps)
  find-push_no (x ∷ xs) point fails = grind (arith, common_steps, find-push_no xs point fails)
