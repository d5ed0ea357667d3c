-- Wants with each driver's first one: what is read from them, and what they are after a want was taken out or put last.
use Rattle.std.proofs.Common.{◌≡◌, ◌≢◌, ℕ, ◌-◌, ◌<◌, ◌==◌, Bool, true, false, List, [], ◌∷◌, ◌++◌, length, map, set, get_or, Option, Some, None, sym, ◌∙◌, ap, ⊎_elim, arith}
use Rattle.std.specs.Prelude.{is_some, unwrap_or, slice_get, slice_index, IfSome}
use Rattle.std.specs.List.{position_from, AllByRecursion}
use Rattle.std.proofs.lemmas.Bool.{cases_eq}
use Rattle.std.proofs.lemmas.Grind.{common_steps}
use Rattle.std.proofs.lemmas.List.{length-set, get_or_read, get_or-set_same, get_or-set_other}
use Rattle.boss_model.specs.Lists.{member, without}
use Rattle.boss_model.proofs.Members.{member-append, member-without, Distinct-snoc, Distinct-without}
use Rattle.boss_marks.specs.Line.{Line, behind}
use Rattle.boss_marks.specs.Wants.{first_of, least_wanting, IsWants}
use Rattle.boss_marks.proofs.Firsts.{onward, onward-behind, member-next, find-member, find-without_other, find-without_first, find-push_yes, find-push_no}
use Rattle.boss_marks.proofs.Least.{position-least, is_some-find}

-- a test of a point: its driver is this one
abbrev pub is_of : List ℕ → ℕ → ℕ → Bool
is_of drivers driver point = slice_index drivers point == driver

-- what is read at a place
pub read_at : {X : Type 0} (xs : List X) (place point : ℕ) (x d : X) → place ≡ point → point < length xs → x ≡ get_or xs place x → x ≡ get_or xs point d
read_at xs place point x d same known is = get_or_read xs point x known (rw (← same) is) d

module _ {drivers : List ℕ} {line : Line} {firsts : List (Option ℕ)} (wants : IsWants drivers line firsts) where
  pub known_first : (driver : ℕ) (first : Option ℕ) → first ≡ first_of drivers driver line.points → IfSome first (λ point. point < length drivers)
  known_first driver None is = tt
  known_first driver (Some point) is = wants.known point (find-member (is_of drivers driver) line.points point (sym is)).0

  -- the first want is looked for behind a point, from one to the next
  pub next_known : (point : ℕ) → member point line.points ≡ true → (next : ℕ) → slice_get (behind point line.points) 0 ≡ Some next → member next line.points ≡ true
  next_known point inside next is = member-next point next line.points is

  pub next_left : (point : ℕ) → onward (slice_get (behind point line.points) 0) line.points ≡ behind point line.points
  next_left point = onward-behind point line.points wants.once

  -- the point from which on it is looked for is the one
  pub next_first : (driver start point : ℕ) (next : Option ℕ) → next ≡ Some point → first_of drivers driver (onward next line.points) ≡ first_of drivers driver (behind start line.points) → is_of drivers driver point ≡ true
      → Some point ≡ first_of drivers driver (behind start line.points)
  next_first driver start point next is left own = rw own at (rw is at left)

  -- it is looked for further on
  pub next_further : (driver start point : ℕ) (next next' : Option ℕ) → next ≡ Some point → first_of drivers driver (onward next line.points) ≡ first_of drivers driver (behind start line.points) → is_of drivers driver point ≡ false
      → next' ≡ slice_get (behind point line.points) 0 → first_of drivers driver (onward next' line.points) ≡ first_of drivers driver (behind start line.points)
  next_further driver start point next next' is left other further =
      ap (λ n. first_of drivers driver (onward n line.points)) further ∙ (ap (first_of drivers driver) (next_left point) ∙ rw other at (rw is at left))

  pub next_smaller : (point : ℕ) (next next' : Option ℕ) → next ≡ Some point → next' ≡ slice_get (behind point line.points) 0 → length (onward next' line.points) < length (onward next line.points)
  next_smaller point next next' is further = rw (is, further, next_left point) (omega arith)

  pub first_without_other : (driver point : ℕ) (first : Option ℕ) → first ≡ first_of drivers driver line.points → (first ≡ Some point → ⊥) → first ≡ first_of drivers driver (without point line.points)
  first_without_other driver point first is other = is ∙ sym (find-without_other (is_of drivers driver) point line.points (λ found. other (is ∙ found)))

  pub first_without_first : (driver point : ℕ) → first_of drivers driver line.points ≡ Some point → first_of drivers driver (behind point line.points) ≡ first_of drivers driver (without point line.points)
  first_without_first driver point found = sym (find-without_first (is_of drivers driver) point line.points wants.once found)

  -- what is kept is the first want of the point's driver
  pub read_first : (driver_place first_place point driver : ℕ) (first : Option ℕ) → driver_place ≡ point → point < length drivers → driver ≡ get_or drivers driver_place driver
      → first_place ≡ driver → first ≡ get_or firsts first_place first
      → (driver ≡ slice_index drivers point) × (first ≡ first_of drivers (slice_index drivers point) line.points) × (first ≡ get_or firsts driver None)
  read_first driver_place first_place point driver first at known is_driver at_first is_first =
      let own : driver ≡ slice_index drivers point = read_at drivers driver_place point driver 0 at known is_driver in
      let kept : first ≡ get_or firsts driver None = read_at firsts first_place driver first None at_first (rw own (wants.served point known)) is_first in
      (own, kept ∙ (wants.kept driver ∙ ap (λ d. first_of drivers d line.points) own), kept)

  other_driver : (driver point : ℕ) → slice_index drivers point ≢ driver → first_of drivers driver line.points ≡ Some point → ⊥
  other_driver driver point other found = absurd (grind (arith, common_steps, (find-member (is_of drivers driver) line.points point found).1))

  pub IsWants-removed : (driver point : ℕ) (first : Option ℕ) → member point line.points ≡ true → driver ≡ slice_index drivers point → first ≡ first_of drivers driver (without point line.points)
      → IsWants drivers (record line { points = without point line.points }) (set firsts driver first)
  IsWants-removed driver point first inside is_driver is_first =
      let room : driver < length firsts = rw is_driver (wants.served point (wants.known point inside)) in
      let here : get_or (set firsts driver first) driver None ≡ first_of drivers driver (without point line.points) = get_or-set_same firsts driver first None room ∙ is_first in
      record {
        sized = wants.sized;
        once = Distinct-without point line.points wants.once;
        known = λ other stays. wants.known other (grind (arith, common_steps, member-without other point line.points));
        served = λ other known. rw length-set (wants.served other known);
        few = rw length-set wants.few;
        kept = λ other. ⊎_elim
            (λ same. rw same here)
            (λ apart. get_or-set_other firsts driver other first None apart
            ∙ (wants.kept other ∙ sym (find-without_other (is_of drivers other) point line.points (other_driver other point (λ e. apart (sym (is_driver ∙ e)))))))
            (cases_eq other driver);
      }

  pub IsWants-pushed : (driver point first : ℕ) → point < length drivers → member point line.points ≡ false → driver ≡ slice_index drivers point → first ≡ unwrap_or (get_or firsts driver None) point
      → IsWants drivers (record line { points = line.points ++ point ∷ [] }) (set firsts driver (Some first))
  IsWants-pushed driver point first known outside is_driver is_first =
      let room : driver < length firsts = rw is_driver (wants.served point known) in
      let own_test : is_of drivers driver point ≡ true = grind (arith, common_steps, is_driver) in
      let is : first ≡ unwrap_or (first_of drivers driver line.points) point = is_first ∙ ap (λ o. unwrap_or o point) (wants.kept driver) in
      let here : get_or (set firsts driver (Some first)) driver None ≡ first_of drivers driver (line.points ++ point ∷ []) =
      get_or-set_same firsts driver (Some first) None room ∙ (ap Some is ∙ sym (find-push_yes (is_of drivers driver) line.points point own_test)) in
      let other_test : (other : ℕ) → (other ≡ driver → ⊥) → is_of drivers other point ≡ false = λ other apart. grind (arith, common_steps, is_driver, apart) in
      record {
        sized = wants.sized;
        once = Distinct-snoc line.points point wants.once outside;
        known = λ other stays. grind (arith, common_steps, member-append other line.points (point ∷ []), wants.known other, known);
        served = λ other known. rw length-set (wants.served other known);
        few = rw length-set wants.few;
        kept = λ other. ⊎_elim
            (λ same. rw same here)
            (λ apart. get_or-set_other firsts driver other (Some first) None apart ∙ (wants.kept other ∙ sym (find-push_no (is_of drivers other) line.points point (other_test other apart))))
            (cases_eq other driver);
      }

  pub least_first : position_from (λ first. is_some first) 0 firsts ≡ least_wanting drivers line.points
  least_first = position-least firsts 0 (map (λ point. slice_index drivers point) line.points)
      (λ driver from.
      let same : driver - 0 ≡ driver = omega arith in
      rw same (ap (λ o. is_some o) (wants.kept driver) ∙ is_some-find (λ point. slice_index drivers point) driver line.points))
      (λ driver inside. omega arith)

  -- every want is a point
  pub wants_known : AllByRecursion (λ want. want < length drivers) line.points
  wants_known = all_below line.points wants.known
    where
      all_below : (points : List ℕ) → ((point : ℕ) → member point points ≡ true → point < length drivers) → AllByRecursion (λ want. want < length drivers) points
      all_below [] known = tt
      all_below (x ∷ xs) known = (known x (grind (arith, common_steps)), all_below xs (λ point inside. known point (grind (arith, common_steps))))
