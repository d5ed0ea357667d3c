-- One reading, in plain numbers.
use Rattle.std.proofs.Common.{◌≡◌, ℕ, ◌+◌, ◌-◌, ◌*◌, ◌/◌, ◌≤◌, max, min, Option, Some, None, inl, inr, refl, ap, sym, ◌∙◌, arith}
use Rattle.std.proofs.lemmas.Bool.{cases_lt}
use Rattle.boss_model.specs.Limits.{last_moment}
use Rattle.boss_slew.specs.declared.slew.Reading.{Reading}
use Rattle.boss_slew.specs.Slews.{Standing, IsStanding, credit, drawn, drawn_to, steady_after, even_at, after}

-- ---- full hundreds

pub hundreds-rise : (a t : ℕ) → a ≤ t → a / 100 ≤ t / 100
hundreds-rise a t up = omega arith

pub credit-within : (a t : ℕ) → a ≤ t → t / 100 - a / 100 ≤ t - a
credit-within a t up = omega arith

pub credit-hundredth : (a t : ℕ) → a ≤ t → 100 * (t / 100 - a / 100) ≤ (t - a) + 99
credit-hundredth a t up = omega arith

-- ---- what is drawn

drawn-least : (c w e : ℕ) → e - c ≤ max (e - c) (min w (e + c))
drawn-least c w e = omega arith

drawn-most : (c w e : ℕ) → max (e - c) (min w (e + c)) ≤ e + c
drawn-most c w e = omega arith

drawn_to-least : (c : ℕ) (w : Option ℕ) (e : ℕ) → e - c ≤ drawn_to c w e
drawn_to-least c None e = omega arith
drawn_to-least c (Some w) e = drawn-least c w e

drawn_to-most : (c : ℕ) (w : Option ℕ) (e : ℕ) → drawn_to c w e ≤ e + c
drawn_to-most c None e = omega arith
drawn_to-most c (Some w) e = drawn-most c w e

-- ---- one reading

module _ (s : Standing) (reading : Reading) where
  pub steady-rises : s.steady ≤ steady_after s reading
  steady-rises = omega arith

  pub steady-small : IsStanding s → steady_after s reading ≤ last_moment
  steady-small is = let small : s.steady ≤ last_moment = is.steady in omega arith

  pub after-standing : IsStanding s → IsStanding (after s reading)
  after-standing is = record { steady = steady-small is; moment = omega arith }

  pub after-least : min (even_at s (steady_after s reading) - credit s.steady (steady_after s reading)) last_moment ≤ (after s reading).moment
  after-least = let least = drawn_to-least (credit s.steady (steady_after s reading)) reading.wall (even_at s (steady_after s reading)) in omega (arith, least)

  pub after-most : (after s reading).moment ≤ even_at s (steady_after s reading) + credit s.steady (steady_after s reading)
  after-most = let most = drawn_to-most (credit s.steady (steady_after s reading)) reading.wall (even_at s (steady_after s reading)) in omega (arith, most)

  pub after-rises : IsStanding s → s.moment ≤ (after s reading).moment
  after-rises is =
      let small : s.moment ≤ last_moment = is.moment in
      let within = credit-within s.steady (steady_after s reading) steady-rises in
      omega (arith, within, after-least)

-- ---- a wall clock that goes right

drawn-down : (c w e : ℕ) → w ≤ e → drawn c w e ≡ max (e - c) w
drawn-down c w e below = omega arith

drawn-up : (c w e : ℕ) → e ≤ w → drawn c w e ≡ min w (e + c)
drawn-up c w e above = omega arith

-- two draws one after the other are one
twice-down : (d c w e : ℕ) → w ≤ e → drawn d w (drawn c w e) ≡ drawn (d + c) w e
twice-down d c w e below =
    let first = drawn-down c w e below in
    let second : drawn d w (max (e - c) w) ≡ max (max (e - c) w - d) w = drawn-down d w (max (e - c) w) (omega arith) in
    let most : max (max (e - c) w - d) w ≡ max (e - (d + c)) w = omega arith in
    ap (λ x. drawn d w x) first ∙ second ∙ most ∙ sym (drawn-down (d + c) w e below)

twice-up : (d c w e : ℕ) → e ≤ w → drawn d w (drawn c w e) ≡ drawn (d + c) w e
twice-up d c w e above =
    let first = drawn-up c w e above in
    let second : drawn d w (min w (e + c)) ≡ min w (min w (e + c) + d) = drawn-up d w (min w (e + c)) (omega arith) in
    let most : min w (min w (e + c) + d) ≡ min w (e + (d + c)) = omega arith in
    ap (λ x. drawn d w x) first ∙ second ∙ most ∙ sym (drawn-up (d + c) w e above)

twice-level : (d c w e : ℕ) → drawn d w (drawn c w e) ≡ drawn (d + c) w e
twice-level d c w e =
    let either = cases_lt w e in
    elim either [ inl below ↦ twice-down d c w e (omega (arith, below)) | inr above ↦ twice-up d c w e above ]

-- both go on by as much
drawn-along : (c w e f : ℕ) → c ≤ e → drawn c w e + f ≡ drawn c (w + f) (e + f)
drawn-along c w e f small = omega arith

pub drawn-twice : (origin m a t s A T S : ℕ) → a ≤ t → t ≤ s → A ≤ T → T ≤ S → T - A ≤ t - a →
    drawn (S - T) (origin + s) (drawn (T - A) (origin + t) (m + (t - a)) + (s - t)) ≡ drawn (S - A) (origin + s) (m + (s - a))
drawn-twice origin m a t s A T S p q r u v =
    let along = drawn-along (T - A) (origin + t) (m + (t - a)) (s - t) (omega (arith, v)) in
    let wall : (origin + t) + (s - t) ≡ origin + s = omega (arith, q) in
    let even : (m + (t - a)) + (s - t) ≡ m + (s - a) = omega (arith, p, q) in
    let all : (S - T) + (T - A) ≡ S - A = omega (arith, r, u) in
    ap (λ x. drawn (S - T) (origin + s) x) (along ∙ ap (λ w. drawn (T - A) w ((m + (t - a)) + (s - t))) wall ∙ ap (λ e. drawn (T - A) (origin + s) e) even)
    ∙ twice-level (S - T) (T - A) (origin + s) (m + (s - a)) ∙ ap (λ c. drawn c (origin + s) (m + (s - a))) all

pub drawn-within : (c w e : ℕ) → drawn c w e ≤ max e w
drawn-within c w e = omega arith

-- what the reading of a right clock makes, where no end is near: as if the wall clock showed the moment of the greatest reading
right-number : (l origin m a w r c : ℕ) → w ≡ origin + r → origin + max (min r l) a ≤ l → m + (max (min r l) a - a) ≤ l → (max (min r l) a ≡ a → c ≡ 0) →
    min (drawn c w (m + (max (min r l) a - a))) l ≡ drawn c (origin + max (min r l) a) (m + (max (min r l) a - a))
right-number l origin m a w r c right small near none = grind (arith, none)

pub right-step : (l origin m a : ℕ) (wall : Option ℕ) (r c : ℕ) → wall ≡ Some (origin + r) → origin + max (min r l) a ≤ l → m + (max (min r l) a - a) ≤ l → (max (min r l) a ≡ a → c ≡ 0) →
    min (drawn_to c wall (m + (max (min r l) a - a))) l ≡ drawn c (origin + max (min r l) a) (m + (max (min r l) a - a))
right-step l origin m a wall r c right small near none = ap (λ w. min (drawn_to c w (m + (max (min r l) a - a))) l) right
    ∙ right-number l origin m a (origin + r) r c refl small near none
