-- Readings in order.
use Rattle.std.proofs.Common.{◌≡◌, ℕ, ◌+◌, ◌-◌, ◌/◌, ◌≤◌, min, List, [], ◌∷◌, ap, sym, ◌∙◌, arith}
use Rattle.boss_model.specs.Limits.{last_moment}
use Rattle.boss_slew.specs.declared.slew.Reading.{Reading}
use Rattle.boss_slew.specs.Slews.{Standing, IsStanding, IsRight, AreRight, credit, drawn, steady_after, even_at, after, after_all, gap}
use Rattle.boss_slew.proofs.Steps.{hundreds-rise, credit-within, steady-rises, after-standing, after-least, after-most, after-rises, drawn-twice, drawn-within, right-step}

pub standing : (s : Standing) (readings : List Reading) → IsStanding s → IsStanding (after_all s readings)
standing s [] is = is
standing s (r ∷ rs) is = standing (after s r) rs (after-standing s r is)

pub steadies : (s : Standing) (readings : List Reading) → s.steady ≤ (after_all s readings).steady
steadies s [] = omega arith
steadies s (r ∷ rs) = omega (arith, steady-rises s r, steadies (after s r) rs)

pub moments : (s : Standing) (readings : List Reading) → IsStanding s → s.moment ≤ (after_all s readings).moment
moments s [] is = omega arith
moments s (r ∷ rs) is = omega (arith, after-rises s r is, moments (after s r) rs (after-standing s r is))

pub fast : (s : Standing) (readings : List Reading) → (after_all s readings).moment ≤ even_at s (after_all s readings).steady + credit s.steady (after_all s readings).steady
fast s [] = omega arith
fast s (r ∷ rs) =
    let up = steady-rises s r in
    let on = steadies (after s r) rs in
    omega (arith, up, on, hundreds-rise s.steady (steady_after s r) up, hundreds-rise (steady_after s r) (after_all s (r ∷ rs)).steady on, after-most s r, fast (after s r) rs)

pub slow : (s : Standing) (readings : List Reading) → IsStanding s →
    min (even_at s (after_all s readings).steady - credit s.steady (after_all s readings).steady) last_moment ≤ (after_all s readings).moment
slow s [] is = omega arith
slow s (r ∷ rs) is =
    let up = steady-rises s r in
    let on = steadies (after s r) rs in
    omega (
      arith,
      up,
      on,
      hundreds-rise s.steady (steady_after s r) up,
      hundreds-rise (steady_after s r) (after_all s (r ∷ rs)).steady on,
      credit-within s.steady (steady_after s r) up,
      credit-within (steady_after s r) (after_all s (r ∷ rs)).steady on,
      after-least s r,
      slow (after s r) rs (after-standing s r is),
    )

-- ---- a wall clock that goes right

-- where it stands after all of them
pub right-run : (origin : ℕ) (s : Standing) (readings : List Reading) → AreRight origin readings →
    origin + (after_all s readings).steady ≤ last_moment → even_at s (after_all s readings).steady ≤ last_moment →
    (after_all s readings).moment ≡ drawn (credit s.steady (after_all s readings).steady) (origin + (after_all s readings).steady) (even_at s (after_all s readings).steady)
right-run origin s [] right small near = omega arith
right-run origin s (r ∷ rs) right small near =
    let up = steady-rises s r in
    let on = steadies (after s r) rs in
    let t = steady_after s r in
    let end = (after_all s (r ∷ rs)).steady in
    let here : (after s r).moment ≡ drawn (credit s.steady t) (origin + t) (even_at s t)
    = right-step last_moment origin s.moment s.steady r.wall r.steady (credit s.steady t) right.0 (omega (arith, on, small)) (omega (arith, up, on, near)) (λ same. omega (arith, same)) in
    let within = drawn-within (credit s.steady t) (origin + t) (even_at s t) in
    let rest = right-run origin (after s r) rs right.1 small (omega (arith, here, within, up, on, small, near)) in
    let twice = drawn-twice origin s.moment s.steady t end (s.steady / 100) (t / 100) (end / 100) up on (hundreds-rise s.steady t up) (hundreds-rise t end on)
    (credit-within s.steady t up) in
    rest ∙ ap (λ m. drawn (credit t end) (origin + end) (m + (end - t))) here ∙ twice

-- how far it is from there, in plain numbers
drawn-gap : (c w e : ℕ) → (drawn c w e - w) + (w - drawn c w e) ≡ ((e - w) + (w - e)) - c
drawn-gap c w e = omega arith

apart-as-before : (origin m a t : ℕ) → a ≤ t → ((m + (t - a)) - (origin + t)) + ((origin + t) - (m + (t - a))) ≡ (m - (origin + a)) + ((origin + a) - m)
apart-as-before origin m a t up = omega arith

pub nears : (origin : ℕ) (s : Standing) (readings : List Reading) → AreRight origin readings →
    origin + (after_all s readings).steady ≤ last_moment → even_at s (after_all s readings).steady ≤ last_moment →
    gap origin (after_all s readings) ≡ gap origin s - credit s.steady (after_all s readings).steady
nears origin s readings right small near =
    let end = (after_all s readings).steady in
    let there = right-run origin s readings right small near in
    ap (λ m. (m - (origin + end)) + ((origin + end) - m)) there ∙ drawn-gap (credit s.steady end) (origin + end) (even_at s end)
    ∙ ap (λ g. g - credit s.steady end) (apart-as-before origin s.moment s.steady end (steadies s readings))

pub comes : (origin : ℕ) (s : Standing) (readings : List Reading) → AreRight origin readings →
    origin + (after_all s readings).steady ≤ last_moment → even_at s (after_all s readings).steady ≤ last_moment →
    gap origin s ≤ credit s.steady (after_all s readings).steady → (after_all s readings).moment ≡ origin + (after_all s readings).steady
comes origin s readings right small near enough = omega (arith, enough, nears origin s readings right small near)

standing_at : ℕ → ℕ → Standing
standing_at steady moment = record { steady = steady; moment = moment }

same-standing : (a b c d : ℕ) → a ≡ c → b ≡ d → standing_at a b ≡ standing_at c d
same-standing a b c d p q = cc

pub stands : (s : Standing) (reading : Reading) → IsStanding s → reading.steady ≤ s.steady → after s reading ≡ s
unfolding standing_at
stands s reading is late =
    let small : s.steady ≤ last_moment = is.steady in
    let early : s.moment ≤ last_moment = is.moment in
    let still : steady_after s reading ≡ s.steady = omega arith in
    same-standing (steady_after s reading) (after s reading).moment s.steady s.moment still (omega (arith, still, early, after-least s reading, after-most s reading))

pub once : (origin : ℕ) (s : Standing) (readings : List Reading) (last : Reading) → IsStanding s → AreRight origin readings → IsRight origin last →
    last.steady ≡ (after_all s readings).steady → origin + last.steady ≤ last_moment → even_at s last.steady ≤ last_moment → after s last ≡ after_all s readings
unfolding standing_at
once origin s readings last is right at_last same small near =
    let end = (after_all s readings).steady in
    let up = steadies s readings in
    let steady : steady_after s last ≡ end = omega (arith, up, small, same) in
    let all = right-run origin s readings right (omega (arith, same, small)) (omega (arith, same, near)) in
    let one = right-run origin s (last ∷ []) (at_last, tt) (omega (arith, steady, same, small)) (omega (arith, steady, same, near)) in
    same-standing (steady_after s last) (after s last).moment end (after_all s readings).moment steady
    (one ∙ ap (λ t. drawn (credit s.steady t) (origin + t) (even_at s t)) steady ∙ sym all)
