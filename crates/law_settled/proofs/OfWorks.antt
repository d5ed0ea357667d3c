-- What the works of a server say of a settled point.
use Rattle.std.proofs.Common.{◌≡◌, ◌⊎◌, inl, inr, ℕ, zero, suc, ◌+◌, ◌<◌, ◌==◌, ℤ, Bool, true, false, cond, List, [], ◌∷◌, ◌++◌, length, Option, Some, None, refl, ap, sym, ◌∙◌, subst, arith}
use Rattle.std.specs.Prelude.{slice_get}
use Rattle.std.specs.List.{AllByRecursion}
use Rattle.std.proofs.lemmas.List.{length-map}
use Rattle.std.proofs.lemmas.Bool.Decides.{nat_tests}
use Rattle.boss_model.specs.declared.answer.Mark.{Mark}
use Rattle.boss_model.specs.declared.answer.Mark.TheVariants as mark
use Rattle.boss_model.specs.declared.state.Actuator.{Actuator}
use Rattle.boss_model.specs.Catalogue.{Catalogue, actuators, driver_of}
use Rattle.boss_model.specs.DeviceCall.{DeviceCall}
use Rattle.boss_model.specs.Devices.{proxy_of}
use Rattle.boss_model.specs.Settle.{opened}
use Rattle.boss_model.specs.Sound.{IsSound}
use Rattle.boss_model.specs.State.{Persistent, State}
use Rattle.boss_model.specs.Target.{target}
use Rattle.def_history.specs.declared.entry.Entry.{Entry}
use Rattle.def_history.specs.History.{deeds, IsLegal, run}
use Rattle.def_lanes.specs.Devices.{DevicesBack}
use Rattle.def_lanes.specs.Lanes.{of_driver, done_in}
use Rattle.def_lanes.specs.Parts.{Agreed}
use Rattle.def_lanes.specs.Works.{Course, not_cut, Work, visit, beat, drive, lane_of_work, IsAbsent, AreApart, calls_in}
use Rattle.def_lanes.proofs.DeviceLemmas.{calls-one}
use Rattle.boss_outside_server.specs.declared.waited.Waited.{Waited}
use Rattle.boss_outside_server.specs.Waits.{new_waited}
use Rattle.def_guards.specs.Guards.{is_guarded}
use Rattle.boss_shared.specs.Gates.{Gate}
use Rattle.boss_keys.specs.declared.entry.Entry.{Entry as KeyEntry}
use Rattle.boss_worker.specs.Saying.{IsDriven, says}
use Rattle.law_settled.specs.Settled.{IsApart, IsSettled, taking_target, last_from, last_call}
use Rattle.law_settled.proofs.Told.{Told, told_in, told_at, took_at}
use Rattle.law_settled.proofs.Standing.{settled-opened, settled-sound, nothing-taken, commanded-sound}
use Rattle.law_settled.proofs.InLane.{told-lane}
use Rattle.law_settled.proofs.Agreeing.{Agrees}
use Rattle.law_settled.proofs.Driven.{drive-agrees}
use Rattle.law_settled.proofs.Guarded.{guard-agrees}
use Rattle.law_settled.proofs.Spoken.{all-apart}

-- ---- one driver's worker

driven-agrees : (guarded : Bool) (catalogue : Catalogue) (driver point : ℕ) (Before : ℤ → Type 0) (calls : List DeviceCall) (pausing : Type 0) (pauses : ℕ) (course : Course) (entries : List Entry) (told : Told) →
    IsDriven guarded catalogue driver calls pausing pauses course entries → point < length (actuators catalogue) → Agrees point Before told None →
    Agrees point Before (told_in point entries told) (last_call point calls)
driven-agrees true catalogue driver point Before calls pausing pauses course entries told is known agrees =
    guard-agrees driver point Before catalogue calls pausing pauses course entries told is (subst (λ n. point < n) (length-map catalogue.points (λ p. p.actuator)) known) agrees
driven-agrees false catalogue driver point Before calls pausing pauses course entries told is known agrees = drive-agrees driver point Before calls pausing pauses course entries told is agrees

-- the last call of the point took this value; or it has none, and the state before told so
abbrev IsLast : State → ℕ → ℤ → List DeviceCall → Type 0
IsLast s point value calls = (last_call point calls ≡ Some (record { point = point; value = value; ok = true })) ⊎ ((last_call point calls ≡ None) × ((told_at s point).took ≡ Some value))

module _ (catalogue : Catalogue) (point : ℕ) (log : List Entry) (s : State) (known : point < length (actuators catalogue)) (legal : IsLegal (actuators catalogue) log s)
    (apart : AllByRecursion IsApart (deeds log)) (value : ℤ) (took : (told_in point log (told_at s point)).took ≡ Some value) where
  lane : List Entry
  lane = done_in (actuators catalogue) (of_driver (driver_of (actuators catalogue) point)) log

  took-lane : (told_in point lane (told_at s point)).took ≡ Some value
  unfolding lane
  took-lane = ap (λ t. t.took) (told-lane (actuators catalogue) point log s (told_at s point) legal apart) ∙ took

  pub worker-last : (calls : List DeviceCall) (pausing : Type 0) (pauses : ℕ) (course : Course) →
      IsDriven (is_guarded catalogue (driver_of (actuators catalogue) point)) catalogue (driver_of (actuators catalogue) point) calls pausing pauses course
      (done_in (actuators catalogue) (of_driver (driver_of (actuators catalogue) point)) log) → IsLast s point value calls
  unfolding lane
  worker-last calls pausing pauses course is =
      driven-agrees (is_guarded catalogue (driver_of (actuators catalogue) point)) catalogue (driver_of (actuators catalogue) point) point (λ v. (told_at s point).took ≡ Some v) calls pausing pauses course lane (told_at s point)
      is known (λ v same. inr (refl, same)) value took-lane

  -- nothing was done in the driver's lane
  none-last : lane ≡ [] → (told_at s point).took ≡ Some value
  none-last none = ap (λ es. (told_in point es (told_at s point)).took) (sym none) ∙ took-lane

-- ---- the work of a driver

none_of : (b : Bool) → cond {A = List DeviceCall} b [] [] ≡ []
none_of true = refl
none_of false = refl

pub no-calls : (driver : ℕ) (works : List Work) → IsAbsent (of_driver driver) works → AreApart works → calls_in driver works ≡ []
no-calls driver works absent apart =
    ap (λ first. first ++ calls_in driver works) (sym (none_of (driver == driver))) ∙ calls-one driver [] (new_waited 0) (record { moments = []; cut = not_cut; closed = false }) [] works (absent, apart)

module _ (P : Work → Type 0) (driver : ℕ) where
  -- the one work of the driver
  pub record HasWork (works : List Work) : Type 0 where
    pub calls : List DeviceCall
    pub waited : Waited
    pub course : Course
    pub is : P (drive driver calls waited course)
    pub all : calls_in driver works ≡ calls

  pub work-of : (works : List Work) → AreApart works → AllByRecursion P works → IsAbsent (of_driver driver) works ⊎ HasWork works
  work-of [] apart each = inl tt
  work-of (visit served course ∷ works) apart each = elim (work-of works apart.1 each.1) [
    | inl absent ↦ inl ((λ same. cc), absent)
    | inr has ↦ inr (record { calls = has.calls; waited = has.waited; course = has.course; is = has.is; all = has.all })
  ]
  work-of (beat waited course ∷ works) apart each = elim (work-of works apart.1 each.1) [
    | inl absent ↦ inl ((λ same. cc), absent)
    | inr has ↦ inr (record { calls = has.calls; waited = has.waited; course = has.course; is = has.is; all = has.all })
  ]
  work-of (drive other calls waited course ∷ works) apart each = by (other == driver) refl (work-of works apart.1 each.1)
    where
      by : (here : Bool) → (other == driver) ≡ here → IsAbsent (of_driver driver) works ⊎ HasWork works →
          IsAbsent (of_driver driver) (drive other calls waited course ∷ works) ⊎ HasWork (drive other calls waited course ∷ works)
      by true is rest =
          let same : other ≡ driver = grind (arith, nat_tests) in
          inr (record {
            calls = calls;
            waited = waited;
            course = course;
            is = subst (λ d. P (drive d calls waited course)) same each.0;
            all = subst (λ d. calls_in d (drive other calls waited course ∷ works) ≡ calls) same (calls-one other calls waited course [] works apart);
          })
      by false is (inl absent) = inl ((λ same. let equal : other ≡ driver = cc in absurd (grind (arith, nat_tests))), absent)
      by false is (inr has) = inr (record {
        calls = has.calls;
        waited = has.waited;
        course = has.course;
        is = has.is;
        all = ap (λ b. cond b calls [] ++ calls_in driver works) is ∙ has.all;
      })

-- ---- all works

module _ (catalogue : Catalogue) (gates : List Gate) (keys : Option (List KeyEntry)) (heeds tells pausing : Type 0) (point : ℕ) (log : List Entry) (s : State) (works : List Work)
    (known : point < length (actuators catalogue)) (legal : IsLegal (actuators catalogue) log s) (apart : AllByRecursion IsApart (deeds log))
    (agreed : Agreed (actuators catalogue) (says catalogue gates keys heeds tells pausing) log works) where
  pub works-last : (value : ℤ) → (told_in point log (told_at s point)).took ≡ Some value → IsLast s point value (calls_in (driver_of (actuators catalogue) point) works)
  unfolding lane
  works-last value took =
      let driver = driver_of (actuators catalogue) point in
      elim (work-of (λ work. says catalogue gates keys heeds tells pausing work (done_in (actuators catalogue) (lane_of_work work) log)) driver works agreed.apart agreed.each) [
        | inl absent ↦ inr (
          ap (last_call point) (no-calls driver works absent agreed.apart),
          none-last catalogue point log s known legal apart value took (agreed.none (of_driver driver) absent),
        )
        | inr has ↦ subst (IsLast s point value) (sym has.all) (worker-last catalogue point log s known legal apart value took has.calls pausing has.waited.pauses has.course has.is)
      ]

-- ---- from an opened state, and from a sound one

last-opened : (plant : List Actuator) (point : ℕ) (d : Persistent) (value : ℤ) (calls : List DeviceCall) → point < length plant → IsLast (opened plant d) point value calls →
    last_call point calls ≡ Some (record { point = point; value = value; ok = true })
last-opened plant point d value calls known (inl is) = is
last-opened plant point d value calls known (inr none) = absurd (let no : None ≡ Some value = sym (nothing-taken plant point d known) ∙ none.1 in cc)

pub worker-opened : (catalogue : Catalogue) (point : ℕ) (log : List Entry) (d : Persistent) (calls : List DeviceCall) (pausing : Type 0) (pauses : ℕ) (course : Course) → point < length (actuators catalogue) →
    IsLegal (actuators catalogue) log (opened (actuators catalogue) d) → AllByRecursion IsApart (deeds log) →
    IsDriven (is_guarded catalogue (driver_of (actuators catalogue) point)) catalogue (driver_of (actuators catalogue) point) calls pausing pauses course
    (done_in (actuators catalogue) (of_driver (driver_of (actuators catalogue) point)) log) → IsSettled (run (actuators catalogue) log (opened (actuators catalogue) d)) point →
    last_call point calls ≡ Some (taking_target (actuators catalogue) (run (actuators catalogue) log (opened (actuators catalogue) d)) point)
worker-opened catalogue point log d calls pausing pauses course known legal apart is settled =
    let plant = actuators catalogue in
    last-opened plant point d _ calls known (worker-last catalogue point log (opened plant d) known legal apart _ (settled-opened plant point log d known legal settled) calls pausing pauses course is)

pub works-opened : (catalogue : Catalogue) (gates : List Gate) (keys : Option (List KeyEntry)) (heeds tells pausing : Type 0) (point : ℕ) (log : List Entry) (d : Persistent) (works : List Work) →
    heeds → point < length (actuators catalogue) → IsLegal (actuators catalogue) log (opened (actuators catalogue) d) →
    Agreed (actuators catalogue) (says catalogue gates keys heeds tells pausing) log works → IsSettled (run (actuators catalogue) log (opened (actuators catalogue) d)) point →
    last_call point (calls_in (driver_of (actuators catalogue) point) works) ≡ Some (taking_target (actuators catalogue) (run (actuators catalogue) log (opened (actuators catalogue) d)) point)
works-opened catalogue gates keys heeds tells pausing point log d works heard known legal agreed settled =
    let plant = actuators catalogue in
    last-opened plant point d _ (calls_in (driver_of plant point) works) known
    (works-last catalogue gates keys heeds tells pausing point log (opened plant d) works known legal (all-apart catalogue gates keys heeds tells pausing log heard works agreed) agreed _
    (settled-opened plant point log d known legal settled))

-- what a settled point's state tells
settled-at : (stands : Mark) (commanded value : ℤ) → took_at stands commanded ≡ Some value → (stands ≡ mark.Settled) × (commanded ≡ value)
settled-at mark.Settled commanded value is = (refl, cc)
settled-at mark.Pending commanded value is = absurd cc
settled-at mark.Failed commanded value is = absurd cc

-- the last call took this value; or there is none, and the point was settled with it before
abbrev pub IsStill : List Actuator → State → ℕ → ℤ → List DeviceCall → Type 0
IsStill plant s point value calls = (last_call point calls ≡ Some (record { point = point; value = value; ok = true }))
    ⊎ ((last_call point calls ≡ None) × IsSettled s point × (target plant s.persistent point ≡ value))

still-sound : (plant : List Actuator) (point : ℕ) (s : State) (value : ℤ) (calls : List DeviceCall) → (proxy_of s.proxies point).commanded ≡ target plant s.persistent point →
    IsLast s point value calls → IsStill plant s point value calls
still-sound plant point s value calls same (inl is) = inl is
still-sound plant point s value calls same (inr none) =
    let at = settled-at (proxy_of s.proxies point).mark (proxy_of s.proxies point).commanded value none.1 in
    inr (none.0, at.0, sym same ∙ at.1)

pub works-sound : (catalogue : Catalogue) (gates : List Gate) (keys : Option (List KeyEntry)) (heeds tells pausing : Type 0) (point : ℕ) (log : List Entry) (s : State) (works : List Work) →
    heeds → point < length (actuators catalogue) → IsSound (actuators catalogue) s → IsLegal (actuators catalogue) log s →
    Agreed (actuators catalogue) (says catalogue gates keys heeds tells pausing) log works → IsSettled (run (actuators catalogue) log s) point →
    IsStill (actuators catalogue) s point (target (actuators catalogue) (run (actuators catalogue) log s).persistent point) (calls_in (driver_of (actuators catalogue) point) works)
works-sound catalogue gates keys heeds tells pausing point log s works heard known sound legal agreed settled =
    let plant = actuators catalogue in
    still-sound plant point s _ (calls_in (driver_of plant point) works) (commanded-sound plant point s known sound)
    (works-last catalogue gates keys heeds tells pausing point log s works known legal (all-apart catalogue gates keys heeds tells pausing log heard works agreed) agreed _
    (settled-sound plant point log s known sound legal settled))

-- ---- devices

pub last-any : (point : ℕ) (calls : List DeviceCall) (before other : Option DeviceCall) (call : DeviceCall) → before ≡ None → last_from point before calls ≡ Some call →
    last_from point other calls ≡ Some call
last-any point [] before other call none is = absurd (let no : None ≡ Some call = sym none ∙ is in cc)
last-any point (next ∷ calls) before other call none is = by (next.point == point) (last-any point calls before other call none) is
  where
    by : (here : Bool) → (last_from point before calls ≡ Some call → last_from point other calls ≡ Some call) →
        last_from point (cond here (Some next) before) calls ≡ Some call → last_from point (cond here (Some next) other) calls ≡ Some call
    by true rest is = is
    by false rest is = rest is

module _ {A : Type 0} (calls : A → List DeviceCall) (whole : A → Type 0) where
  -- the device of a driver among those that came back
  pub back-at : (k driver : ℕ) (was now : List A) (works : List Work) → DevicesBack calls whole driver was now works → k < length was →
      (old : A) × (new : A) × (slice_get now k ≡ Some new) × (whole new → calls new ≡ calls old ++ calls_in (driver + k) works)
  back-at k driver [] [] works back less = absurd (omega arith)
  back-at k driver [] (new ∷ news) works back less = absurd back
  back-at k driver (old ∷ olds) [] works back less = absurd back
  back-at zero driver (old ∷ olds) (new ∷ news) works back less =
      let here : driver ≡ driver + 0 = omega arith in (old, new, refl, λ all. back.0 all ∙ ap (λ d. calls old ++ calls_in d works) here)
  back-at (suc k) driver (old ∷ olds) (new ∷ news) works back less =
      let rest = back-at k (suc driver) olds news works back.1 (omega arith) in
      let on : suc driver + k ≡ driver + suc k = omega arith in
      (rest.0, rest.1, rest.2, λ all. rest.3 all ∙ ap (λ d. calls rest.0 ++ calls_in d works) on)

pub at-front : {A : Type 0} (xs ys : List A) (k : ℕ) (x : A) → slice_get xs k ≡ Some x → slice_get (xs ++ ys) k ≡ Some x
at-front [] ys k x is = absurd cc
at-front (y ∷ xs) ys zero x is = is
at-front (y ∷ xs) ys (suc k) x is = at-front xs ys k x is
