-- Devices come back one after another, each with the calls of its own driver's work.
use Rattle.std.proofs.Common.{false, ◌≡◌, ◌⊎◌, inl, inr, ℕ, suc, ◌+◌, ◌<◌, ◌≤◌, ◌==◌, List, [], ◌∷◌, ◌++◌, length, refl, ap, sym, ◌∙◌, subst, arith, append_assoc}
use Rattle.std.proofs.lemmas.Bool.{cond-true, cond-false, false_from_ne_true}
use Rattle.std.proofs.lemmas.Bool.Decides.{nat_tests}
use Rattle.std.proofs.lemmas.List.{append-nil, map-append}
use Rattle.boss_model.specs.DeviceCall.{DeviceCall}
use Rattle.boss_outside_server.specs.declared.waited.Waited.{Waited}
use Rattle.boss_outside_server.specs.Waits.{new_waited}
use Rattle.def_lanes.specs.Devices.{AllTaken, DevicesBack}
use Rattle.def_lanes.specs.Lanes.{Lane, of_driver}
use Rattle.def_lanes.specs.Works.{Course, not_cut, Work, visit, beat, drive, lane_of_work, owner, AreOf, IsAbsent, AreApart, calls_by, calls_in}
use Rattle.def_lanes.proofs.Lists.{each-map, each-parts}
use Rattle.def_lanes.proofs.Owners.{same-owner}

pub calls_in-append : (driver : ℕ) (xs ys : List Work) → calls_in driver (xs ++ ys) ≡ calls_in driver xs ++ calls_in driver ys
calls_in-append driver [] ys = refl
calls_in-append driver (x ∷ xs) ys = ap (λ rest. calls_by driver x ++ rest) (calls_in-append driver xs ys) ∙ sym (append_assoc (calls_by driver x) (calls_in driver xs) (calls_in driver ys))

no-calls : (driver : ℕ) (work : Work) → ¬ (lane_of_work work ≡ of_driver driver) → calls_by driver work ≡ []
no-calls driver (visit served course) other = refl
no-calls driver (beat waited course) other = refl
no-calls driver (drive next calls waited course) other =
    cond-false (next == driver) calls [] (false_from_ne_true (next == driver) (λ is. other (let same : next ≡ driver = grind (arith, nat_tests) in ap of_driver same)))

calls-absent : (driver : ℕ) (works : List Work) → IsAbsent (of_driver driver) works → calls_in driver works ≡ []
calls-absent driver [] absent = refl
calls-absent driver (work ∷ works) absent = ap (λ front. front ++ calls_in driver works) (no-calls driver work absent.0) ∙ calls-absent driver works absent.1

-- other workers have no calls of the driver
calls-others : (workers first end driver : ℕ) (works : List Work) → AreOf workers first end works → (workers + 1 + driver < first) ⊎ (end ≤ workers + 1 + driver) → calls_in driver works ≡ []
calls-others workers first end driver works of_them outside = calls-absent driver works
    (each-map (λ work. (first ≤ owner workers work) × (owner workers work < end)) (λ work. ¬ (lane_of_work work ≡ of_driver driver))
    (λ work within same. apart-from (owner workers work) (workers + 1 + driver) first end within outside (same-owner workers work (drive driver [] (new_waited 0) (record { moments = []; cut = not_cut; closed = false })) same)) works of_them)
  where
    apart-from : (mine other first end : ℕ) → (first ≤ mine) × (mine < end) → (other < first) ⊎ (end ≤ other) → mine ≡ other → ⊥
    apart-from mine other first end within (inl below) same = omega (arith, within.0)
    apart-from mine other first end within (inr above) same = omega (arith, within.1)

module _ {A : Type 0} (calls : A → List DeviceCall) (whole : A → Type 0) where
  back-more : (driver : ℕ) (was now : List A) (xs ys : List Work) → DevicesBack calls whole driver was now xs →
      ((k : ℕ) → k < driver + length was → calls_in k ys ≡ []) → DevicesBack calls whole driver was now (xs ++ ys)
  back-more driver [] [] xs ys back none = tt
  back-more driver [] (new ∷ news) xs ys back none = back
  back-more driver (old ∷ olds) [] xs ys back none = back
  back-more driver (old ∷ olds) (new ∷ news) xs ys back none = (
    λ told. back.0 told ∙ ap (λ list. calls old ++ list) (sym (calls_in-append driver xs ys ∙ ap (λ list. calls_in driver xs ++ list) (none driver (omega arith)) ∙ append-nil (calls_in driver xs))),
    back-more (suc driver) olds news xs ys back.1 (λ k less. none k (omega arith)),
  )

  back-last : (driver place : ℕ) (was now : List A) (old new : A) (works : List Work) → DevicesBack calls whole driver was now works → place ≡ driver + length was →
      (whole new → calls new ≡ calls old ++ calls_in place works) → DevicesBack calls whole driver (was ++ old ∷ []) (now ++ new ∷ []) works
  back-last driver place [] [] old new works back is last = (λ told. last told ∙ ap (λ k. calls old ++ calls_in k works) (let here : place ≡ driver = omega arith in here), tt)
  back-last driver place [] (other ∷ others) old new works back is last = absurd back
  back-last driver place (other ∷ others) [] old new works back is last = absurd back
  back-last driver place (one ∷ ones) (other ∷ others) old new works back is last = (back.0, back-last (suc driver) place ones others old new works back.1 (omega arith) last)

  -- the next driver's device comes back; the works up to then have no calls of it, and its own work has no calls of the others
  pub devices-next : (workers : ℕ) (xs ys : List Work) (was now : List A) (old new : A) → DevicesBack calls whole 0 was now xs →
      AreOf workers 0 (workers + 1 + length was) xs → AreOf workers (workers + 1 + length was) (suc (workers + 1 + length was)) ys →
      (whole new → calls new ≡ calls old ++ calls_in (length was) ys) → DevicesBack calls whole 0 (was ++ old ∷ []) (now ++ new ∷ []) (xs ++ ys)
  devices-next workers xs ys was now old new back of_first of_next last =
      back-last 0 (length was) was now old new (xs ++ ys)
      (back-more 0 was now xs ys back (λ k less. calls-others workers (workers + 1 + length was) (suc (workers + 1 + length was)) k ys of_next (inl (omega arith))))
      (omega arith)
      (λ told. last told ∙ ap (λ list. calls old ++ list) (sym (calls_in-append (length was) xs ys
      ∙ ap (λ list. list ++ calls_in (length was) ys) (calls-others workers 0 (workers + 1 + length was) (length was) xs of_first (inr (omega arith))))))

pub taken-more : {O A : Type 0} (device was : O → A) (devices : List A) (out : List O) (next : O) → AllTaken device was devices out → was next ≡ device next →
    AllTaken device was (devices ++ device next ∷ []) (out ++ next ∷ [])
taken-more device was devices out next taken same = record {
  all = map-append device out (next ∷ []) ∙ ap (λ list. list ++ device next ∷ []) taken.all;
  untouched = map-append was out (next ∷ []) ∙ ap (λ list. list ++ was next ∷ []) taken.untouched ∙ ap (λ last. devices ++ last ∷ []) same;
}

-- the one work of a driver has all its calls
around : (lane : Lane) (before behind : List Work) (work : Work) → AreApart (before ++ work ∷ behind) → lane_of_work work ≡ lane → IsAbsent lane before × IsAbsent lane behind
around lane [] behind work apart is = (tt, subst (λ l. IsAbsent l behind) is apart.0)
around lane (first ∷ before) behind work apart is =
    let rest = around lane before behind work apart.1 is in
    (((λ same. (each-parts (λ other. ¬ (lane_of_work other ≡ lane_of_work first)) before (work ∷ behind) apart.0).1.0 (is ∙ sym same)), rest.0), rest.1)

pub calls-one : (driver : ℕ) (calls : List DeviceCall) (waited : Waited) (course : Course) (before behind : List Work) → AreApart (before ++ drive driver calls waited course ∷ behind) →
    calls_in driver (before ++ drive driver calls waited course ∷ behind) ≡ calls
calls-one driver calls waited course before behind apart =
    let none = around (of_driver driver) before behind (drive driver calls waited course) apart refl in
    calls_in-append driver before (drive driver calls waited course ∷ behind)
    ∙ ap (λ front. front ++ (calls_by driver (drive driver calls waited course) ++ calls_in driver behind)) (calls-absent driver before none.0)
    ∙ ap (λ rest. calls_by driver (drive driver calls waited course) ++ rest) (calls-absent driver behind none.1)
    ∙ append-nil (calls_by driver (drive driver calls waited course))
    ∙ cond-true (driver == driver) calls [] (grind (arith, nat_tests))
