-- Draining ends: each round at one moment makes what is left less, the first one too.
use Rattle.std.proofs.Common.{◌≡◌, ℕ, ◌<◌, ◌≤◌, ◌==◌, max, ℤ, List, [], ◌∷◌, length, Bool, true, false, ◌||◌, Option, Some, None, refl, ap, sym, ◌∙◌, subst, arith}
use Rattle.std.specs.List.{find, list_any}
use Rattle.std.proofs.lemmas.Bool.{cond_both}
use Rattle.std.proofs.lemmas.Bool.Decides.{nat_tests}
use Rattle.boss_model.specs.declared.answer.Answer.TheVariants as answer
use Rattle.boss_model.specs.declared.command.Command.{Command}
use Rattle.boss_model.specs.declared.command.Command.TheVariants as command
use Rattle.boss_model.specs.declared.state.Actuator.{Actuator}
use Rattle.boss_model.specs.Catalogue.{driver_of}
use Rattle.boss_model.specs.Devices.{proxy_of, hand_out, wanting}
use Rattle.boss_model.specs.Limits.{last_moment}
use Rattle.boss_model.specs.Lists.{member}
use Rattle.boss_model.specs.Machine.{ticked, pass_time, settle_after, step}
use Rattle.boss_model.specs.Machine as machine
use Rattle.boss_model.specs.Reversions.{courses}
use Rattle.boss_model.specs.Settle.{places, is_retried, retry, is_moved}
use Rattle.boss_model.specs.Sound.{IsWant, IsSound}
use Rattle.boss_model.specs.State.{State}
use Rattle.boss_model.specs.Time.{due, moment_of, tick_to}
use Rattle.law_machine.specs.Draining.{reported, serve, serve_if, drain, load, weight, IsWantOf}
use Rattle.law_time.proofs.Coming.{now_after-within, later-first}
use Rattle.law_machine.proofs.Draining.{find-some, find-member, wanted-point, none-wanted, served-found}
use Rattle.law_time.proofs.Places.{member-each, member-wanted_anew}
use Rattle.law_machine.proofs.Resting.{IsResting, pass-resting, waiting-passed}
use Rattle.law_soundness.proofs.StepSound.{passed-sound}
use Rattle.law_machine.proofs.Targets.{none-due}

-- ---- lists

find-passes : {X : Type 0} (test : X → Bool) (xs : List X) (x : X) → find test xs ≡ Some x → test x ≡ true
find-passes test [] x found = cc
find-passes test (y ∷ ys) x found = cond_both (test y) (Some y) (find test ys) (λ f. f ≡ Some x → test x ≡ true)
    (λ passed e. let same : y ≡ x = cc in subst (λ z. test z ≡ true) same passed) (λ _ e. find-passes test ys x e) found

any-member : (test : ℕ → Bool) (x : ℕ) (xs : List ℕ) → test x ≡ true → member x xs ≡ true → list_any test xs ≡ true
any-member test x [] passed there = cc
any-member test x (y ∷ ys) passed there = cond_both (y == x) true false (λ b. (y == x) ≡ b → list_any test (y ∷ ys) ≡ true)
    (λ is _. let same : y ≡ x = grind (arith, nat_tests) in let here : test y ≡ true = ap test same ∙ passed in grind (arith))
    (λ other _. grind (arith, any-member test x ys passed)) (grind (arith))

-- ---- time passes before a round

module _ (plant : List Actuator) (n : ℕ) (s : State) where
  -- it takes no want away, though a point that moves stands last among the wants then
  pub still-wanted : (point : ℕ) → member point s.wants ≡ true → member point (pass_time plant n s).wants ≡ true
  still-wanted point there =
      let retries = places (is_retried n) s.proxies in
      let tried : member point (retry n (ticked n s)).wants ≡ true = member-wanted_anew point retries s.wants ∙ ap (λ b. b || member point retries) there in
      let moves = places (is_moved plant (tick_to n s.persistent)) (retry n (ticked n s)).proxies in
      member-wanted_anew point moves (retry n (ticked n s)).wants ∙ ap (λ b. b || member point moves) tried

  -- A driver that wants still wants when time has passed. Its first want may be another one then, and a lesser driver may
  -- want as well: the driver that wanted is served all the same.
  pub still-wanting : (driver : ℕ) → wanting plant s ≡ Some driver → (point : ℕ) × (find (λ p. driver_of plant p == driver) (pass_time plant n s).wants ≡ Some point)
  still-wanting driver is =
      let test = λ (p : ℕ). driver_of plant p == driver in
      let before = wanted-point plant s driver is in
      find-some test (pass_time plant n s).wants (any-member test before.0 (pass_time plant n s).wants (find-passes test s.wants before.0 before.1)
      (still-wanted before.0 (find-member test s.wants before.0 before.1)))

module _ (plant : List Actuator) (m : ℕ) (small : m ≤ last_moment) (s : State) (sound : IsSound plant s) where
  abbrev n : ℕ
  n = moment_of s.persistent m

  abbrev passed : State
  passed = pass_time plant n s

  within : s.persistent.now ≤ n
  within = let bound : s.persistent.now ≤ max s.persistent.now m = omega arith in bound

  passed-rests : IsResting plant m n passed
  passed-rests =
      let now : s.persistent.now ≤ last_moment = sound.persistent.now in
      let last : (tick_to n s.persistent).now ≤ n = now_after-within n s.persistent.now (courses s.persistent.pending s.persistent.leases) s.persistent.txns within in
      let first : s.persistent.now ≤ (tick_to n s.persistent).now = later-first s.persistent.now (due n s.persistent) in
      record {
        sound = passed-sound plant n s within (omega arith) sound;
        moment = omega arith;
        nothing = none-due plant s.persistent n sound.persistent within;
        waiting = waiting-passed plant n s;
      }

  -- a step does the same once time has passed up to its moment
  passed-step : (session : ℕ) (c : Command) → step plant session c m s ≡ step plant session c m passed
  unfolding step
  passed-step session c = sym (
      (λ i. settle_after plant (machine.act plant session (passed-rests.moment i) c (pass_time plant (passed-rests.moment i) passed)))
      ∙ ap (λ t. settle_after plant (machine.act plant session n c t)) (pass-resting plant m n passed passed-rests))

  passed-serve : (driver : ℕ) (ok : Bool) → serve plant m ok driver s ≡ serve plant m ok driver passed
  passed-serve driver ok = ap (λ r. reported plant m ok r.answer r.state) (passed-step 0 (command.Next driver))

  weight-passed : weight plant m s ≡ load plant passed
  unfolding weight
  weight-passed = refl

-- time does nothing to a state at rest, and so its weight is its load
weight-resting : (plant : List Actuator) (m n : ℕ) (s : State) → IsResting plant m n s → weight plant m s ≡ load plant s
unfolding weight
weight-resting plant m n s rests = (λ i. load plant (pass_time plant (rests.moment i) s)) ∙ ap (load plant) (pass-resting plant m n s rests)

-- a round in which the least driver that has a want is served leaves a sound state that weighs less, whatever the device answers
pub round-lighter : (plant : List Actuator) (m : ℕ) (s : State) (driver : ℕ) (ok : Bool) → m ≤ last_moment → IsSound plant s → wanting plant s ≡ Some driver →
    IsSound plant (serve plant m ok driver s) × (weight plant m (serve plant m ok driver s) < weight plant m s)
round-lighter plant m s driver ok small sound is =
    let n = moment_of s.persistent m in
    let found = still-wanting plant n s driver is in
    let after = served-found plant m n small (pass_time plant n s) driver found.0 ok (passed-rests plant m small s sound) found.1 in
    let rests : IsResting plant m n (serve plant m ok driver s) = subst (IsResting plant m n) (sym (passed-serve plant m small s sound driver ok)) after.0 in
    let less : load plant (serve plant m ok driver s) < load plant (pass_time plant n s) =
    subst (λ t. load plant t < load plant (pass_time plant n s)) (sym (passed-serve plant m small s sound driver ok)) after.1 in
    (rests.sound, omega (arith, weight-resting plant m n (serve plant m ok driver s) rests, weight-passed plant m small s sound, less))

-- the same of the two steps that a round is made of
pub report-lighter : (plant : List Actuator) (m : ℕ) (s : State) (driver point version : ℕ) (value : ℤ) (ok : Bool) → m ≤ last_moment → IsSound plant s → wanting plant s ≡ Some driver →
    (step plant 0 (command.Next driver) m s).answer ≡ answer.Want point version value →
    IsSound plant (step plant 0 (command.Report point version ok) m (step plant 0 (command.Next driver) m s).state).state
    × (weight plant m (step plant 0 (command.Report point version ok) m (step plant 0 (command.Next driver) m s).state).state < weight plant m s)
report-lighter plant m s driver point version value ok small sound is asked =
    subst (λ t. IsSound plant t × (weight plant m t < weight plant m s)) (ap (λ given. reported plant m ok given (step plant 0 (command.Next driver) m s).state) asked)
    (round-lighter plant m s driver ok small sound is)

-- what a driver that wants is given, though time passes before it is
pub want-of : (plant : List Actuator) (m : ℕ) (s : State) (driver : ℕ) → m ≤ last_moment → IsSound plant s → wanting plant s ≡ Some driver →
    IsWantOf plant driver (step plant 0 (command.Next driver) m s).answer
unfolding step
want-of plant m s driver small sound is =
    let n = moment_of s.persistent m in
    let passed = pass_time plant n s in
    let rests = passed-rests plant m small s sound in
    let found = still-wanting plant n s driver is in
    let wanted = find-member (λ p. driver_of plant p == driver) passed.wants found.0 found.1 in
    let want = member-each (IsWant passed.proxies) found.0 passed.wants rests.sound.wants wanted in
    let driven : (driver_of plant found.0 == driver) ≡ true = find-passes (λ p. driver_of plant p == driver) passed.wants found.0 found.1 in
    record {
      point = found.0;
      version = (proxy_of passed.proxies found.0).version;
      value = (proxy_of passed.proxies found.0).commanded;
      asks = ap (λ f. (hand_out f passed).answer) found.1;
      driven = grind (arith, nat_tests);
      known = subst (λ k. found.0 < k) rests.sound.proxies want.known;
    }

-- ---- rounds until there is no want left

module _ (plant : List Actuator) (m : ℕ) (small : m ≤ last_moment) where
  none-drained : (results : List Bool) (s : State) → wanting plant s ≡ None → (drain plant m results s).wants ≡ s.wants
  none-drained [] s none = refl
  none-drained (ok ∷ results) s none = ap (λ w. (drain plant m results (serve_if plant m ok w s)).wants) none ∙ none-drained results s none

  pub drained : (results : List Bool) (s : State) → IsSound plant s → weight plant m s ≤ length results → (drain plant m results s).wants ≡ []
  drained [] s sound few = last (wanting plant s) refl
    where
      last : (driver : Option ℕ) → wanting plant s ≡ driver → s.wants ≡ []
      last None is = none-wanted plant s.wants is
      last (Some driver) is = absurd (omega (arith, (round-lighter plant m s driver true small sound is).1))
  drained (ok ∷ results) s sound few = round (wanting plant s) refl (λ t next less. drained results t next less)
    where
      round : (driver : Option ℕ) → wanting plant s ≡ driver → ((t : State) → IsSound plant t → weight plant m t ≤ length results → (drain plant m results t).wants ≡ []) →
          (drain plant m results (serve_if plant m ok (wanting plant s) s)).wants ≡ []
      round None is go = ap (λ w. (drain plant m results (serve_if plant m ok w s)).wants) is ∙ none-drained results s is ∙ none-wanted plant s.wants is
      round (Some driver) is go =
          let after = round-lighter plant m s driver ok small sound is in
          ap (λ w. (drain plant m results (serve_if plant m ok w s)).wants) is ∙ go (serve plant m ok driver s) after.0 (omega (arith, after.1))

pub draining-ends : (plant : List Actuator) (s : State) (m : ℕ) → IsSound plant s → m ≤ last_moment →
    (count : ℕ) × ((results : List Bool) → count ≤ length results → (drain plant m results s).wants ≡ [])
draining-ends plant s m sound small = (weight plant m s, λ results many. drained plant m small results s sound many)
