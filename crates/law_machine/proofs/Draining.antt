-- A want that is served takes a want away, or leases.
use Rattle.std.proofs.Common.{◌≡◌, ℕ, suc, ◌+◌, ◌*◌, ◌<◌, ◌≤◌, ◌==◌, max, nat_lt, List, [], ◌∷◌, length, map, set, Bool, true, false, not, cond, Option, Some, None, refl, ap, sym, ◌∙◌, subst, arith, zero-add}
use Rattle.std.specs.List.{filter, find, AllByRecursion, list_any}
use Rattle.std.proofs.Math.ListN.{length-set}
use Rattle.std.proofs.Math.Nat.{mul-le-mul_right}
use Rattle.std.proofs.lemmas.Bool.{cond_both}
use Rattle.std.proofs.lemmas.Bool.Decides.{nat_tests}
use Rattle.boss_model.specs.declared.answer.Answer.TheVariants as answer
use Rattle.boss_model.specs.declared.command.Command.TheVariants as command
use Rattle.boss_model.specs.declared.command.Policy.{Policy}
use Rattle.boss_model.specs.declared.command.Policy.TheVariants.{Abort, Keep}
use Rattle.boss_model.specs.declared.state.Actuator.{Actuator}
use Rattle.boss_model.specs.declared.state.Lease.{Lease}
use Rattle.boss_model.specs.declared.state.Proxy.{Proxy}
use Rattle.boss_model.specs.Catalogue.{driver_of}
use Rattle.boss_model.specs.Devices.{Reply, proxy_of, hand_out, next, wanting, is_current, taken, not_taken, faulted_first, heard, report}
use Rattle.boss_model.specs.Ends.{is_of, shortened_if, faulted_under, faulted}
use Rattle.boss_model.specs.Limits.{last_moment}
use Rattle.boss_model.specs.Lists.{without}
use Rattle.boss_model.specs.Machine.{pass_time, settle_after, step}
use Rattle.boss_model.specs.Order.{least}
use Rattle.boss_model.specs.Settle.{settle}
use Rattle.boss_model.specs.Sound.{IsWant, IsSound}
use Rattle.boss_model.specs.State.{Persistent, State}
use Rattle.boss_model.specs.Target.{in_force, target}
use Rattle.boss_model.specs.Time.{live}
use Rattle.boss_model.proofs.Members.{member-without_same}
use Rattle.law_machine.specs.Draining.{reported, serve, load}
use Rattle.law_time.proofs.Filters.{any-map, few-filter}
use Rattle.law_time.proofs.NothingDue.{nothing-due}
use Rattle.law_time.proofs.Orders.{each-map, each-filter, each-passed, least-of}
use Rattle.law_time.proofs.Places.{at-most, member-each, proxy_of-set, proxy_of-other}
use Rattle.law_machine.proofs.Resting.{IsResting, IsWaiting, settled-at, settle-none, pass-resting, resting-step}
use Rattle.law_soundness.proofs.SubmitSound.{left-live}
use Rattle.law_machine.proofs.Targets.{target-stays}

-- ---- lists

-- a list without those that pass is shorter, if one does
shorter : {X : Type 0} (test : X → Bool) (xs : List X) → list_any test xs ≡ true → length (filter (λ x. not (test x)) xs) < length xs
shorter test [] some = cc
shorter test (x ∷ xs) some = cond_both (test x) true false (λ b. test x ≡ b → length (filter (λ y. not (test y)) (x ∷ xs)) < suc (length xs))
    (λ yes _. let out : filter (λ y. not (test y)) (x ∷ xs) ≡ filter (λ y. not (test y)) xs = grind (arith) in omega (arith, ap length out, few-filter (λ y. not (test y)) xs))
    (λ no _. let kept : filter (λ y. not (test y)) (x ∷ xs) ≡ x ∷ filter (λ y. not (test y)) xs = grind (arith) in
    let rest : length (filter (λ y. not (test y)) xs) < length xs = shorter test xs (grind (arith)) in omega (arith, ap length kept)) (grind (arith))

some-of : {X : Type 0} (test : X → X → Bool) → ((x : X) → test x x ≡ true) → (xs : List X) → AllByRecursion (λ x. list_any (test x) xs ≡ true) xs
some-of test self [] = tt
some-of test self (x ∷ xs) = (grind (arith, self x), each-map (λ y. list_any (test y) xs ≡ true) (λ y. list_any (test y) (x ∷ xs) ≡ true) (λ y there. grind (arith)) xs (some-of test self xs))

few-wants : (plant : List Actuator) (s : State) → IsSound plant s → length s.wants ≤ length plant
few-wants plant s sound = at-most (length plant) s.wants sound.once
    (each-map (IsWant s.proxies) (λ k. k < length plant) (λ k is. let known : k < length s.proxies = is.known in omega (arith, sound.proxies)) s.wants sound.wants)

-- ---- the want that is handed out

pub find-some : {X : Type 0} (test : X → Bool) (xs : List X) → list_any test xs ≡ true → (x : X) × (find test xs ≡ Some x)
find-some test [] some = cc
find-some {X = X} test (x ∷ xs) some = cond_both (test x) (Some x) (find test xs) (λ f. test x ≡ test x → (y : X) × (f ≡ Some y)) (λ _ _. (x, refl)) (λ no _. find-some test xs (grind (arith))) refl

pub find-member : (test : ℕ → Bool) (xs : List ℕ) (x : ℕ) → find test xs ≡ Some x → list_any (λ y. y == x) xs ≡ true
find-member test [] x found = cc
find-member test (y ∷ ys) x found = cond_both (test y) (Some y) (find test ys) (λ f. f ≡ Some x → list_any (λ z. z == x) (y ∷ ys) ≡ true)
    (λ _ e. let same : y ≡ x = cc in grind (arith, nat_tests)) (λ _ e. grind (arith, find-member test ys x e)) found

-- a driver that wants has a want
pub wanted-point : (plant : List Actuator) (s : State) (driver : ℕ) → wanting plant s ≡ Some driver → (point : ℕ) × (find (λ p. driver_of plant p == driver) s.wants ≡ Some point)
wanted-point plant s driver is = find-some (λ p. driver_of plant p == driver) s.wants
    (sym (any-map (λ d. d == driver) (driver_of plant) s.wants)
    ∙ least-of (λ d. list_any (λ y. y == d) (map (driver_of plant) s.wants) ≡ true) (λ d. d) (map (driver_of plant) s.wants) driver
    (some-of (λ d y. y == d) (λ d. grind (arith, nat_tests)) (map (driver_of plant) s.wants)) is)

pub none-wanted : (plant : List Actuator) (wants : List ℕ) → least (λ d. d) (map (driver_of plant) wants) ≡ None → wants ≡ []
none-wanted plant [] none = refl
none-wanted plant (w ∷ ws) none = cc

-- ---- one round

module _ (plant : List Actuator) (m n : ℕ) (small : m ≤ last_moment) where
  hand-step : (s : State) (driver point : ℕ) → IsResting plant m n s → find (λ p. driver_of plant p == driver) s.wants ≡ Some point →
      step plant 0 (command.Next driver) m s
      ≡ record { answer = answer.Want point (proxy_of s.proxies point).version (proxy_of s.proxies point).commanded; state = record s { wants = without point s.wants } }
  unfolding step
  hand-step s driver point rests found =
      (λ i. settle_after plant (next plant driver (pass_time plant (rests.moment i) s)))
      ∙ ap (λ t. settle_after plant (next plant driver t)) (pass-resting plant m n s rests)
      ∙ ap (λ f. settle_after plant (hand_out f s)) found
      ∙ ap (λ t. record { answer = answer.Want point (proxy_of s.proxies point).version (proxy_of s.proxies point).commanded; state = t })
      (settle-none plant (record s { wants = without point s.wants })
      (λ k within. settled-at plant s.persistent 0 s.proxies rests.sound.commanded k within ∙ ap (target plant s.persistent) (zero-add k)))

  hand-waits : (found : Option ℕ) (s : State) → ((k : ℕ) → k < length s.proxies → IsWaiting n (proxy_of s.proxies k)) →
      (k : ℕ) → k < length (hand_out found s).state.proxies → IsWaiting n (proxy_of (hand_out found s).state.proxies k)
  hand-waits None s waits = waits
  hand-waits (Some p) s waits = waits

  hand-rests : (s : State) (driver : ℕ) → IsResting plant m n s → IsResting plant m n (step plant 0 (command.Next driver) m s).state
  hand-rests s driver rests = resting-step plant 0 (command.Next driver) m n s rests.sound tt small rests.moment
      (subst (λ t. (k : ℕ) → k < length (next plant driver t).state.proxies → IsWaiting n (proxy_of (next plant driver t).state.proxies k)) (sym (pass-resting plant m n s rests))
      (hand-waits (find (λ p. driver_of plant p == driver) s.wants) s rests.waiting))

  set-waits : (ps : List Proxy) (point : ℕ) (q : Proxy) → IsWaiting n q → ((k : ℕ) → k < length ps → IsWaiting n (proxy_of ps k)) →
      (j : ℕ) → j < length (set ps point q) → IsWaiting n (proxy_of (set ps point q) j)
  set-waits ps point q here waits j known = cond_both (j == point) true false (λ b. (j == point) ≡ b → IsWaiting n (proxy_of (set ps point q) j))
      (λ is _. let same : j ≡ point = grind (arith, nat_tests) in
      subst (λ i. IsWaiting n (proxy_of (set ps point q) i)) (sym same) (subst (IsWaiting n) (sym (proxy_of-set ps point q (omega (arith, length-set ps point q)))) here))
      (λ other _. subst (IsWaiting n) (sym (proxy_of-other ps point j q other)) (waits j (omega (arith, length-set ps point q)))) (grind (arith))

  heard-waits : (point : ℕ) (ok : Bool) (s : State) → ((k : ℕ) → k < length s.proxies → IsWaiting n (proxy_of s.proxies k)) →
      (k : ℕ) → k < length (heard n point ok s).proxies → IsWaiting n (proxy_of (heard n point ok s).proxies k)
  heard-waits point true s waits = set-waits s.proxies point (taken n (proxy_of s.proxies point)) (λ failed. cc) waits
  heard-waits point false s waits = set-waits s.proxies point (not_taken n (proxy_of s.proxies point)) (λ failed. omega arith) waits

  report-waits : (point version : ℕ) (ok : Bool) (s : State) → ((k : ℕ) → k < length s.proxies → IsWaiting n (proxy_of s.proxies k)) →
      (k : ℕ) → k < length (report n point version ok s).state.proxies → IsWaiting n (proxy_of (report n point version ok s).state.proxies k)
  report-waits point version ok s waits = cond_both {A = Reply} (is_current point version s) (record { answer = answer.Noted true; state = heard n point ok s }) (record { answer = answer.Noted false; state = s })
      (λ reply. (k : ℕ) → k < length reply.state.proxies → IsWaiting n (proxy_of reply.state.proxies k)) (λ _. heard-waits point ok s waits) (λ _. waits)

  report-rests : (s : State) (point version : ℕ) (ok : Bool) → point < length plant → IsResting plant m n s → IsResting plant m n (step plant 0 (command.Report point version ok) m s).state
  report-rests s point version ok known rests = resting-step plant 0 (command.Report point version ok) m n s rests.sound known small rests.moment
      (subst (λ t. (k : ℕ) → k < length (report n point version ok t).state.proxies → IsWaiting n (proxy_of (report n point version ok t).state.proxies k)) (sym (pass-resting plant m n s rests))
      (report-waits point version ok s rests.waiting))

  report-step : (s : State) (point version : ℕ) (ok : Bool) → IsResting plant m n s → is_current point version s ≡ true →
      (step plant 0 (command.Report point version ok) m s).state ≡ settle plant (heard n point ok s)
  unfolding step
  report-step s point version ok rests current =
      (λ i. settle plant (report (rests.moment i) point version ok (pass_time plant (rests.moment i) s)).state)
      ∙ ap (λ t. settle plant (report n point version ok t).state) (pass-resting plant m n s rests)
      ∙ ap (λ b. settle plant (cond {A = Reply} b (record { answer = answer.Noted true; state = heard n point ok s }) (record { answer = answer.Noted false; state = s })).state) current

  -- a device's report that leaves the targets leaves the wants
  marked-stays : (s : State) (d : Persistent) (point : ℕ) (q : Proxy) → IsResting plant m n s → point < length s.proxies → q.commanded ≡ (proxy_of s.proxies point).commanded →
      ((k : ℕ) → target plant d k ≡ target plant s.persistent k) → settle plant (record s { persistent = d; proxies = set s.proxies point q }) ≡ record s { persistent = d; proxies = set s.proxies point q }
  marked-stays s d point q rests known same targets = settle-none plant (record s { persistent = d; proxies = set s.proxies point q }) (λ k within.
      let before : (proxy_of s.proxies k).commanded ≡ target plant s.persistent k =
      settled-at plant s.persistent 0 s.proxies rests.sound.commanded k (omega (arith, length-set s.proxies point q)) ∙ ap (target plant s.persistent) (zero-add k) in
      cond_both (k == point) true false (λ b. (k == point) ≡ b → (proxy_of (set s.proxies point q) k).commanded ≡ target plant d k)
      (λ is _. let here : k ≡ point = grind (arith, nat_tests) in
      ap (λ j. (proxy_of (set s.proxies point q) j).commanded) here ∙ ap (λ p. p.commanded) (proxy_of-set s.proxies point q known) ∙ same
      ∙ ap (λ j. (proxy_of s.proxies j).commanded) (sym here) ∙ before ∙ sym (targets k))
      (λ other _. ap (λ p. p.commanded) (proxy_of-other s.proxies point k q other) ∙ before ∙ sym (targets k)) (grind (arith)))

  -- a lighter load: no more leases and fewer wants, or fewer leases
  fewer-wants : (a b w v : ℕ) → a ≡ b → w < v → a * suc (length plant) + w < b * suc (length plant) + v
  fewer-wants a b w v same less = let products : a * suc (length plant) ≡ b * suc (length plant) = ap (λ k. k * suc (length plant)) same in omega arith

  fewer-leases : (a b w v : ℕ) → a < b → w ≤ length plant → a * suc (length plant) + w < b * suc (length plant) + v
  fewer-leases a b w v less few =
      let product : suc a * suc (length plant) ≤ b * suc (length plant) = mul-le-mul_right (suc (length plant)) (let next : suc a ≤ b = omega arith in next) in
      let one_more : suc a * suc (length plant) ≡ a * suc (length plant) + suc (length plant) = omega arith in
      omega arith

  module _ (s : State) (point : ℕ) (rests : IsResting plant m n s) (known : point < length s.proxies) (wanted : list_any (λ y. y == point) s.wants ≡ true)
      (rests1 : IsResting plant m n (record s { wants = without point s.wants })) where
    abbrev s1 : State
    s1 = record s { wants = without point s.wants }

    less : length (without point s.wants) < length s.wants
    less = shorter (λ y. y == point) s.wants wanted

    -- a mark that leaves leases and targets
    lighter-mark : (d : Persistent) (q : Proxy) → q.commanded ≡ (proxy_of s.proxies point).commanded → length d.leases ≡ length s.persistent.leases →
        ((k : ℕ) → target plant d k ≡ target plant s.persistent k) → load plant (settle plant (record s1 { persistent = d; proxies = set s.proxies point q })) < load plant s
    lighter-mark d q same leases targets = subst (λ t. load plant t < load plant s) (sym (marked-stays s1 d point q rests1 known same targets))
        (fewer-wants (length d.leases) (length s.persistent.leases) (length (without point s.wants)) (length s.wants) leases less)

    within : s.persistent.now ≤ n
    within = let moment : max s.persistent.now m ≡ n = rests.moment in omega arith

    all-live : AllByRecursion (λ lease. n < lease.until) s.persistent.leases
    all-live = subst (AllByRecursion (λ lease. n < lease.until)) (ap (λ d. d.leases) (nothing-due plant s.persistent n rests.sound.persistent within rests.nothing))
        (each-passed (λ lease. n < lease.until) (λ lease. nat_lt n lease.until) (λ lease passed. grind (arith, nat_tests)) s.persistent.leases)

    lighter-fault : (policy : Policy) (lease : Lease) (q : Proxy) → q.commanded ≡ (proxy_of s.proxies point).commanded → list_any (is_of lease.txn) s.persistent.leases ≡ true →
        length (settle plant (record s1 { persistent = faulted_under policy lease n s.persistent; proxies = set s.proxies point q })).wants ≤ length plant →
        load plant (settle plant (record s1 { persistent = faulted_under policy lease n s.persistent; proxies = set s.proxies point q })) < load plant s
    lighter-fault Keep lease q same held few = lighter-mark (faulted_under Keep lease n s.persistent) q same refl
        (λ k. target-stays plant s.persistent n k rests.sound.persistent within rests.nothing)
    lighter-fault Abort lease q same held few =
        let w = length (settle plant (record s1 { persistent = faulted_under Abort lease n s.persistent; proxies = set s.proxies point q })).wants in
        let fewer : length (live n (map (shortened_if (is_of lease.txn) n) s.persistent.leases)) < length s.persistent.leases =
        subst (λ ls. length ls < length s.persistent.leases) (sym (left-live (is_of lease.txn) n s.persistent.leases all-live)) (shorter (is_of lease.txn) s.persistent.leases held) in
        fewer-leases (length (live n (map (shortened_if (is_of lease.txn) n) s.persistent.leases))) (length s.persistent.leases) w (length s.wants) fewer few

    lighter-found : (found : Option Lease) (q : Proxy) → in_force s.persistent.leases point ≡ found → q.commanded ≡ (proxy_of s.proxies point).commanded →
        length (settle plant (record s1 { persistent = faulted found n s.persistent; proxies = set s.proxies point q })).wants ≤ length plant →
        load plant (settle plant (record s1 { persistent = faulted found n s.persistent; proxies = set s.proxies point q })) < load plant s
    lighter-found None q is same few = lighter-mark s.persistent q same refl (λ k. refl)
    lighter-found (Some lease) q is same few = lighter-fault lease.policy lease q same
        (least-of (λ l. list_any (is_of l.txn) s.persistent.leases ≡ true) (λ l. l.priority) (filter (λ l. l.point == point) s.persistent.leases) lease
        (each-filter (λ l. list_any (is_of l.txn) s.persistent.leases ≡ true) (λ l. l.point == point) s.persistent.leases (some-of (λ x y. y.txn == x.txn) (λ x. grind (arith, nat_tests)) s.persistent.leases)) is) few

    lighter-heard : (ok : Bool) → length (settle plant (heard n point ok s1)).wants ≤ length plant → load plant (settle plant (heard n point ok s1)) < load plant s
    lighter-heard true few = lighter-mark s.persistent (taken n (proxy_of s.proxies point)) refl refl (λ k. refl)
    lighter-heard false few = by (proxy_of s.proxies point).failed few
      where
        by : (failed : Bool) →
            length (settle plant (record s1 { persistent = faulted_first failed point n s.persistent; proxies = set s.proxies point (not_taken n (proxy_of s.proxies point)) })).wants ≤ length plant →
            load plant (settle plant (record s1 { persistent = faulted_first failed point n s.persistent; proxies = set s.proxies point (not_taken n (proxy_of s.proxies point)) })) < load plant s
        by true few_wants = lighter-mark s.persistent (not_taken n (proxy_of s.proxies point)) refl refl (λ k. refl)
        by false few_wants = lighter-found (in_force s.persistent.leases point) (not_taken n (proxy_of s.proxies point)) refl refl few_wants

  -- a served want leaves a state at rest with a lighter load
  pub served-found : (s : State) (driver point : ℕ) (ok : Bool) → IsResting plant m n s → find (λ p. driver_of plant p == driver) s.wants ≡ Some point →
      IsResting plant m n (serve plant m ok driver s) × (load plant (serve plant m ok driver s) < load plant s)
  served-found s driver point ok rests found =
      let version = (proxy_of s.proxies point).version in
      let s1 : State = record s { wants = without point s.wants } in
      let asked = hand-step s driver point rests found in
      let rests1 : IsResting plant m n s1 = subst (IsResting plant m n) (ap (λ r. r.state) asked) (hand-rests s driver rests) in
      let wanted : list_any (λ y. y == point) s.wants ≡ true = find-member (λ p. driver_of plant p == driver) s.wants point found in
      let known : point < length s.proxies = (member-each (IsWant s.proxies) point s.wants rests.sound.wants wanted).known in
      let there : point < length plant = omega (arith, rests.sound.proxies) in
      let current : is_current point version s1 ≡ true = grind (arith, nat_tests, member-without_same point s.wants) in
      let whole : serve plant m ok driver s ≡ (step plant 0 (command.Report point version ok) m s1).state = ap (λ r. reported plant m ok r.answer r.state) asked in
      let rests2 : IsResting plant m n (step plant 0 (command.Report point version ok) m s1).state = report-rests s1 point version ok there rests1 in
      let step2 : (step plant 0 (command.Report point version ok) m s1).state ≡ settle plant (heard n point ok s1) = report-step s1 point version ok rests1 current in
      let few : length (settle plant (heard n point ok s1)).wants ≤ length plant = subst (λ t. length t.wants ≤ length plant) step2 (few-wants plant (step plant 0 (command.Report point version ok) m s1).state rests2.sound) in (
        subst (IsResting plant m n) (sym whole) rests2,
        subst (λ t. load plant t < load plant s) (sym (whole ∙ step2)) (lighter-heard s point rests known wanted rests1 ok few),
      )
