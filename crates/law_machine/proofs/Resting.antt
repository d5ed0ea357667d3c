-- A state in which nothing is due at a moment: a second step at this moment finds nothing that time would do.
use Rattle.std.proofs.Common.{◌≡◌, ℕ, zero, suc, ◌+◌, ◌<◌, ◌≤◌, max, nat_lt, nat_le, List, [], ◌∷◌, length, map, Bool, true, false, not, cond, refl, ap, sym, ◌∙◌, subst, arith, append-nil, zero-add}
use Rattle.std.specs.List.{filter, enumerate_from, AllByRecursion}
use Rattle.std.specs.Ordering.{int_eq}
use Rattle.std.proofs.lemmas.Bool.{cond_both}
use Rattle.std.proofs.lemmas.Bool.Decides.{nat_tests, Decides-int_eq}
use Rattle.boss_model.specs.declared.answer.Mark.TheVariants as mark
use Rattle.boss_model.specs.declared.command.Command.{Command}
use Rattle.boss_model.specs.declared.state.Actuator.{Actuator}
use Rattle.boss_model.specs.declared.state.Proxy.{Proxy}
use Rattle.boss_model.specs.Devices.{proxy_of}
use Rattle.boss_model.specs.Happenings.{Happening, coming, rank}
use Rattle.boss_model.specs.Limits.{last_moment}
use Rattle.boss_model.specs.Lists.{member}
use Rattle.boss_model.specs.Machine.{ticked, pass_time, settle_after, step}
use Rattle.boss_model.specs.Machine as machine
use Rattle.boss_model.specs.Reversions.{courses}
use Rattle.boss_model.specs.Same.{same_persistent}
use Rattle.boss_model.specs.Settle.{places, changed_if, wanted_anew, is_failed, is_retried, retried, retry, is_moved, recommanded, settle}
use Rattle.boss_model.specs.Sound.{Settled, IsAllowed, IsSound}
use Rattle.boss_model.specs.State.{Persistent, State}
use Rattle.boss_model.specs.Target.{target}
use Rattle.boss_model.specs.Time.{due, moment_of, tick_to}
use Rattle.law_soundness.proofs.ActSound.{tick-length}
use Rattle.law_time.proofs.Coming.{all_of, now_after-within, later-first}
use Rattle.law_time.proofs.Filters.{filter-all, filter-none, each-always}
use Rattle.law_time.proofs.NothingDue.{nothing-due}
use Rattle.law_time.proofs.Orders.{each-in_order, each-passed}
use Rattle.law_time.proofs.Places.{length-changed, proxy_of-changed, change_at}
use Rattle.law_machine.proofs.Replay.{act-acts}
use Rattle.law_machine.proofs.SameDecides.{persistent-equal}
use Rattle.law_soundness.proofs.StepSound.{step-sound}
use Rattle.law_machine.proofs.Targets.{none-due}

-- ---- proxies that no test picks

module _ (test : ℕ × Proxy → Bool) (change : ℕ × Proxy → Proxy) where
  none-changed_from : (place : ℕ) (ps : List Proxy) → ((k : ℕ) → k < length ps → test (place + k, proxy_of ps k) ≡ false) →
      (map (change_at test change) (enumerate_from place ps) ≡ ps) × (filter test (enumerate_from place ps) ≡ [])
  none-changed_from place [] none = (refl, refl)
  none-changed_from place (p ∷ ps) none =
      let here : test (place, p) ≡ false = ap (λ k. test (k, p)) (let same : place ≡ place + 0 = omega arith in same) ∙ none 0 (omega arith) in
      let rest = none-changed_from (place + 1) ps (λ k within. ap (λ j. test (j, proxy_of ps k)) (let same : place + 1 + k ≡ place + suc k = omega arith in same) ∙ none (suc k) (omega arith)) in
      ((λ i. cond (here i) (change (place, p)) p ∷ rest.0 i), ap (λ b. cond b ((place, p) ∷ filter test (enumerate_from (place + 1) ps)) (filter test (enumerate_from (place + 1) ps))) here ∙ rest.1)

  pub none-changed : (ps : List Proxy) → ((k : ℕ) → k < length ps → test (k, proxy_of ps k) ≡ false) → (changed_if test change ps ≡ ps) × (places test ps ≡ [])
  none-changed ps none =
      let all = none-changed_from 0 ps (λ k within. ap (λ j. test (j, proxy_of ps k)) (zero-add k) ∙ none k within) in
      (all.0, ap (map (λ (e : ℕ × Proxy). e.0)) all.1)

wanted-none : (wants : List ℕ) → wanted_anew [] wants ≡ wants
wanted-none wants = append-nil (filter (λ want. not (member want [])) wants) ∙ filter-all (λ want. not (member want [])) wants (each-always (λ want. not (member want []) ≡ true) (λ want. refl) wants)

pub settled-at : (plant : List Actuator) (d : Persistent) (place : ℕ) (ps : List Proxy) → Settled plant d place ps → (k : ℕ) → k < length ps → (proxy_of ps k).commanded ≡ target plant d (place + k)
settled-at plant d place [] all k within = absurd (omega arith)
settled-at plant d place (p ∷ ps) all zero within = all.0 ∙ ap (target plant d) (let same : place ≡ place + 0 = omega arith in same)
settled-at plant d place (p ∷ ps) all (suc k) within = settled-at plant d (place + 1) ps all.1 k (omega arith) ∙ ap (target plant d) (let same : place + 1 + k ≡ place + suc k = omega arith in same)

-- settling a state in which every point has its target leaves it
pub settle-none : (plant : List Actuator) (s : State) → ((k : ℕ) → k < length s.proxies → (proxy_of s.proxies k).commanded ≡ target plant s.persistent k) → settle plant s ≡ s
settle-none plant s same =
    let none = none-changed (is_moved plant s.persistent) (recommanded plant s.persistent) s.proxies
    (λ k within. let equal : int_eq (target plant s.persistent k) (proxy_of s.proxies k).commanded ≡ true = (Decides-int_eq (target plant s.persistent k) (proxy_of s.proxies k).commanded).1 (sym (same k within)) in grind (arith)) in
    λ i. record s { proxies = none.0 i; wants = (ap (λ points. wanted_anew points s.wants) none.1 ∙ wanted-none s.wants) i }

-- ---- rest

-- a failed device is not to be tried again by n
abbrev pub IsWaiting : ℕ → Proxy → Type 0
IsWaiting n proxy = is_failed proxy.mark ≡ true → n < proxy.retry_at

pub record IsResting (plant : List Actuator) (m n : ℕ) (s : State) : Type 0 where
  pub sound : IsSound plant s
  pub moment : moment_of s.persistent m ≡ n
  pub nothing : due n s.persistent ≡ []
  pub waiting : (k : ℕ) → k < length s.proxies → IsWaiting n (proxy_of s.proxies k)

-- time does nothing to a state at rest
pub pass-resting : (plant : List Actuator) (m n : ℕ) (s : State) → IsResting plant m n s → pass_time plant n s ≡ s
pass-resting plant m n s rests =
    let moment : max s.persistent.now m ≡ n = rests.moment in
    let tick : tick_to n s.persistent ≡ s.persistent = nothing-due plant s.persistent n rests.sound.persistent (omega arith) rests.nothing in
    let none = none-changed (is_retried n) retried s.proxies
    (λ k within. let waits : is_failed (proxy_of s.proxies k).mark ≡ true → n < (proxy_of s.proxies k).retry_at = rests.waiting k within in grind (arith, nat_tests)) in
    ap (λ d. settle plant (retry n (record s { persistent = d }))) tick
    ∙ ap (settle plant) (λ i. record s { proxies = none.0 i; wants = (ap (λ points. wanted_anew points s.wants) none.1 ∙ wanted-none s.wants) i })
    ∙ settle-none plant s (λ k within. settled-at plant s.persistent 0 s.proxies rests.sound.commanded k within ∙ ap (target plant s.persistent) (zero-add k))

-- a test that fails on all pending ones leaves failed ones waiting
waiting-changed : (test : ℕ × Proxy → Bool) (change : ℕ × Proxy → Proxy) (n : ℕ) (ps : List Proxy) → ((place : ℕ × Proxy) → (change place).mark ≡ mark.Pending) →
    ((k : ℕ) → k < length ps → test (k, proxy_of ps k) ≡ false → IsWaiting n (proxy_of ps k)) → (k : ℕ) → k < length (changed_if test change ps) → IsWaiting n (proxy_of (changed_if test change ps) k)
waiting-changed test change n ps pending waits k within =
    let known : k < length ps = omega (arith, length-changed test change ps) in
    let here : proxy_of (changed_if test change ps) k ≡ change_at test change (k, proxy_of ps k) = proxy_of-changed test change k ps known in
    subst (IsWaiting n) (sym here) (cond_both (test (k, proxy_of ps k)) (change (k, proxy_of ps k)) (proxy_of ps k) (IsWaiting n)
    (λ _ failed. let not_failed : is_failed (change (k, proxy_of ps k)).mark ≡ false = ap is_failed (pending (k, proxy_of ps k)) in cc) (λ still. waits k known still))

pub waiting-settled : (plant : List Actuator) (n : ℕ) (s : State) → ((k : ℕ) → k < length s.proxies → IsWaiting n (proxy_of s.proxies k)) →
    (k : ℕ) → k < length (settle plant s).proxies → IsWaiting n (proxy_of (settle plant s).proxies k)
waiting-settled plant n s waits = waiting-changed (is_moved plant s.persistent) (recommanded plant s.persistent) n s.proxies (λ place. refl) (λ k known _. waits k known)

pub waiting-passed : (plant : List Actuator) (n : ℕ) (s : State) → (k : ℕ) → k < length (pass_time plant n s).proxies → IsWaiting n (proxy_of (pass_time plant n s).proxies k)
waiting-passed plant n s = waiting-settled plant n (retry n (ticked n s))
    (waiting-changed (is_retried n) retried n s.proxies (λ place. refl) (λ k known still failed. grind (arith, nat_tests)))

-- what was changed at n has nothing due up to n
due-now : (d : Persistent) (n : ℕ) → d.now ≡ n → due n d ≡ []
due-now d n now =
    let all = all_of (courses d.pending d.leases) d.txns in
    let Q = λ (h : Happening). nat_le h.at n ≡ false in
    filter-none (λ h. nat_le h.at n) (coming d.now (courses d.pending d.leases) d.txns) (each-in_order Q rank (filter (λ h. nat_lt d.now h.at) all)
    (each-passed Q (λ h. nat_lt d.now h.at) (λ h later. grind (arith, nat_tests)) all))

-- after a step at moment n nothing is left that time would do up to n, if its command leaves failed devices waiting
pub resting-step : (plant : List Actuator) (session : ℕ) (c : Command) (m n : ℕ) (s : State) → IsSound plant s → IsAllowed plant c → m ≤ last_moment → moment_of s.persistent m ≡ n →
    ((k : ℕ) → k < length (machine.act plant session n c (pass_time plant n s)).state.proxies → IsWaiting n (proxy_of (machine.act plant session n c (pass_time plant n s)).state.proxies k)) →
    IsResting plant m n (step plant session c m s).state
unfolding step
resting-step plant session c m n s sound allowed small moment waits =
    let time : max s.persistent.now m ≡ n = moment in
    let now : s.persistent.now ≤ last_moment = sound.persistent.now in
    let within : s.persistent.now ≤ n = omega arith in
    let early : n ≤ last_moment = omega arith in
    let ticked = tick_to n s.persistent in
    let passed = pass_time plant n s in
    let changed = (machine.act plant session n c passed).state.persistent in
    let last : ticked.now ≤ n = now_after-within n s.persistent.now (courses s.persistent.pending s.persistent.leases) s.persistent.txns within in
    let first : s.persistent.now ≤ ticked.now = later-first s.persistent.now (due n s.persistent) in
    let attached : AllByRecursion (λ a. a.process < length ticked.processes) s.attached =
    subst (λ k. AllByRecursion (λ a. a.process < k) s.attached) (sym (tick-length s.persistent n)) sound.attached in
    let acts : same_persistent ticked changed ≡ false → changed.now ≡ n = λ differs. (act-acts plant n session passed attached c allowed differs).0 in
    let whole : (max changed.now m ≡ n) × (due n changed ≡ []) =
    cond_both (same_persistent ticked changed) true false (λ b. same_persistent ticked changed ≡ b → (max changed.now m ≡ n) × (due n changed ≡ []))
    (λ same _. let equal : ticked ≡ changed = persistent-equal ticked changed same in
    (subst (λ d. max d.now m ≡ n) equal (omega arith), subst (λ d. due n d ≡ []) equal (none-due plant s.persistent n sound.persistent within)))
    (λ differs _. let at : changed.now ≡ n = acts differs in (omega arith, due-now changed n at)) (grind (arith)) in
    record {
      sound = step-sound plant session c m s allowed small sound;
      moment = subst (λ k. max (settle_after plant (machine.act plant session k c (pass_time plant k s))).state.persistent.now m ≡ n) (sym moment) whole.0;
      nothing = subst (λ k. due n (settle_after plant (machine.act plant session k c (pass_time plant k s))).state.persistent ≡ []) (sym moment) whole.1;
      waiting = subst (λ k. (j : ℕ) → j < length (settle_after plant (machine.act plant session k c (pass_time plant k s))).state.proxies → IsWaiting n (proxy_of (settle_after plant (machine.act plant session k c (pass_time plant k s))).state.proxies j))
          (sym moment) (waiting-settled plant n (machine.act plant session n c passed).state waits);
    }
