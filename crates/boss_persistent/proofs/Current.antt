-- What the devices were last told, before and after a command, and what the points are to have.
use Rattle.std.proofs.Common.{◌≡◌, ℕ, zero, suc, ◌+◌, ◌<◌, ◌==◌, nat_lt, ℤ, List, [], ◌∷◌, length, map, set, Bool, true, false, cond, Option, Some, None, refl, ap, ◌∙◌, zero-add, arith}
use Rattle.std.specs.Prelude.{find}
use Rattle.std.specs.List.{enumerate_from, filter}
use Rattle.std.specs.Option.{option_map}
use Rattle.std.proofs.lemmas.Bool.{cond_both}
use Rattle.boss_model.specs.declared.command.Command.{Command}
use Rattle.boss_model.specs.declared.command.Command.TheVariants as command
use Rattle.boss_model.specs.declared.state.Actuator.{Actuator}
use Rattle.boss_model.specs.declared.state.Lease.{Lease}
use Rattle.boss_model.specs.declared.state.Pending.{Pending}
use Rattle.boss_model.specs.declared.state.Proxy.{Proxy}
use Rattle.boss_model.specs.Catalogue.{driver_of}
use Rattle.boss_model.specs.Devices.{Reply, doubt, doubted, hand_out, is_current, is_doubted, not_taken, proxy_of, report, taken}
use Rattle.boss_model.specs.Ends.{gone}
use Rattle.boss_model.specs.Machine.{act, after, if_attached, joined, notices_asked, parted}
use Rattle.boss_model.specs.Order.{least, lesser}
use Rattle.boss_model.specs.Outcomes.{Outcome, refused, did}
use Rattle.boss_model.specs.Processes.{process_of}
use Rattle.boss_model.specs.Renew.{extended, extended_if}
use Rattle.boss_model.specs.Settle.{is_retried, retried}
use Rattle.boss_model.specs.Sound.{IsSound}
use Rattle.boss_model.specs.State.{State}
use Rattle.boss_model.specs.Target.{in_force, target, value_of}
use Rattle.boss_marks.specs.Marks.{Marks, retried_all}
use Rattle.law_time.proofs.Filters.{each-always, filter-map, filter-same}
use Rattle.law_time.proofs.Places.{proxy_of-changed}
use Rattle.law_machine.proofs.Resting.{settled-at}

-- ---- states

pub all-current : (plant : List Actuator) (s : State) → IsSound plant s → (k : ℕ) → k < length plant → (proxy_of s.proxies k).commanded ≡ target plant s.persistent k
all-current plant s sound k within =
    settled-at plant s.persistent 0 s.proxies sound.commanded k (omega (arith, sound.proxies)) ∙ ap (target plant s.persistent) (zero-add k)

-- a device that is tried again is told the same value
pub commanded-retried : (n : ℕ) (marks : Marks) (k : ℕ) → k < length marks.proxies → (proxy_of (retried_all n marks).proxies k).commanded ≡ (proxy_of marks.proxies k).commanded
commanded-retried n marks k within =
    let proxy = proxy_of marks.proxies k in
    ap (λ (p : Proxy). p.commanded) (proxy_of-changed (is_retried n) retried k marks.proxies within)
    ∙ cond_both (is_retried n (k, proxy)) (retried (k, proxy)) proxy (λ p. p.commanded ≡ proxy.commanded) (λ _. refl) (λ _. refl)

-- ---- no command tells a device another value

commanded-set : (ps : List Proxy) (point : ℕ) (q : Proxy) (k : ℕ) → q.commanded ≡ (proxy_of ps point).commanded → (proxy_of (set ps point q) k).commanded ≡ (proxy_of ps k).commanded
commanded-set [] point q k is = refl
commanded-set (p ∷ ps) zero q zero is = is
commanded-set (p ∷ ps) zero q (suc k) is = refl
commanded-set (p ∷ ps) (suc point) q zero is = refl
commanded-set (p ∷ ps) (suc point) q (suc k) is = commanded-set ps point q k is

commanded-changed : (test : ℕ × Proxy → Bool) (change : ℕ × Proxy → Proxy) → ((place : ℕ × Proxy) → (change place).commanded ≡ place.1.commanded) → (from : ℕ) (ps : List Proxy) (k : ℕ) →
    (proxy_of (map (λ place. cond (test place) (change place) place.1) (enumerate_from from ps)) k).commanded ≡ (proxy_of ps k).commanded
commanded-changed test change same from [] k = refl
commanded-changed test change same from (p ∷ ps) zero = cond_both (test (from, p)) (change (from, p)) p (λ q. q.commanded ≡ p.commanded) (λ _. same (from, p)) (λ _. refl)
commanded-changed test change same from (p ∷ ps) (suc k) = commanded-changed test change same (from + 1) ps k

module _ (s : State) where
  abbrev TellsTheSame : Reply → Type 0
  TellsTheSame reply = (k : ℕ) → (proxy_of reply.state.proxies k).commanded ≡ (proxy_of s.proxies k).commanded

  by-outcome : (outcome : Outcome) → TellsTheSame (after s outcome)
  by-outcome (refused why) k = refl
  by-outcome (did given d) k = refl

  by-joined : (session process : ℕ) (outcome : Outcome) → TellsTheSame (joined session process s outcome)
  by-joined session process (refused why) k = refl
  by-joined session process (did given d) k = refl

  by-parted : (session : ℕ) (outcome : Outcome) → TellsTheSame (parted session s outcome)
  by-parted session (refused why) k = refl
  by-parted session (did given d) k = refl

  by-held : (held : Option ℕ) (go : ℕ → Reply) → ((p : ℕ) → TellsTheSame (go p)) → TellsTheSame (if_attached held go s)
  by-held None go each k = refl
  by-held (Some p) go each k = each p k

  by-want : (found : Option ℕ) → TellsTheSame (hand_out found s)
  by-want None k = refl
  by-want (Some point) k = refl

  by-report : (n point version : ℕ) (ok : Bool) → TellsTheSame (report n point version ok s)
  by-report n point version true k = cond_both {A = Reply} (is_current point version s) _ _ (λ reply. (proxy_of reply.state.proxies k).commanded ≡ (proxy_of s.proxies k).commanded)
      (λ _. commanded-set s.proxies point (taken n (proxy_of s.proxies point)) k refl) (λ _. refl)
  by-report n point version false k = cond_both {A = Reply} (is_current point version s) _ _ (λ reply. (proxy_of reply.state.proxies k).commanded ≡ (proxy_of s.proxies k).commanded)
      (λ _. commanded-set s.proxies point (not_taken n (proxy_of s.proxies point)) k refl) (λ _. refl)

  by-doubt : (point : ℕ) (differs : Bool) → TellsTheSame (doubt point differs s)
  by-doubt point differs k = commanded-changed (is_doubted point) (doubted differs) (λ place. refl) 0 s.proxies k

  by-notices : (name : Option (List ℕ)) (session from most : ℕ) → TellsTheSame (notices_asked name session from most s)
  by-notices (Some name) session from most k = refl
  by-notices None session from most k = by-held (process_of s.attached session) _ (λ p k. refl) k

  pub commanded-acted : (plant : List Actuator) (session n : ℕ) (c : Command) (k : ℕ) → (proxy_of (act plant session n c s).state.proxies k).commanded ≡ (proxy_of s.proxies k).commanded
  commanded-acted plant session n (command.Attach name) k = by-joined session _ _ k
  commanded-acted plant session n (command.Submit writes policy seq) k = by-held (process_of s.attached session) _ (λ p. by-outcome _) k
  commanded-acted plant session n (command.Renew txn asked points seq) k = by-held (process_of s.attached session) _ (λ p. by-outcome _) k
  commanded-acted plant session n (command.Cancel txn seq) k = by-held (process_of s.attached session) _ (λ p. by-outcome _) k
  commanded-acted plant session n command.Gone k = by-held (process_of s.attached session) _ (λ p. by-parted session (gone p n s.persistent)) k
  commanded-acted plant session n command.Tick k = refl
  commanded-acted plant session n (command.Next driver) k = by-want (find (λ point. driver_of plant point == driver) s.wants) k
  commanded-acted plant session n (command.Report point version ok) k = by-report n point version ok k
  commanded-acted plant session n (command.Doubt point differs) k = by-doubt point differs k
  commanded-acted plant session n (command.Read point) k = refl
  commanded-acted plant session n (command.Array point) k = refl
  commanded-acted plant session n (command.Status txn) k = refl
  commanded-acted plant session n (command.Notices name from most) k = by-notices name session from most k
  commanded-acted plant session n (command.Points from most) k = refl
  commanded-acted plant session n command.Version k = refl

-- ---- a longer lease has the same value

module _ {X : Type 0} (key : X → ℕ) (f : X → X) (kept : (x : X) → key (f x) ≡ key x) where
  lesser-mapped : (x : X) (rest : Option X) → lesser key (f x) (option_map f rest) ≡ f (lesser key x rest)
  lesser-mapped x None = refl
  lesser-mapped x (Some y) = (λ i. cond (nat_lt (kept y i) (kept x i)) (f y) (f x)) ∙ cond_both (nat_lt (key y) (key x)) y x (λ z. cond (nat_lt (key y) (key x)) (f y) (f x) ≡ f z)
      (λ less. ap (λ b. cond b (f y) (f x)) less) (λ more. ap (λ b. cond b (f y) (f x)) more)

  least-mapped : (xs : List X) → least key (map f xs) ≡ option_map f (least key xs)
  least-mapped [] = refl
  least-mapped (x ∷ xs) = ap (λ rest. Some (lesser key (f x) rest)) (least-mapped xs) ∙ ap Some (lesser-mapped x (least key xs))

module _ (meant : Lease → Bool) (until : ℕ) where
  same-level : (lease : Lease) → (extended_if meant until lease).priority ≡ lease.priority
  same-level lease = cond_both (meant lease) (extended until lease) lease (λ l. l.priority ≡ lease.priority) (λ _. refl) (λ _. refl)

  same-point : (lease : Lease) → (extended_if meant until lease).point ≡ lease.point
  same-point lease = cond_both (meant lease) (extended until lease) lease (λ l. l.point ≡ lease.point) (λ _. refl) (λ _. refl)

  force-longer : (leases : List Lease) (point : ℕ) → in_force (map (extended_if meant until) leases) point ≡ option_map (extended_if meant until) (in_force leases point)
  force-longer leases point =
      ap (least (λ (l : Lease). l.priority)) (filter-map (λ (l : Lease). l.point == point) (extended_if meant until) leases
      ∙ ap (map (extended_if meant until)) (filter-same (λ l. (extended_if meant until l).point == point) (λ l. l.point == point) leases
      (each-always (λ l. ((extended_if meant until l).point == point) ≡ (l.point == point)) (λ l. ap (λ k. k == point) (same-point l)) leases)))
      ∙ least-mapped (λ (l : Lease). l.priority) (extended_if meant until) same-level (filter (λ l. l.point == point) leases)

  value-longer : (default : ℤ) (moment : ℕ) (lease : Option Lease) (reversion : Option Pending) → value_of default moment (option_map (extended_if meant until) lease) reversion ≡ value_of default moment lease reversion
  value-longer default moment None reversion = refl
  value-longer default moment (Some lease) reversion = cond_both (meant lease) (extended until lease) lease (λ l. l.value ≡ lease.value) (λ _. refl) (λ _. refl)

  pub shown-longer : (default : ℤ) (point moment : ℕ) (leases : List Lease) (reversion : Option Pending) →
      value_of default moment (in_force (map (extended_if meant until) leases) point) reversion ≡ value_of default moment (in_force leases point) reversion
  shown-longer default point moment leases reversion =
      ap (λ lease. value_of default moment lease reversion) (force-longer leases point) ∙ value-longer default moment (in_force leases point) reversion
