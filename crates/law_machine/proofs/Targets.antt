-- Targets change only at due moments and by commands.
use Rattle.std.proofs.Common.{◌≡◌, ℕ, ◌+◌, ◌≤◌, ◌==◌, ℤ, nat_lt, nat_le, List, [], ◌∷◌, map, false, ◌&&◌, Option, Some, None, refl, ap, ◌∙◌, subst, arith}
use Rattle.std.specs.Prelude.{unwrap_or}
use Rattle.std.specs.List.{filter, fold, flat_map, AllByRecursion}
use Rattle.std.proofs.lemmas.Bool.Decides.{nat_tests}
use Rattle.boss_model.specs.declared.command.Step.{Step}
use Rattle.boss_model.specs.declared.state.Actuator.{Actuator}
use Rattle.boss_model.specs.declared.state.Lease.{Lease}
use Rattle.boss_model.specs.declared.state.Pending.{Pending}
use Rattle.boss_model.specs.Catalogue.{default_of}
use Rattle.boss_model.specs.Happenings.{turned, reverted, happenings, done_last, coming, later}
use Rattle.boss_model.specs.Limits.{last_moment}
use Rattle.boss_model.specs.Records.{Transaction}
use Rattle.boss_model.specs.Reversions.{hold, turns, value_from, value_at, courses}
use Rattle.boss_model.specs.Sound.{IsPending, IsSoundPersistent}
use Rattle.boss_model.specs.State.{Persistent}
use Rattle.boss_model.specs.Target.{in_force, playing, value_of, target_at, target}
use Rattle.boss_model.specs.Time.{due, tick_to}
use Rattle.law_time.proofs.Coming.{now_after, now_after-within, quiet}
use Rattle.law_time.proofs.Filters.{each-unmapped, filter-filter, filter-none, each-always}
use Rattle.law_time.proofs.NothingDue.{sound-timed, of-pending}
use Rattle.law_time.proofs.TickLaw.{due-after}
use Rattle.law_time.proofs.Orders.{each-map, each-filter, each-both, each-front, each-back, least-of}
use Rattle.law_time.proofs.TickSound.{tick-sound}

-- the value of a reversion stays where no step ends
pub value-stays : (start a b : ℕ) (steps : List Step) → start ≤ a → a ≤ b → AllByRecursion (λ t. t ≤ b → t ≤ a) (turns start steps) → value_from start steps b ≡ value_from start steps a
value-stays start a b [] begun later none = refl
value-stays start a b (step ∷ steps) begun later none =
    let here : start + hold step ≤ b → start + hold step ≤ a = none.0 in
    let rest : start + hold step ≤ a → value_from (start + hold step) steps b ≡ value_from (start + hold step) steps a = λ past. value-stays (start + hold step) a b steps past later none.1 in
    grind (arith, nat_tests)

turns-of : (P : ℕ → Type 0) (cs : List Pending) → AllByRecursion (λ h. P h.at) (flat_map happenings cs) → AllByRecursion (λ c. AllByRecursion P (turns c.start c.steps)) cs
turns-of P [] all = tt
turns-of P (c ∷ cs) all =
    let here : AllByRecursion (λ h. P h.at) (happenings c) = each-front (λ h. P h.at) (happenings c) (flat_map happenings cs) all in (
      each-unmapped (λ h. P h.at) (turned c) (turns c.start c.steps) (each-front (λ h. P h.at) (map (turned c) (turns c.start c.steps)) (reverted c c.steps) here.1),
      turns-of P cs (each-back (λ h. P h.at) (happenings c) (flat_map happenings cs) all),
    )

-- no step ends later than the last due moment and up to n
turns-by : (n now : ℕ) (cs : List Pending) (txns : List Transaction) → AllByRecursion (λ c. AllByRecursion (λ t. t ≤ n → t ≤ now_after n now cs txns) (turns c.start c.steps)) cs
turns-by n now cs txns = turns-of (λ t. t ≤ n → t ≤ now_after n now cs txns) cs
    (each-front (λ h. h.at ≤ n → h.at ≤ now_after n now cs txns) (flat_map happenings cs) (map (done_last cs) txns) (quiet n now cs txns))

value-of-stays : (default : ℤ) (a b : ℕ) (lease : Option Lease) (r : Option Pending) → ((p : Pending) → r ≡ Some p → value_at p b ≡ value_at p a) → value_of default b lease r ≡ value_of default a lease r
value-of-stays default a b (Some lease) r same = refl
value-of-stays default a b None None same = refl
value-of-stays default a b None (Some p) same = ap (λ v. unwrap_or v default) (same p refl)

-- where nothing is due up to a moment, every target is the same at that moment
pub target-stays : (plant : List Actuator) (d : Persistent) (m point : ℕ) → IsSoundPersistent plant d → d.now ≤ m → due m d ≡ [] → target_at plant m d point ≡ target plant d point
target-stays plant d m point sound within none =
    let cs = courses d.pending d.leases in
    let now_same : now_after m d.now cs d.txns ≡ d.now = ap (fold later d.now) none in
    let T = λ (c : Pending). AllByRecursion (λ t. t ≤ m → t ≤ d.now) (turns c.start c.steps) in
    let turns_none : AllByRecursion T cs = subst (λ k. AllByRecursion (λ c. AllByRecursion (λ t. t ≤ m → t ≤ k) (turns c.start c.steps)) cs) now_same (turns-by m d.now cs d.txns) in
    let V = λ (r : Pending). value_at r m ≡ value_at r d.now in
    let values : AllByRecursion V d.pending = each-map (λ r. IsPending plant d.now r × T r) V (λ r both. value-stays r.start d.now m r.steps both.0.started within both.1) d.pending
    (each-both (IsPending plant d.now) T d.pending sound.pending (of-pending T d.pending d.leases turns_none)) in
    value-of-stays (default_of plant point) d.now m (in_force d.leases point) (playing d.pending point)
    (λ p found. least-of V (λ r. r.priority) (filter (λ r. r.point == point) d.pending) p (each-filter V (λ r. r.point == point) d.pending values) found)

-- after a tick to n nothing is due up to n
pub none-due : (plant : List Actuator) (d : Persistent) (n : ℕ) → IsSoundPersistent plant d → d.now ≤ n → due n (tick_to n d) ≡ []
none-due plant d n sound within =
    let all = coming d.now (courses d.pending d.leases) d.txns in
    due-after d n n (sound-timed plant d sound) within
    ∙ filter-filter (λ h. nat_le h.at n) (λ h. nat_lt n h.at) (λ h. nat_lt n h.at && nat_le h.at n) (λ h. refl) all
    ∙ filter-none (λ h. nat_lt n h.at && nat_le h.at n) all (each-always (λ h. (nat_lt n h.at && nat_le h.at n) ≡ false) (λ h. grind (arith, nat_tests)) all)

-- the targets after a tick to n are those at n
pub target-ticked : (plant : List Actuator) (d : Persistent) (n point : ℕ) → IsSoundPersistent plant d → d.now ≤ n → n ≤ last_moment → target_at plant n (tick_to n d) point ≡ target plant (tick_to n d) point
target-ticked plant d n point sound within small = target-stays plant (tick_to n d) n point (tick-sound plant d n sound within small)
    (now_after-within n d.now (courses d.pending d.leases) d.txns within) (none-due plant d n sound within)
