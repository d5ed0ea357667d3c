-- A renewal, a fault that is only told, and a new process keep a sound persistent part sound.
use Rattle.std.proofs.Common.{◌≡◌, ℕ, ◌+◌, ◌<◌, ◌≤◌, ◌==◌, ℤ, pos, negsuc, List, [], ◌∷◌, ◌++◌, map, Bool, true, false, not, ◌&&◌, ◌||◌, cond, Option, Some, None, is_none, unsigned_abs, refl, ap, sym, ◌∙◌, subst, arith}
use Rattle.std.specs.Prelude.{int_le}
use Rattle.std.specs.List.{AllByRecursion}
use Rattle.std.proofs.lemmas.Bool.Decides.{nat_tests}
use Rattle.boss_model.specs.declared.state.Actuator.{Actuator}
use Rattle.boss_model.specs.declared.state.Lease.{Lease}
use Rattle.boss_model.specs.declared.state.Pending.{Pending}
use Rattle.boss_model.specs.Groups.{conclude}
use Rattle.boss_model.specs.Happenings.{Happening, lives}
use Rattle.boss_model.specs.Limits.{longest_lease, last_moment}
use Rattle.boss_model.specs.Lists.{member}
use Rattle.boss_model.specs.Records.{End, Part}
use Rattle.boss_model.specs.Renew.{is_meant, extended, extended_if, renewed}
use Rattle.boss_model.specs.Reversions.{end_of, reversion_of, courses}
use Rattle.boss_model.specs.Sound.{holds, IsLease, IsPending, IsPast, IsPart, IsTransaction, has_part, IsProcess, IsSoundPersistent}
use Rattle.boss_model.specs.State.{lease_slot, pending_slot, Persistent}
use Rattle.boss_model.specs.Submit.{is_length}
use Rattle.law_soundness.proofs.ConcludeSound.{IsNews, IsNext, conclude-sound}
use Rattle.law_soundness.proofs.EndSound.{IsAt, alive-not-done, no-news}
use Rattle.law_time.proofs.Filters.{each-mapped}
use Rattle.law_time.proofs.GroupSound.{IsChange, process-later, transaction-in}
use Rattle.law_time.proofs.NothingDue.{of-pending, of-leases}
use Rattle.law_time.proofs.Orders.{each-map, each-both}
use Rattle.law_time.proofs.Slots.{IsSameLease, slots-same, course_slots-same, lives-same, Rising-same, Rising-in_order-same, lives-courses, to-courses}
use Rattle.law_time.proofs.TickSound.{map-same}

-- ---- the moment of the last change becomes n

pub past-later : (now n : ℕ) (end : Option End) → now ≤ n → IsPast now end → IsPast n end
past-later now n None later past = tt
past-later now n (Some end) later past = omega (arith, past)

pub lease-later : (plant : List Actuator) (now n : ℕ) (lease : Lease) → now ≤ n → n < lease.until → IsLease plant now lease → IsLease plant n lease
lease-later plant now n lease later more is =
    let soon : lease.until ≤ now + longest_lease = is.soon in
    record { fitting = is.fitting; level = is.level; reverting = is.reverting; live = more; soon = omega arith }

pub pending-later : (plant : List Actuator) (now n : ℕ) (r : Pending) → now ≤ n → n < end_of r → IsPending plant now r → IsPending plant n r
pending-later plant now n r later more is =
    let started : r.start ≤ now = is.started in
    record { level = is.level; steps = is.steps; started = omega arith; running = more }

pub part-later : (plant : List Actuator) (now n txn : ℕ) (leases : List Lease) (part : Part) → now ≤ n → IsPart plant now txn leases part → IsPart plant n txn leases part
part-later plant now n txn leases part later is = record { known = is.known; priority = is.priority; open_part = is.open_part; past = past-later now n part.end later is.past; why = is.why }

pub later-sound : (plant : List Actuator) (n : ℕ) (d : Persistent) → IsSoundPersistent plant d → IsAt n d → n ≤ last_moment → IsSoundPersistent plant (record d { now = n })
later-sound plant n d sound at small = record {
  now = small;
  first = sound.first;
  next = sound.next;
  lease_slots = sound.lease_slots;
  pending_slots = sound.pending_slots;
  slots = sound.slots;
  leases = each-map (λ lease. IsLease plant d.now lease × (n < lease.until)) (IsLease plant n) (λ lease both. lease-later plant d.now n lease at.reached both.1 both.0) d.leases
      (each-both (IsLease plant d.now) (λ lease. n < lease.until) d.leases sound.leases at.live);
  pending = each-map (λ r. IsPending plant d.now r × (n < end_of r)) (IsPending plant n) (λ r both. pending-later plant d.now n r at.reached both.1 both.0) d.pending
      (each-both (IsPending plant d.now) (λ r. n < end_of r) d.pending sound.pending at.running);
  numbers = sound.numbers;
  txns = each-map (IsTransaction plant d) (IsTransaction plant (record d { now = n })) (λ t is. transaction-in plant d (record d { now = n }) t t.parts is is.given is.owner refl
      (each-map (IsPart plant d.now t.txn d.leases) (IsPart plant n t.txn d.leases) (λ part p. part-later plant d.now n t.txn d.leases part at.reached p) t.parts is.parts)
      is.owned is.policies) d.txns sound.txns;
  open_parts = sound.open_parts;
  ended_parts = sound.ended_parts;
  done = sound.done;
  few_done = sound.few_done;
  done_once = sound.done_once;
  done_known = sound.done_known;
  few_processes = sound.few_processes;
  names = sound.names;
  processes = each-map (IsProcess plant d.now) (IsProcess plant n) (λ p is. process-later plant d.now n p at.reached is) d.processes sound.processes;
}

-- ---- leases are made longer

pub record IsLonger (n : ℕ) (lease after : Lease) : Type 0 where
  pub same : after ≡ record lease { until = after.until }
  pub longer : lease.until ≤ after.until
  pub soon : after.until ≤ n + longest_lease

module _ (n : ℕ) (f : Lease → Lease) where
  abbrev Longer : List Lease → Type 0
  Longer leases = AllByRecursion (λ lease. IsLonger n lease (f lease)) leases

  holds-same : (leases : List Lease) (txn point priority : ℕ) → Longer leases → holds (map f leases) txn point priority ≡ holds leases txn point priority
  holds-same [] txn point priority longer = refl
  holds-same (lease ∷ leases) txn point priority longer =
      let e = longer.0.same in
      λ i. (((e i).txn == txn) && (((e i).point == point) && ((e i).priority == priority))) || holds-same leases txn point priority longer.1 i

  pub longer-change : (plant : List Actuator) (d : Persistent) → IsSoundPersistent plant d → d.now ≡ n → Longer d.leases → IsChange plant (record d { leases = map f d.leases })
  longer-change plant d sound now longer =
      let ls = map f d.leases in
      let L = λ (lease : Lease). IsLonger n lease (f lease) in
      let shaped : AllByRecursion (λ lease. IsSameLease lease (f lease)) d.leases = each-map L (λ lease. IsSameLease lease (f lease)) (λ lease is. is.same) d.leases longer in
      record {
        now = sound.now;
        first = sound.first;
        next = sound.next;
        lease_slots = Rising-same lease_slot d.leases ls (slots-same f d.leases shaped) sound.lease_slots;
        pending_slots = sound.pending_slots;
        slots = Rising-in_order-same pending_slot (d.pending ++ map reversion_of d.leases) (d.pending ++ map reversion_of ls) (course_slots-same f d.pending d.leases shaped) sound.slots;
        leases = each-mapped (IsLease plant d.now) f d.leases (each-map (λ lease. IsLease plant d.now lease × L lease) (λ lease. IsLease plant d.now (f lease))
            (λ lease both.
            let live : d.now < lease.until = both.0.live in
            let more : lease.until ≤ (f lease).until = both.1.longer in
            let soon : (f lease).until ≤ n + longest_lease = both.1.soon in
            subst (IsLease plant d.now) (sym both.1.same) (record { fitting = both.0.fitting; level = both.0.level; reverting = both.0.reverting; live = omega arith; soon = omega (arith, now) }))
            d.leases (each-both (IsLease plant d.now) L d.leases sound.leases longer));
        pending = sound.pending;
        numbers = sound.numbers;
        txns = each-map (IsTransaction plant d) (IsTransaction plant (record d { leases = ls })) (λ t is.
            let W = λ (c : Pending). c.txn ≡ t.txn → c.owner ≡ t.owner in
            let V = λ (l : Lease). l.txn ≡ t.txn → l.policy ≡ t.policy in
            transaction-in plant d (record d { leases = ls }) t t.parts is is.given is.owner refl
            (each-map (IsPart plant d.now t.txn d.leases) (IsPart plant d.now t.txn ls)
            (λ part p. record { known = p.known; priority = p.priority; open_part = p.open_part ∙ sym (holds-same d.leases t.txn part.point part.priority longer); past = p.past; why = p.why }) t.parts is.parts)
            (to-courses W d.pending ls (of-pending W d.pending d.leases is.owned)
            (each-mapped (λ l. W (reversion_of l)) f d.leases (each-map (λ lease. W (reversion_of lease) × L lease) (λ lease. W (reversion_of (f lease)))
            (λ lease both. subst (λ l. W (reversion_of l)) (sym both.1.same) both.0) d.leases
            (each-both (λ lease. W (reversion_of lease)) L d.leases (of-leases W d.pending d.leases is.owned) longer))))
            (each-mapped V f d.leases (each-map (λ lease. V lease × L lease) (λ lease. V (f lease)) (λ lease both. subst V (sym both.1.same) both.0) d.leases (each-both V L d.leases is.policies longer))))
            d.txns sound.txns;
        open_parts =
            let H = λ (l : Lease). has_part is_none d.txns l.txn l.point l.priority ≡ true in
            each-mapped H f d.leases (each-map (λ lease. H lease × L lease) (λ lease. H (f lease)) (λ lease both. subst H (sym both.1.same) both.0) d.leases (each-both H L d.leases sound.open_parts longer));
        ended_parts = sound.ended_parts;
        not_done = each-map (λ t. member t.txn d.done ≡ not (lives t.txn (courses d.pending d.leases))) (λ t. lives t.txn (courses d.pending ls) ≡ true → member t.txn d.done ≡ false)
            (λ t done alive.
            let same : lives t.txn (courses d.pending ls) ≡ lives t.txn (courses d.pending d.leases) =
            lives-courses t.txn d.pending ls ∙ ap (λ b. lives t.txn d.pending || b) (lives-same f t.txn d.leases shaped) ∙ sym (lives-courses t.txn d.pending d.leases) in
            grind (arith)) d.txns sound.done;
        few_done = sound.few_done;
        done_once = sound.done_once;
        done_known = sound.done_known;
        few_processes = sound.few_processes;
        names = sound.names;
        processes = sound.processes;
      }

-- ---- renewal

pub positive : (z : ℤ) (most : ℕ) → (int_le (pos 1) z && int_le z (pos most)) ≡ true → (1 ≤ unsigned_abs z) × (unsigned_abs z ≤ most)
positive (pos n) most within = (grind (arith, nat_tests), grind (arith, nat_tests))
positive (negsuc n) most within = cc

longer-if : (meant : Bool) (n until : ℕ) (lease : Lease) → lease.until ≤ n + longest_lease → until ≤ n + longest_lease → IsLonger n lease (cond meant (extended until lease) lease)
longer-if true n until lease soon within = record { same = refl; longer = omega arith; soon = omega arith }
longer-if false n until lease soon within = record { same = refl; longer = omega arith; soon = soon }

pub renewed-sound : (plant : List Actuator) (txn : ℕ) (asked : ℤ) (points : List ℕ) (n : ℕ) (d : Persistent) → IsSoundPersistent plant d → IsAt n d → n ≤ last_moment →
    is_length asked ≡ true → IsNext plant d (renewed txn asked points n d)
renewed-sound plant txn asked points n d sound at small fits =
    let until = n + unsigned_abs asked in
    let f = extended_if (is_meant txn points) until in
    let d2 : Persistent = record d { now = n } in
    let sound2 : IsSoundPersistent plant d2 = later-sound plant n d sound at small in
    let size = positive asked longest_lease fits in
    let most : unsigned_abs asked ≤ longest_lease = size.1 in
    let longer : AllByRecursion (λ lease. IsLonger n lease (f lease)) d.leases = each-map (IsLease plant n) (λ lease. IsLonger n lease (f lease))
    (λ lease is. longer-if (is_meant txn points lease) n until lease is.soon (omega arith)) d.leases sound2.leases in
    conclude-sound plant n [] d d.next (map f d.leases) d.pending d.txns (longer-change n f plant d2 sound2 refl longer) (no-news plant n) (alive-not-done plant d sound)

-- ---- a fault that is only told

pub told-sound : (plant : List Actuator) (n : ℕ) (happened : List Happening) (d : Persistent) → IsSoundPersistent plant d → IsAt n d → n ≤ last_moment → IsNews plant n happened →
    IsNext plant d (conclude n happened d d)
told-sound plant n happened d sound at small news =
    let d2 : Persistent = record d { now = n } in
    let sound2 : IsSoundPersistent plant d2 = later-sound plant n d sound at small in
    let longer : AllByRecursion (λ lease. IsLonger n lease lease) d.leases = each-map (IsLease plant n) (λ lease. IsLonger n lease lease)
    (λ lease is. record { same = refl; longer = omega arith; soon = is.soon }) d.leases sound2.leases in
    conclude-sound plant n happened d d.next d.leases d.pending d.txns
    (subst (λ ls. IsChange plant (record d2 { leases = ls })) (map-same d.leases) (longer-change n (λ lease. lease) plant d2 sound2 refl longer)) news (alive-not-done plant d sound)
