-- Leases end at moment n, by their time or before it, and start their reversions: what then stands is as sound as before.
use Rattle.std.proofs.Common.{◌≡◌, ℕ, ◌+◌, ◌<◌, ◌≤◌, ◌==◌, pos, nat_lt, nat_le, List, [], ◌∷◌, ◌++◌, map, true, false, not, ◌&&◌, ◌||◌, Option, Some, None, is_none, refl, ap, sym, ◌∙◌, subst, arith}
use Rattle.std.specs.List.{AllByRecursion}
use Rattle.std.proofs.lemmas.Bool.{cond_both}
use Rattle.std.proofs.lemmas.Bool.Decides.{nat_tests}
use Rattle.boss_model.specs.declared.notice.Cause.{Cause}
use Rattle.boss_model.specs.declared.notice.Cause.TheVariants as cause
use Rattle.boss_model.specs.declared.state.Actuator.{Actuator}
use Rattle.boss_model.specs.declared.state.Lease.{Lease}
use Rattle.boss_model.specs.declared.state.Pending.{Pending}
use Rattle.boss_model.specs.Happenings.{lives}
use Rattle.boss_model.specs.Limits.{longest_lease, last_moment}
use Rattle.boss_model.specs.Lists.{member}
use Rattle.boss_model.specs.Records.{End, Part, Transaction}
use Rattle.boss_model.specs.Reversions.{end_of, reversion_of, courses}
use Rattle.boss_model.specs.Sound.{Rising, holds, IsLease, IsPending, IsPast, IsCause, IsEnd, IsPart, IsTransaction, has_part, is_kept, is_superseded, is_start, number_rank, IsProcess, IsSoundPersistent}
use Rattle.boss_model.specs.State.{lease_slot, pending_slot, Persistent}
use Rattle.boss_model.specs.Submit.{is_level, is_reversion}
use Rattle.boss_model.specs.Time.{live, under_way, left, lease_of_part, end_after, part_after, record_after}
use Rattle.law_time.proofs.Courses.{courses-after}
use Rattle.law_time.proofs.Filters.{each-mapped, each-unmapped}
use Rattle.law_time.proofs.GroupSound.{IsChange, process-later, transaction-in}
use Rattle.law_time.proofs.NothingDue.{of-pending, of-leases}
use Rattle.law_time.proofs.Orders.{each-map, each-filter, each-passed, each-both, Rising-filter}
use Rattle.law_time.proofs.Records.{lives-left}
use Rattle.law_time.proofs.Slots.{IsSameLease, slots-same, course_slots-same, lives-same, Rising-same, Rising-in_order-same, lives-courses, to-courses, none-later, self-found, kept-after, has-after}

-- `after` is what the lease is to end as: its end may come earlier. It ends by n, and its part with it, or it stays.
pub record IsEnding (n : ℕ) (lease after : Lease) (how : Option End) : Type 0 where
  pub same : after ≡ record lease { until = after.until }
  pub shorter : after.until ≤ lease.until
  pub stays : n < after.until → how ≡ None
  pub ends : after.until ≤ n → (end : End) × (how ≡ Some end) × (end.at ≡ after.until)

-- it does not end by supersession
abbrev pub IsReverting : Option End → Type 0
IsReverting how = (end : End) → how ≡ Some end → is_superseded end.cause ≡ false

-- the persistent part with its leases ended, before this is told
abbrev pub after_ending : ℕ → ℕ → (Lease → Lease) → (Lease → Option End) → Persistent → Persistent
after_ending n now shorten how d = record d {
  now = now;
  leases = live n (map shorten d.leases);
  pending = under_way n (courses d.pending (map shorten d.leases));
  txns = map (record_after how d.leases) d.txns;
}

module _ (n : ℕ) (shorten : Lease → Lease) (how : Lease → Option End) where
  abbrev Endings : List Lease → Type 0
  Endings leases = AllByRecursion (λ lease. IsEnding n lease (shorten lease) (how lease)) leases

  -- a slot that no lease holds is held by none after
  none-held : (leases : List Lease) (txn point priority : ℕ) → Endings leases → holds leases txn point priority ≡ false →
      holds (live n (map shorten leases)) txn point priority ≡ false
  none-held [] txn point priority ending none = refl
  none-held (lease ∷ leases) txn point priority ending none =
      let rest : holds (live n (map shorten leases)) txn point priority ≡ false = none-held leases txn point priority ending.1 (grind (arith)) in
      let t : (shorten lease).txn ≡ lease.txn = ap (λ l. l.txn) ending.0.same in
      let p : (shorten lease).point ≡ lease.point = ap (λ l. l.point) ending.0.same in
      let q : (shorten lease).priority ≡ lease.priority = ap (λ l. l.priority) ending.0.same in
      cond_both (nat_lt n (shorten lease).until) (shorten lease ∷ live n (map shorten leases)) (live n (map shorten leases))
      (λ ls. holds ls txn point priority ≡ false) (λ _. grind (arith, nat_tests)) (λ _. rest)

  -- an open part stays open as long as its lease stays
  part-still-open : (leases : List Lease) (txn point priority : ℕ) → Rising lease_slot leases → Endings leases → holds leases txn point priority ≡ true →
      is_none (end_after how (lease_of_part leases txn point priority) None) ≡ holds (live n (map shorten leases)) txn point priority
  part-still-open [] txn point priority rising ending held = cc
  part-still-open (lease ∷ leases) txn point priority rising ending held =
      let e = ending.0 in
      let t : (shorten lease).txn ≡ lease.txn = ap (λ l. l.txn) e.same in
      let p : (shorten lease).point ≡ lease.point = ap (λ l. l.point) e.same in
      let q : (shorten lease).priority ≡ lease.priority = ap (λ l. l.priority) e.same in
      let mine = (lease.txn == txn) && ((lease.point == point) && (lease.priority == priority)) in
      cond_both mine true false (λ b. mine ≡ b → is_none (end_after how (lease_of_part (lease ∷ leases) txn point priority) None) ≡ holds (live n (map shorten (lease ∷ leases))) txn point priority)
      (λ yes _.
      let found : lease_of_part (lease ∷ leases) txn point priority ≡ Some lease = grind (arith) in
      let none : holds leases txn point priority ≡ false = none-later lease leases txn point priority rising.0 (grind (arith, nat_tests)) (grind (arith, nat_tests)) in
      let after : holds (live n (map shorten leases)) txn point priority ≡ false = none-held leases txn point priority ending.1 none in
      ap (λ f. is_none (end_after how f None)) found ∙
      cond_both (nat_lt n (shorten lease).until) (shorten lease ∷ live n (map shorten leases)) (live n (map shorten leases))
      (λ ls. is_none (how lease) ≡ holds ls txn point priority)
      (λ more. let stays : how lease ≡ None = e.stays (grind (arith, nat_tests)) in ap is_none stays ∙ grind (arith, nat_tests))
      (λ over. let gone = e.ends (grind (arith, nat_tests)) in ap is_none gone.1 ∙ sym after))
      (λ no _.
      let found : lease_of_part (lease ∷ leases) txn point priority ≡ lease_of_part leases txn point priority = grind (arith) in
      let rest : is_none (end_after how (lease_of_part leases txn point priority) None) ≡ holds (live n (map shorten leases)) txn point priority =
      part-still-open leases txn point priority rising.1 ending.1 (grind (arith)) in
      ap (λ f. is_none (end_after how f None)) found ∙ rest ∙
      cond_both (nat_lt n (shorten lease).until) (shorten lease ∷ live n (map shorten leases)) (live n (map shorten leases))
      (λ ls. holds (live n (map shorten leases)) txn point priority ≡ holds ls txn point priority) (λ _. grind (arith, nat_tests)) (λ _. refl)) (grind arith)

  pub part-open-after : (leases : List Lease) (txn point priority : ℕ) (end : Option End) → Rising lease_slot leases → Endings leases → is_none end ≡ holds leases txn point priority →
      is_none (end_after how (lease_of_part leases txn point priority) end) ≡ holds (live n (map shorten leases)) txn point priority
  part-open-after leases txn point priority (Some end) rising ending is = sym (none-held leases txn point priority ending (sym is))
  part-open-after leases txn point priority None rising ending is = part-still-open leases txn point priority rising ending (sym is)

  pub past-after : (now before : ℕ) (leases : List Lease) (txn point priority : ℕ) (end : Option End) → before ≤ now → AllByRecursion (λ lease. IsPast now (how lease)) leases →
      IsPast before end → IsPast now (end_after how (lease_of_part leases txn point priority) end)
  past-after now before leases txn point priority (Some end) later ends past = omega (arith, past)
  past-after now before [] txn point priority None later ends past = tt
  past-after now before (lease ∷ leases) txn point priority None later ends past =
      cond_both ((lease.txn == txn) && ((lease.point == point) && (lease.priority == priority))) (Some lease) (lease_of_part leases txn point priority)
      (λ f. IsPast now (end_after how f None)) (λ _. ends.0) (λ _. past-after now before leases txn point priority None later ends.1 past)

  pub past-ending : (now : ℕ) (lease : Lease) (end : Option End) → how lease ≡ end → IsEnding n lease (shorten lease) (how lease) → ((shorten lease).until ≤ n → (shorten lease).until ≤ now) →
      IsPast now end
  past-ending now lease None is e early = tt
  past-ending now lease (Some end) is e early = cond_both (nat_lt n (shorten lease).until) true false (λ b. nat_lt n (shorten lease).until ≡ b → end.at ≤ now)
      (λ more _. let stays : how lease ≡ None = e.stays (grind (arith, nat_tests)) in cc)
      (λ over _. let within : (shorten lease).until ≤ n = grind (arith, nat_tests) in
      let gone = e.ends within in
      let same : end ≡ gone.0 = cc in
      let at : end.at ≡ (shorten lease).until = ap (λ x. x.at) same ∙ gone.2 in
      let last : (shorten lease).until ≤ now = early within in
      omega arith) (grind arith)

-- an end that is not by supersession names no number, and the ends of parts after are those before or the new ones
pub plain-cause : (why : Cause) → is_superseded why ≡ false → IsCause why
plain-cause cause.Expired plain = tt
plain-cause cause.Cancelled plain = tt
plain-cause cause.Died plain = tt
plain-cause cause.Fault plain = tt
plain-cause (cause.Superseded by) plain = cc

why-reverting : (how : Option End) → IsReverting how → IsEnd how
why-reverting None reverts = tt
why-reverting (Some end) reverts = plain-cause end.cause (reverts end refl)

pub why-after : (how : Lease → Option End) (leases : List Lease) (txn point priority : ℕ) (end : Option End) → AllByRecursion (λ lease. IsEnd (how lease)) leases →
    IsEnd end → IsEnd (end_after how (lease_of_part leases txn point priority) end)
why-after how leases txn point priority (Some end) ends why = why
why-after how [] txn point priority None ends why = tt
why-after how (lease ∷ leases) txn point priority None ends why =
    cond_both ((lease.txn == txn) && ((lease.point == point) && (lease.priority == priority))) (Some lease) (lease_of_part leases txn point priority)
    (λ f. IsEnd (end_after how f None)) (λ _. ends.0) (λ _. why-after how leases txn point priority None ends.1 why)

pub points-same : (how : Lease → Option End) (leases : List Lease) (txn : ℕ) (parts : List Part) →
    map (λ part. part.point) (map (part_after how leases txn) parts) ≡ map (λ part. part.point) parts
points-same how leases txn [] = refl
points-same how leases txn (part ∷ parts) = ap (λ ps. part.point ∷ ps) (points-same how leases txn parts)

pub numbers-same : (how : Lease → Option End) (leases : List Lease) (txns : List Transaction) →
    map number_rank txns ≡ map number_rank (map (record_after how leases) txns)
numbers-same how leases [] = refl
numbers-same how leases (t ∷ ts) = ap (λ xs. number_rank t ∷ xs) (numbers-same how leases ts)

-- a lease that stays is as sound as it was
lease-ending : (plant : List Actuator) (n now before : ℕ) (lease after : Lease) (how : Option End) → IsEnding n lease after how → before ≤ now → now ≤ n →
    IsLease plant before lease → n < after.until → IsLease plant now after
lease-ending plant n now before lease after how e later within is more =
    let soon : lease.until ≤ before + longest_lease = is.soon in
    let shorter : after.until ≤ lease.until = e.shorter in
    subst (IsLease plant now) (sym e.same) (record { fitting = is.fitting; level = is.level; reverting = is.reverting; live = omega arith; soon = omega arith })

-- the part of a lease that stays, and of one that ends; an end that started a reversion stays
pub part-open-stays : (how : Lease → Option End) (leases : List Lease) (lease : Lease) (end : Option End) → lease_of_part leases lease.txn lease.point lease.priority ≡ Some lease →
    how lease ≡ None → is_none end ≡ true → is_none (end_after how (lease_of_part leases lease.txn lease.point lease.priority) end) ≡ true
part-open-stays how leases lease (Some end) found stays free = cc
part-open-stays how leases lease None found stays free = ap (λ f. is_none (end_after how f None)) found ∙ ap is_none stays

part-open-ends : (n : ℕ) (how : Lease → Option End) (leases : List Lease) (lease after : Lease) (end : Option End) → lease_of_part leases lease.txn lease.point lease.priority ≡ Some lease →
    IsEnding n lease after (how lease) → IsReverting (how lease) → after.until ≤ n → is_none end ≡ true →
    is_start after.until (end_after how (lease_of_part leases lease.txn lease.point lease.priority) end) ≡ true
part-open-ends n how leases lease after (Some end) found e reverts over free = cc
part-open-ends n how leases lease after None found e reverts over free =
    let gone = e.ends over in
    let at : gone.0.at ≡ after.until = gone.2 in
    let why : is_superseded gone.0.cause ≡ false = reverts gone.0 gone.1 in
    ap (λ f. is_start after.until (end_after how f None)) found ∙ ap (is_start after.until) gone.1 ∙ grind (arith, nat_tests)

pub start-stays : (how : Lease → Option End) (found : Option Lease) (start : ℕ) (end : Option End) → is_start start end ≡ true → is_start start (end_after how found end) ≡ true
start-stays how found start (Some end) is = is
start-stays how found start None is = cc

-- a reversion, apart from its times
record IsCourse (plant : List Actuator) (c : Pending) : Type 0 where
  level : is_level (pos c.priority) ≡ true
  steps : is_reversion plant c.point c.steps ≡ true

pub ending-change : (plant : List Actuator) (d : Persistent) (n now : ℕ) (shorten : Lease → Lease) (how : Lease → Option End) → IsSoundPersistent plant d →
    d.now ≤ now → now ≤ n → now ≤ last_moment → Endings n shorten how d.leases → AllByRecursion (λ lease. IsReverting (how lease)) d.leases →
    AllByRecursion (λ c. c.start ≤ n → c.start ≤ now) (courses d.pending (map shorten d.leases)) → IsChange plant (after_ending n now shorten how d)
ending-change plant d n now shorten how sound later within small ending reverts starts =
    let cut = map shorten d.leases in
    let cs = courses d.pending cut in
    let changed = after_ending n now shorten how d in
    let e = ending in
    let shaped : AllByRecursion (λ lease. IsSameLease lease (shorten lease)) d.leases =
    each-map (λ lease. IsEnding n lease (shorten lease) (how lease)) (λ lease. IsSameLease lease (shorten lease)) (λ lease is. is.same) d.leases e in
    let rising : Rising pending_slot cs = Rising-in_order-same pending_slot (d.pending ++ map reversion_of d.leases) (d.pending ++ map reversion_of cut)
    (course_slots-same shorten d.pending d.leases shaped) sound.slots in
    let started : AllByRecursion (λ r. r.start ≤ n) d.pending = each-map (IsPending plant d.now) (λ r. r.start ≤ n) (λ r is. let s : r.start ≤ d.now = is.started in omega arith) d.pending sound.pending in
    let after : courses changed.pending changed.leases ≡ left n cs = courses-after n d.pending cut started rising in
    let S = λ (c : Pending). c.start ≤ n → c.start ≤ now in
    let lease_starts : AllByRecursion (λ lease. (shorten lease).until ≤ n → (shorten lease).until ≤ now) d.leases =
    each-unmapped (λ l. l.until ≤ n → l.until ≤ now) shorten d.leases (of-leases S d.pending cut starts) in
    let E = λ (lease : Lease). IsEnding n lease (shorten lease) (how lease) in
    let pasts : AllByRecursion (λ lease. IsPast now (how lease)) d.leases =
    each-map (λ lease. E lease × ((shorten lease).until ≤ n → (shorten lease).until ≤ now)) (λ lease. IsPast now (how lease))
    (λ lease both. past-ending n shorten how now lease (how lease) refl both.0 both.1) d.leases (each-both E (λ lease. (shorten lease).until ≤ n → (shorten lease).until ≤ now) d.leases e lease_starts) in
    let whys : AllByRecursion (λ lease. IsEnd (how lease)) d.leases = each-map (λ lease. IsReverting (how lease)) (λ lease. IsEnd (how lease)) (λ lease r. why-reverting (how lease) r) d.leases reverts in
    let lives_before : (txn : ℕ) → lives txn (courses changed.pending changed.leases) ≡ true → lives txn (courses d.pending d.leases) ≡ true =
    λ txn alive.
    let there : lives txn cs ≡ true = lives-left n txn cs (ap (lives txn) (sym after) ∙ alive) in
    lives-courses txn d.pending d.leases ∙ ap (λ b. lives txn d.pending || b) (sym (lives-same shorten txn d.leases shaped)) ∙ sym (lives-courses txn d.pending cut) ∙ there in
    let found : AllByRecursion (λ lease. lease_of_part d.leases lease.txn lease.point lease.priority ≡ Some lease) d.leases = self-found d.leases sound.lease_slots in
    let F = λ (lease : Lease). lease_of_part d.leases lease.txn lease.point lease.priority ≡ Some lease in
    let O = λ (lease : Lease). has_part is_none d.txns lease.txn lease.point lease.priority ≡ true in
    let txns = map (record_after how d.leases) d.txns in
    let course_of_lease : (lease : Lease) → IsLease plant d.now lease → E lease → IsCourse plant (reversion_of (shorten lease)) =
    λ lease is ends. subst (λ l. IsCourse plant (reversion_of l)) (sym ends.same) (record { level = is.level; steps = is.reverting }) in
    let sound_courses : AllByRecursion (IsCourse plant) cs = to-courses (IsCourse plant) d.pending cut
    (each-map (IsPending plant d.now) (IsCourse plant) (λ r is. record { level = is.level; steps = is.steps }) d.pending sound.pending)
    (each-mapped (λ l. IsCourse plant (reversion_of l)) shorten d.leases
    (each-map (λ lease. IsLease plant d.now lease × E lease) (λ lease. IsCourse plant (reversion_of (shorten lease))) (λ lease both. course_of_lease lease both.0 both.1) d.leases
    (each-both (IsLease plant d.now) E d.leases sound.leases e))) in
    let test = λ (r : Pending). nat_le r.start n && nat_lt n (end_of r) in
    record {
      now = small;
      first = sound.first;
      next = sound.next;
      lease_slots = Rising-filter lease_slot (λ lease. nat_lt n lease.until) cut (Rising-same lease_slot d.leases cut (slots-same shorten d.leases shaped) sound.lease_slots);
      pending_slots = Rising-filter pending_slot test cs rising;
      slots = subst (Rising pending_slot) (sym after) (Rising-filter pending_slot (λ r. nat_lt n (end_of r)) cs rising);
      leases =
          let P = λ (l : Lease). n < l.until → IsLease plant now l in
          each-map (λ l. (n < l.until) × P l) (IsLease plant now) (λ l both. both.1 both.0) (live n cut)
          (each-both (λ l. n < l.until) P (live n cut) (each-passed (λ l. n < l.until) (λ l. nat_lt n l.until) (λ l passed. grind (arith, nat_tests)) cut)
          (each-filter P (λ l. nat_lt n l.until) cut (each-mapped P shorten d.leases
          (each-map (λ lease. IsLease plant d.now lease × E lease) (λ lease. P (shorten lease))
          (λ lease both more. lease-ending plant n now d.now lease (shorten lease) (how lease) both.1 later within both.0 more) d.leases
          (each-both (IsLease plant d.now) E d.leases sound.leases e)))));
      pending =
          each-map (λ r. (test r ≡ true) × (IsCourse plant r × S r)) (IsPending plant now)
          (λ r all. let begun : r.start ≤ n = grind (arith, nat_tests) in let more : n < end_of r = grind (arith, nat_tests) in let start : r.start ≤ now = all.1.1 begun in
          record { level = all.1.0.level; steps = all.1.0.steps; started = start; running = omega arith })
          (under_way n cs) (each-both (λ r. test r ≡ true) (λ r. IsCourse plant r × S r) (under_way n cs) (each-passed (λ r. test r ≡ true) test (λ r passed. passed) cs)
          (each-filter (λ r. IsCourse plant r × S r) test cs (each-both (IsCourse plant) S cs sound_courses starts)));
      numbers = Rising-same number_rank d.txns txns (numbers-same how d.leases d.txns) sound.numbers;
      txns = each-mapped (IsTransaction plant changed) (record_after how d.leases) d.txns
          (each-map (IsTransaction plant d) (λ t. IsTransaction plant changed (record_after how d.leases t)) (λ t is.
          let W = λ (c : Pending). c.txn ≡ t.txn → c.owner ≡ t.owner in
          let V = λ (l : Lease). l.txn ≡ t.txn → l.policy ≡ t.policy in
          transaction-in plant d changed t (map (part_after how d.leases t.txn) t.parts) is is.given is.owner (points-same how d.leases t.txn t.parts)
          (each-mapped (IsPart plant now t.txn (live n cut)) (part_after how d.leases t.txn) t.parts
          (each-map (IsPart plant d.now t.txn d.leases) (λ part. IsPart plant now t.txn (live n cut) (part_after how d.leases t.txn part)) (λ part p. record {
            known = p.known;
            priority = p.priority;
            open_part = part-open-after n shorten how d.leases t.txn part.point part.priority part.end sound.lease_slots e p.open_part;
            past = past-after n shorten how now d.now d.leases t.txn part.point part.priority part.end later pasts p.past;
            why = why-after how d.leases t.txn part.point part.priority part.end whys p.why;
          }) t.parts is.parts))
          (subst (AllByRecursion W) (sym after) (each-filter W (λ r. nat_lt n (end_of r)) cs (to-courses W d.pending cut (of-pending W d.pending d.leases is.owned)
          (each-mapped (λ l. W (reversion_of l)) shorten d.leases
          (each-map (λ lease. W (reversion_of lease) × E lease) (λ lease. W (reversion_of (shorten lease))) (λ lease both. subst (λ l. W (reversion_of l)) (sym both.1.same) both.0) d.leases
          (each-both (λ lease. W (reversion_of lease)) E d.leases (of-leases W d.pending d.leases is.owned) e))))))
          (each-filter V (λ l. nat_lt n l.until) cut (each-mapped V shorten d.leases
          (each-map (λ lease. V lease × E lease) (λ lease. V (shorten lease)) (λ lease both. subst V (sym both.1.same) both.0) d.leases (each-both V E d.leases is.policies e)))))
          d.txns sound.txns);
      open_parts =
          let H = λ (l : Lease). has_part is_none txns l.txn l.point l.priority ≡ true in
          let P = λ (l : Lease). n < l.until → H l in
          each-map (λ l. (n < l.until) × P l) H (λ l both. both.1 both.0) (live n cut)
          (each-both (λ l. n < l.until) P (live n cut) (each-passed (λ l. n < l.until) (λ l. nat_lt n l.until) (λ l passed. grind (arith, nat_tests)) cut)
          (each-filter P (λ l. nat_lt n l.until) cut (each-mapped P shorten d.leases
          (each-map (λ lease. (O lease × F lease) × E lease) (λ lease. P (shorten lease))
          (λ lease all more. subst H (sym all.1.same) (has-after is_none is_none how d.leases d.txns lease.txn lease.point lease.priority
          (λ end free. part-open-stays how d.leases lease end all.0.1 (all.1.stays more) free) all.0.0))
          d.leases (each-both (λ lease. O lease × F lease) E d.leases (each-both O F d.leases sound.open_parts found) e)))));
      ended_parts =
          let H = λ (r : Pending). has_part (is_start r.start) txns r.txn r.point r.priority ≡ true in
          let P = λ (r : Pending). r.start ≤ n → H r in
          each-map (λ r. (test r ≡ true) × P r) H (λ r both. both.1 (grind (arith, nat_tests))) (under_way n cs)
          (each-both (λ r. test r ≡ true) P (under_way n cs) (each-passed (λ r. test r ≡ true) test (λ r passed. passed) cs)
          (each-filter P test cs (to-courses P d.pending cut
          (each-map (λ r. has_part (is_start r.start) d.txns r.txn r.point r.priority ≡ true) P
          (λ r has _. has-after (is_start r.start) (is_start r.start) how d.leases d.txns r.txn r.point r.priority (λ end is. start-stays how (lease_of_part d.leases r.txn r.point r.priority) r.start end is) has)
          d.pending sound.ended_parts)
          (each-mapped (λ l. P (reversion_of l)) shorten d.leases
          (each-map (λ lease. (O lease × F lease) × (E lease × IsReverting (how lease))) (λ lease. P (reversion_of (shorten lease)))
          (λ lease all over.
          let until = (shorten lease).until in
          subst (λ l. has_part (is_start until) txns l.txn l.point l.priority ≡ true) (sym all.1.0.same)
          (has-after is_none (is_start until) how d.leases d.txns lease.txn lease.point lease.priority
          (λ end free. part-open-ends n how d.leases lease (shorten lease) end all.0.1 all.1.0 all.1.1 over free) all.0.0))
          d.leases (each-both (λ lease. O lease × F lease) (λ lease. E lease × IsReverting (how lease)) d.leases (each-both O F d.leases sound.open_parts found)
          (each-both E (λ lease. IsReverting (how lease)) d.leases e reverts)))))));
      not_done = each-mapped (λ t. lives t.txn (courses changed.pending changed.leases) ≡ true → member t.txn d.done ≡ false) (record_after how d.leases) d.txns
          (each-map (λ t. member t.txn d.done ≡ not (lives t.txn (courses d.pending d.leases)))
          (λ t. lives t.txn (courses changed.pending changed.leases) ≡ true → member t.txn d.done ≡ false)
          (λ t done alive. let before : lives t.txn (courses d.pending d.leases) ≡ true = lives_before t.txn alive in grind (arith)) d.txns sound.done);
      few_done = sound.few_done;
      done_once = sound.done_once;
      done_known = each-map (λ txn. is_kept d.txns txn ≡ true) (λ txn. is_kept txns txn ≡ true) (λ txn known. kept-after how d.leases d.txns txn ∙ known) d.done sound.done_known;
      few_processes = sound.few_processes;
      names = sound.names;
      processes = each-map (IsProcess plant d.now) (IsProcess plant now) (λ p is. process-later plant d.now now p later is) d.processes sound.processes;
    }
