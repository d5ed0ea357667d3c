-- What is told of the disk in force, said of the pair.
use Rattle.std.proofs.Common.{◌≡◌, inl, inr, ℕ, List, refl, sym, ap, subst}
use Rattle.std.specs.Prelude.{Result, Ok, Err, IfErr}
use Rattle.boss_feeding.specs.declared.fault.FeedFault.{FeedFault}
use Rattle.boss_feeding.specs.declared.fault.FeedFault.TheVariants.{Refused, WriteFault}
use Rattle.boss_feeding.specs.Faults.{ActiveCause, DisksCause, IsLate}
use Rattle.boss_feeding.specs.Refusals.{DiskRefuses, FeedRefuses, IsOfPair}
use Rattle.boss_model.specs.declared.state.Actuator.{Actuator}
use Rattle.boss_pair_find.specs.declared.refusal.DurableRefusal.{DurableRefusal}
use Rattle.boss_pair_find.specs.declared.refusal.DurableRefusal.TheVariants.{NotAJournal, Version, Catalogue, Damaged, DiskFault, NoMemory}
use Rattle.boss_pair_find.specs.Holds.{OfOneInForce}
use Rattle.boss_pair_find.specs.Refusals.{DiskCause, PairCause, of_state}
use Rattle.boss_pair_find.specs.Two.{counts}
use Rattle.boss_snapshot.specs.declared.refusal.SnapshotRefusal.{SnapshotRefusal}
use Rattle.boss_snapshot.specs.declared.refusal.SnapshotRefusal.TheVariants as reading
use Rattle.boss_snapshot.specs.Refusals.{IsKeptState, IsState, ReadCause, Refuses}
use Rattle.def_disk_pair.specs.Pairs.{OfThatInForce}
use Rattle.def_log.specs.InForce.{First, Second}
use Rattle.def_log.specs.Kinds.{in_force, kind_of}

-- ---- refusals

module _ (plant : List Actuator) (digest first second bytes : List ℕ) (state : IsState (kind_of bytes)) (of_it : (P : List ℕ → Type 0) → P bytes → OfOneInForce P first second) where
  pub lifted : (fault : FeedFault) → DiskRefuses plant digest bytes fault → FeedRefuses plant digest first second fault
  lifted (Refused NotAJournal) why = absurd why
  lifted (Refused (Version found)) why = of_it (λ b. Refuses digest b (reading.Version found)) why
  lifted (Refused (Catalogue kept found)) why = of_it (λ b. Refuses digest b (reading.Catalogue kept found)) why
  lifted (Refused (Damaged place)) (inl why) = inl (of_it (λ b. IsState (kind_of b) × Refuses digest b (reading.Damaged place)) (state, why))
  lifted (Refused (Damaged place)) (inr (here, d, events, gate, kept, unsound)) =
      inr (inl (here, (d, events, gate, of_it (λ b. IsState (kind_of b) × IsKeptState digest b d events gate) (state, kept), unsound)))
  lifted (Refused DiskFault) why = tt
  lifted (Refused NoMemory) why = tt
  lifted WriteFault why = tt

pub of_first : (first second : List ℕ) → in_force (kind_of first) (kind_of second) ≡ First → (P : List ℕ → Type 0) → P first → OfOneInForce P first second
of_first first second is P here = subst (λ i. OfThatInForce P (λ bytes. ⊥) i first second) (sym is) here

pub of_second : (first second : List ℕ) → in_force (kind_of first) (kind_of second) ≡ Second → (P : List ℕ → Type 0) → P second → OfOneInForce P first second
of_second first second is P here = subst (λ i. OfThatInForce P (λ bytes. ⊥) i first second) (sym is) here

pub late_refuses : (plant : List Actuator) (digest bytes : List ℕ) (fault : FeedFault) → IsLate fault → DiskRefuses plant digest bytes fault
late_refuses plant digest bytes (Refused NotAJournal) late = absurd late
late_refuses plant digest bytes (Refused (Version found)) late = absurd late
late_refuses plant digest bytes (Refused (Catalogue kept found)) late = absurd late
late_refuses plant digest bytes (Refused (Damaged place)) late = absurd late
late_refuses plant digest bytes (Refused DiskFault) late = tt
late_refuses plant digest bytes (Refused NoMemory) late = tt
late_refuses plant digest bytes WriteFault late = tt

pub late_feed_refuses : (plant : List Actuator) (digest first second : List ℕ) (fault : FeedFault) → IsLate fault → FeedRefuses plant digest first second fault
late_feed_refuses plant digest first second (Refused NotAJournal) late = absurd late
late_feed_refuses plant digest first second (Refused (Version found)) late = absurd late
late_feed_refuses plant digest first second (Refused (Catalogue kept found)) late = absurd late
late_feed_refuses plant digest first second (Refused (Damaged place)) late = absurd late
late_feed_refuses plant digest first second (Refused DiskFault) late = tt
late_feed_refuses plant digest first second (Refused NoMemory) late = tt
late_feed_refuses plant digest first second WriteFault late = tt

pub never_late : (fault : FeedFault) → IsLate fault → IsOfPair fault → ⊥
never_late (Refused NotAJournal) late some = late
never_late (Refused (Version found)) late some = late
never_late (Refused (Catalogue kept found)) late some = late
never_late (Refused (Damaged place)) late some = late
never_late (Refused DiskFault) late some = some
never_late (Refused NoMemory) late some = some
never_late WriteFault late some = some

-- the same of an answer
pub each_fault : {T : Type 0} (P Q : FeedFault → Type 0) (result : Result T FeedFault) → ((fault : FeedFault) → P fault → Q fault) → IfErr result P → IfErr result Q
each_fault P Q (Ok x) gives is = tt
each_fault P Q (Err fault) gives is = gives fault is

-- ---- a state that was not read

pub state_refuses : (plant : List Actuator) (digest bytes : List ℕ) (why : SnapshotRefusal) → Refuses digest bytes why → DiskRefuses plant digest bytes (Refused (of_state why))
state_refuses plant digest bytes (reading.Version found) refused = refused
state_refuses plant digest bytes (reading.Catalogue kept found) refused = refused
state_refuses plant digest bytes (reading.Damaged place) refused = inl refused
state_refuses plant digest bytes reading.DiskFault refused = tt
state_refuses plant digest bytes reading.NoMemory refused = tt

pub state_cause : (before now : ℕ) (why : SnapshotRefusal) → ReadCause before now why → DiskCause before now (of_state why)
state_cause before now (reading.Version found) cause = cause
state_cause before now (reading.Catalogue kept found) cause = cause
state_cause before now (reading.Damaged place) cause = cause
state_cause before now reading.DiskFault cause = cause
state_cause before now reading.NoMemory cause = cause

-- ---- faults

module _ (before now other : ℕ) where
  first_pair : (why : DurableRefusal) → DiskCause before now why → PairCause (counts before other) (counts now other) why
  first_pair NotAJournal same = ap (λ n. counts n other) same
  first_pair (Version found) same = ap (λ n. counts n other) same
  first_pair (Catalogue kept found) same = ap (λ n. counts n other) same
  first_pair (Damaged place) same = ap (λ n. counts n other) same
  first_pair DiskFault rose = inl (rose, refl)
  first_pair NoMemory same = ap (λ n. counts n other) same

  second_pair : (why : DurableRefusal) → DiskCause before now why → PairCause (counts other before) (counts other now) why
  second_pair NotAJournal same = ap (counts other) same
  second_pair (Version found) same = ap (counts other) same
  second_pair (Catalogue kept found) same = ap (counts other) same
  second_pair (Damaged place) same = ap (counts other) same
  second_pair DiskFault rose = inr (refl, rose)
  second_pair NoMemory same = ap (counts other) same

  pub first_cause : {T : Type 0} (result : Result T FeedFault) → ActiveCause before now result → DisksCause (counts before other) (counts now other) result
  first_cause (Ok x) same = ap (λ n. counts n other) same
  first_cause (Err (Refused why)) cause = first_pair why cause
  first_cause (Err WriteFault) same = ap (λ n. counts n other) same

  pub second_cause : {T : Type 0} (result : Result T FeedFault) → ActiveCause before now result → DisksCause (counts other before) (counts other now) result
  second_cause (Ok x) same = ap (counts other) same
  second_cause (Err (Refused why)) cause = second_pair why cause
  second_cause (Err WriteFault) same = ap (counts other) same
