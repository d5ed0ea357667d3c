-- What a refusal of the disk in force tells of the pair.
use Rattle.std.proofs.Common.{◌≡◌, inl, inr, ℕ, Bool, true, false, List, take, drop, get_or, refl, sym, ap, subst, ◌∙◌, arith}
use Rattle.std.specs.Prelude.{Some, Result, Ok, Err, IfErr, OnOk, MatchResult, slice_index}
use Rattle.std.proofs.lemmas.List.{get_or-take, get_or-drop}
use Rattle.boss_outside.specs.Counts.{Rose}
use Rattle.boss_pair_find.specs.declared.refusal.DurableRefusal.{DurableRefusal}
use Rattle.boss_pair_find.specs.declared.refusal.DurableRefusal.TheVariants.{NotAJournal, Version, Catalogue, Damaged, DiskFault, NoMemory}
use Rattle.boss_pair_find.specs.Refusals.{of_state, of_journal, FindRefuses, FrontRefuses, DiskCause, PairCause}
use Rattle.boss_pair_find.specs.Two.{counts}
use Rattle.boss_pair_find.proofs.Orders.{of_one, at_both}
use Rattle.boss_journal.specs.declared.refusal.OpenRefusal.{OpenRefusal}
use Rattle.boss_journal.specs.declared.refusal.OpenRefusal.TheVariants as opening
use Rattle.boss_journal.specs.Fronts as journals
use Rattle.boss_journal.specs.Opens as opens
use Rattle.boss_journal.specs.Opens.{OpenCause}
use Rattle.def_log.specs.InForce.{Neither, First}
use Rattle.def_log.specs.declared.kind.DiskKind.{DiskKind}
use Rattle.def_log.specs.declared.kind.DiskKind.TheVariants.{Plain, State}
use Rattle.def_log.specs.Kinds.{kind_of, in_force}
use Rattle.boss_snapshot.specs.Fronts.{version_of}
use Rattle.boss_snapshot.specs.declared.refusal.SnapshotRefusal.{SnapshotRefusal}
use Rattle.boss_snapshot.specs.declared.refusal.SnapshotRefusal.TheVariants as reading
use Rattle.boss_snapshot.specs.Refusals.{IsState, ReadCause, Refuses}
use Rattle.boss_disk_pair.specs.declared.forces.Force.{Force}
use Rattle.boss_disk_pair.specs.declared.forces.Force.TheVariants as forces
use Rattle.boss_disk_pair.specs.Causes.{Counts, OneRose}
use Rattle.boss_disk_pair.specs.Forces.{TellsForce}
use Rattle.boss_disk_pair.specs.Orders.{InOrder, first_of, second_of}
use Rattle.boss_disk_pair.specs.Rests.{IsInForce}

-- ---- why

module _ {D : Type 0} (reads : D → List ℕ) (second : Bool) (active spare : D) (here : InOrder (IsInForce second) second (reads active) (reads spare)) (digest : List ℕ) where
  abbrev Refused : DurableRefusal → Type 0
  Refused refusal = FindRefuses digest (reads (first_of second active spare)) (reads (second_of second active spare)) refusal

  pub front_refused : (refusal : DurableRefusal) → FrontRefuses digest (reads active) refusal → Refused refusal
  front_refused NotAJournal why = absurd why
  front_refused (Version found) why = of_one reads (λ bytes. Refuses digest bytes (reading.Version found)) second active spare here why
  front_refused (Catalogue kept found) why = of_one reads (λ bytes. Refuses digest bytes (reading.Catalogue kept found)) second active spare here why
  front_refused (Damaged place) why = absurd why
  front_refused DiskFault why = tt
  front_refused NoMemory why = absurd why

  pub state_refused : (generation : ℕ) → kind_of (reads active) ≡ State generation → (refusal : SnapshotRefusal) → Refuses digest (reads active) refusal →
      Refused (of_state refusal)
  state_refused generation kind (reading.Version found) why = of_one reads (λ bytes. Refuses digest bytes (reading.Version found)) second active spare here why
  state_refused generation kind (reading.Catalogue kept found) why =
      of_one reads (λ bytes. Refuses digest bytes (reading.Catalogue kept found)) second active spare here why
  state_refused generation kind (reading.Damaged place) why =
      of_one reads (λ bytes. IsState (kind_of bytes) × Refuses digest bytes (reading.Damaged place)) second active spare here (subst IsState (sym kind) tt, why)
  state_refused generation kind reading.DiskFault why = tt
  state_refused generation kind reading.NoMemory why = of_one reads (λ bytes. IsState (kind_of bytes)) second active spare here (subst IsState (sym kind) tt)

-- a fault may be told of any pair
pub fault_refused : {T X : Type 0} (result : Result T (X × DurableRefusal)) (digest first second : List ℕ) → IfErr result (λ refused. refused.1 ≡ DiskFault) →
    IfErr result (λ refused. FindRefuses digest first second refused.1)
fault_refused (Ok x) digest first second is = tt
fault_refused (Err refused) digest first second is = subst (FindRefuses digest first second) (sym is) tt

-- ---- which disk is in force

module _ (first second : DiskKind) where
  pub forced_none : (force : Force) → force ≡ forces.Neither → TellsForce first second (Some force) → in_force first second ≡ Neither
  forced_none force is told = let this : TellsForce first second (Some forces.Neither) = subst (λ f. TellsForce first second (Some f)) is told in this

  pub forced_plain : (force : Force) → force ≡ forces.Plain → TellsForce first second (Some force) → (in_force first second ≡ First) × (first ≡ Plain)
  forced_plain force is told = let this : TellsForce first second (Some forces.Plain) = subst (λ f. TellsForce first second (Some f)) is told in this

-- in its order, a kept state
module _ {D : Type 0} (reads : D → List ℕ) (first second : D) (generation : ℕ) where
  abbrev Stands : Bool → D → D → Type 0
  Stands b active spare = InOrder (IsInForce b) b (reads active) (reads spare) × (kind_of (reads active) ≡ State generation)

  by_order : (b : Bool) → TellsForce (kind_of (reads first)) (kind_of (reads second)) (Some (forces.State b generation)) →
      Stands b (first_of b first second) (second_of b first second)
  by_order false told = (told.0, told.1)
  by_order true told = (told.0, told.1)

  pub forced_state : (force : Force) (b : Bool) (active spare : D) → force ≡ forces.State b generation →
      TellsForce (kind_of (reads first)) (kind_of (reads second)) (Some force) → active ≡ first_of b first second → spare ≡ second_of b first second →
      Stands b active spare
  forced_state force b active spare is told one other =
      at_both (Stands b) _ _ _ _ (sym one) (sym other)
      (by_order b (subst (λ f. TellsForce (kind_of (reads first)) (kind_of (reads second)) (Some f)) is told))

-- ---- by which count

module _ {D : Type 0} (faults : D → ℕ) (now was spare : D) where
  abbrev Before : Bool → Counts
  Before second = counts (faults (first_of second was spare)) (faults (second_of second was spare))

  abbrev After : Bool → Counts
  After second = counts (faults (first_of second now spare)) (faults (second_of second now spare))

  pub one_rose : (second : Bool) → Rose (faults was) (faults now) → OneRose (Before second) (After second)
  one_rose false rose = inl (rose, refl)
  one_rose true rose = inr (refl, rose)

  pub none_rose : (second : Bool) → faults now ≡ faults was → After second ≡ Before second
  none_rose false same = ap (λ n. counts n (faults spare)) same
  none_rose true same = ap (counts (faults spare)) same

  pub disk_cause : (second : Bool) (refusal : DurableRefusal) → DiskCause (faults was) (faults now) refusal → PairCause (Before second) (After second) refusal
  disk_cause second NotAJournal same = none_rose second same
  disk_cause second (Version found) same = none_rose second same
  disk_cause second (Catalogue kept found) same = none_rose second same
  disk_cause second (Damaged place) same = none_rose second same
  disk_cause second DiskFault rose = one_rose second rose
  disk_cause second NoMemory same = none_rose second same

  pub state_cause : (second : Bool) (refusal : SnapshotRefusal) → ReadCause (faults was) (faults now) refusal → PairCause (Before second) (After second) (of_state refusal)
  state_cause second (reading.Version found) same = none_rose second same
  state_cause second (reading.Catalogue kept found) same = none_rose second same
  state_cause second (reading.Damaged place) same = none_rose second same
  state_cause second reading.DiskFault rose = one_rose second rose
  state_cause second reading.NoMemory same = none_rose second same

  pub journal_cause : (second : Bool) (refusal : OpenRefusal) → OpenCause (faults was) (faults now) refusal → PairCause (Before second) (After second) (of_journal refusal)
  journal_cause second opening.NotAJournal same = none_rose second same
  journal_cause second (opening.Version found) same = none_rose second same
  journal_cause second (opening.Catalogue kept found) same = none_rose second same
  journal_cause second opening.DiskFault rose = one_rose second rose

-- a new disk is refused for a fault alone
pub only_fault : (digest bytes : List ℕ) (refusal : OpenRefusal) → journals.IsNew digest bytes → opens.Refuses digest bytes refusal → of_journal refusal ≡ DiskFault
only_fault digest bytes opening.NotAJournal new why = absurd (why.0 new)
only_fault digest bytes (opening.Version found) new why = absurd (why.0 new)
only_fault digest bytes (opening.Catalogue kept found) new why = absurd (why.0 new)
only_fault digest bytes opening.DiskFault new why = refl

-- ---- a front

pub ok_of : {E : Type 0} (P : Type 0) (Q : E → Type 0) (result : Result (Unit {0}) E) → MatchResult result (λ _. P) Q → OnOk result P
ok_of P Q (Ok x) told = told
ok_of P Q (Err e) told = tt

pub err_of : {E : Type 0} (P : Type 0) (Q : E → Type 0) (result : Result (Unit {0}) E) → MatchResult result (λ _. P) Q → IfErr result Q
err_of P Q (Ok x) told = tt
err_of P Q (Err e) told = told

-- the version is byte 8
pub version_read : (bytes into : List ℕ) → into ≡ take 1 (drop 8 bytes) → slice_index into 0 ≡ version_of bytes
version_read bytes into is = ap (λ l. get_or l 0 0) is ∙ get_or-take 1 (drop 8 bytes) 0 0 (omega arith) ∙ get_or-drop 8 bytes 0 0
