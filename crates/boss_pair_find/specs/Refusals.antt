-- Source: own.
-- Why nothing is found on a pair of disks.
use Rattle.std.specs.Prelude.{◌≡◌, ℕ, List, Result, Ok, Err}
use Rattle.def_log.specs.Kinds.{kind_of}
use Rattle.boss_outside.specs.Counts.{Rose}
use Rattle.boss_pair_find.specs.declared.refusal.DurableRefusal.{DurableRefusal}
use Rattle.boss_pair_find.specs.declared.refusal.DurableRefusal.TheVariants.{NotAJournal, Version, Catalogue, Damaged, DiskFault, NoMemory}
use Rattle.boss_pair_find.specs.Holds.{OfOneInForce, IsNoPair}
use Rattle.boss_journal.specs.declared.refusal.OpenRefusal.{OpenRefusal}
use Rattle.boss_journal.specs.declared.refusal.OpenRefusal.TheVariants as opening
use Rattle.boss_snapshot.specs.declared.refusal.SnapshotRefusal.{SnapshotRefusal}
use Rattle.boss_snapshot.specs.declared.refusal.SnapshotRefusal.TheVariants as reading
use Rattle.boss_snapshot.specs.Refusals.{IsState, Refuses}
use Rattle.boss_disk_pair.specs.Causes.{Counts, OneRose}

-- a refusal of a kept state, and one of a journal, as one of a pair
abbrev pub of_state : SnapshotRefusal → DurableRefusal
of_state (reading.Version found) = Version found
of_state (reading.Catalogue kept found) = Catalogue kept found
of_state (reading.Damaged place) = Damaged place
of_state reading.DiskFault = DiskFault
of_state reading.NoMemory = NoMemory

abbrev pub of_journal : OpenRefusal → DurableRefusal
of_journal opening.NotAJournal = NotAJournal
of_journal (opening.Version found) = Version found
of_journal (opening.Catalogue kept found) = Catalogue kept found
of_journal opening.DiskFault = DiskFault

-- The first of these that holds. What else makes a pair damaged, a state that is not sound and an open gate without a record that
-- leads on, is found as the state is put back and the log is read.
abbrev pub FindRefuses : List ℕ → List ℕ → List ℕ → DurableRefusal → Type 0
FindRefuses digest first second NotAJournal = IsNoPair first second
FindRefuses digest first second (Version found) = OfOneInForce (λ bytes. Refuses digest bytes (reading.Version found)) first second
FindRefuses digest first second (Catalogue kept found) = OfOneInForce (λ bytes. Refuses digest bytes (reading.Catalogue kept found)) first second
FindRefuses digest first second (Damaged place) = OfOneInForce (λ bytes. IsState (kind_of bytes) × Refuses digest bytes (reading.Damaged place)) first second
FindRefuses digest first second DiskFault = Unit {0}
FindRefuses digest first second NoMemory = OfOneInForce (λ bytes. IsState (kind_of bytes)) first second

-- a refusal for what the bytes are
abbrev pub IsOfBytes : DurableRefusal → Type 0
IsOfBytes NotAJournal = Unit {0}
IsOfBytes (Version found) = Unit {0}
IsOfBytes (Catalogue kept found) = Unit {0}
IsOfBytes (Damaged place) = Unit {0}
IsOfBytes DiskFault = ⊥
IsOfBytes NoMemory = ⊥

-- what is said of a front that is not known or of another catalogue
abbrev pub FrontRefuses : List ℕ → List ℕ → DurableRefusal → Type 0
FrontRefuses digest bytes NotAJournal = ⊥
FrontRefuses digest bytes (Version found) = Refuses digest bytes (reading.Version found)
FrontRefuses digest bytes (Catalogue kept found) = Refuses digest bytes (reading.Catalogue kept found)
FrontRefuses digest bytes (Damaged place) = ⊥
FrontRefuses digest bytes DiskFault = Unit {0}
FrontRefuses digest bytes NoMemory = ⊥

-- a fault is told exactly where the disk's count rose
abbrev pub DiskCause : ℕ → ℕ → DurableRefusal → Type 0
DiskCause before now NotAJournal = now ≡ before
DiskCause before now (Version found) = now ≡ before
DiskCause before now (Catalogue kept found) = now ≡ before
DiskCause before now (Damaged place) = now ≡ before
DiskCause before now DiskFault = Rose before now
DiskCause before now NoMemory = now ≡ before

-- the same of two disks
abbrev pub PairCause : Counts → Counts → DurableRefusal → Type 0
PairCause before now NotAJournal = now ≡ before
PairCause before now (Version found) = now ≡ before
PairCause before now (Catalogue kept found) = now ≡ before
PairCause before now (Damaged place) = now ≡ before
PairCause before now DiskFault = OneRose before now
PairCause before now NoMemory = now ≡ before

-- of a call that answers with the disks and why
abbrev pub AnswerCause : {T X : Type 0} → Counts → Counts → Result T (X × DurableRefusal) → Type 0
AnswerCause before now (Ok x) = now ≡ before
AnswerCause before now (Err refused) = PairCause before now refused.1
