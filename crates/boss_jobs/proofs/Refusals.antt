-- A journal that was not opened, by its refusal.
use Rattle.std.proofs.Common.{◌≡◌, ◌⊎◌, inl, inr, ℕ, ◌+◌, Result, Ok, Err, IfOk, IfErr, ap, arith}
use Rattle.boss_model.specs.Catalogue.{Catalogue, actuators}
use Rattle.boss_outside.specs.Counts.{Rose}
use Rattle.boss_outside.specs.declared.sink.Sink as sink
use Rattle.boss_pair_find.specs.declared.refusal.DurableRefusal.{DurableRefusal}
use Rattle.boss_pair_find.specs.declared.refusal.DurableRefusal.TheVariants.{NotAJournal, Version, Catalogue as OtherCatalogue, Damaged, DiskFault, NoMemory}
use Rattle.boss_pair_find.specs.Refusals.{IsOfBytes, PairCause}
use Rattle.boss_opening.specs.declared.checking.Checked.{Checked}
use Rattle.boss_opening.specs.Checks.{CheckCause, ChecksPair}
use Rattle.boss_opening.specs.Opens.{digest_of, OpenRefuses, WhileLooked}
use Rattle.boss_disk_pair.specs.Causes.{Counts, OneRose}
use Rattle.boss_jobs.specs.Journals.{ChecksOver, HadNoJournal, HoldSame, Pair, RefusedJournal}
use Rattle.boss_jobs.specs.Openings.{TellsFound, TellsJournal}

abbrev pub both : Counts → ℕ
both counts = counts.first + counts.second

pub one-rose : (before now : Counts) → OneRose before now → Rose (both before) (both now)
one-rose before now rose = elim rose [
  | inl first ↦ (let grew : Rose before.first now.first = first.0 in let stood : now.second ≡ before.second = first.1 in omega arith)
  | inr second ↦ (let stood : now.first ≡ before.first = second.0 in let grew : Rose before.second now.second = second.1 in omega arith)
]

module _ {K : Type 0} (k : sink.Ghosts K) (catalogue : Catalogue) (was now : Pair) (old new : K) (status : ℕ) (before after : Counts)
    (counted : was.faults ≡ both before) (recounted : now.faults ≡ both after) where
  stood : after ≡ before → now.faults ≡ was.faults
  stood same = let s : both after ≡ both before = ap both same in omega arith

  pub told-so : (refusal : DurableRefusal) → (was.tells → OpenRefuses (actuators catalogue) (digest_of catalogue) was.first was.second refusal)
      → (was.tells → IsOfBytes refusal → HoldSame was now) → (was.tells → IsOfBytes refusal → WhileLooked was.stories now.stories) → TellsJournal k refusal old new status → PairCause before after refusal
      → HadNoJournal was now old new status ⊎ RefusedJournal k catalogue was now old new status
  told-so NotAJournal why held looked told cause =
      inr (record { refusal = NotAJournal; of_bytes = tt; refuses = why; tells = told; holds = λ tells. held tells tt; faults = stood cause; images = λ tells _. looked tells tt })
  told-so (Version found) why held looked told cause =
      inr (record { refusal = Version found; of_bytes = tt; refuses = why; tells = told; holds = λ tells. held tells tt; faults = stood cause; images = λ tells _. looked tells tt })
  told-so (OtherCatalogue kept found) why held looked told cause =
      inr (record { refusal = OtherCatalogue kept found; of_bytes = tt; refuses = why; tells = told; holds = λ tells. held tells tt; faults = stood cause; images = λ tells _. looked tells tt })
  told-so (Damaged place) why held looked told cause =
      inr (record { refusal = Damaged place; of_bytes = tt; refuses = why; tells = told; holds = λ tells. held tells tt; faults = stood cause; images = λ tells _. looked tells tt })
  told-so DiskFault why held looked told cause =
      let rose : Rose (both before) (both after) = one-rose before after cause in
      inl (record { why = inl (told.0, omega arith); untouched = told.1 })
  told-so NoMemory why held looked told cause = inl (record { why = inr (told.0, stood cause); untouched = told.1 })

  -- ---- of a check

  pub found-so : (found : Result Checked DurableRefusal) → (was.tells → IfOk found (ChecksPair (actuators catalogue) (digest_of catalogue) was.first was.second))
      → (was.tells → IfErr found (OpenRefuses (actuators catalogue) (digest_of catalogue) was.first was.second))
      → (was.tells → HoldSame was now) → (was.tells → WhileLooked was.stories now.stories) → TellsFound k found old new status → CheckCause before after found → ChecksOver k catalogue was now old new status
  found-so (Ok checked) stands why held looked told cause =
      record { did = inr (inr (record { checked = checked; stands = stands; tells = told; faults = stood cause })); holds = held; images = λ tells _. looked tells }
  found-so (Err refusal) stands why held looked told cause = record {
    did = elim (told-so refusal why (λ tells _. held tells) (λ tells _. looked tells) told cause) [ inl none ↦ inl none | inr refused ↦ inr (inl refused) ];
    holds = held;
    images = λ tells _. looked tells;
  }
