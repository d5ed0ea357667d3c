-- Flags, as one end after another raises them.
use Rattle.std.proofs.Common.{◌≡◌, ℕ, ◌+◌, ◌-◌, ◌^◌, ◌≤◌, min, true, if◌then◌else◌, List, [], ◌∷◌, ◌++◌, refl, ap, sym, subst, arith}
use Rattle.def_lanes.specs.Works.{Cut, not_cut, by_disk, by_clock, by_memory, Work, clock_cuts, course_of, is_clock}
use Rattle.def_lanes.proofs.Lists.{each-map}
use Rattle.def_lanes.proofs.Owners.{clock_cuts-append}
use Rattle.boss_worker.specs.declared.flags.Flags.{Flags}
use Rattle.boss_worker.specs.declared.trouble.Trouble.{Trouble}
use Rattle.boss_worker.specs.declared.trouble.Trouble.TheVariants.{Nothing, Disk, Clock, Memory}
use Rattle.boss_worker.specs.Troubles.{flags_after, cut_by, Counts, ClockTrouble}
use Rattle.boss_worker.specs.Visits.{IsMarked, IsFlagged, AreFlagged}

-- a flag that stands stays
pub marked-more : (flags more : Flags) → (flags.disk ≡ true → more.disk ≡ true) → (flags.clock ≡ true → more.clock ≡ true) → (flags.memory ≡ true → more.memory ≡ true) → (cut : Cut) →
    IsMarked flags cut → IsMarked more cut
marked-more flags more disk clock memory not_cut marked = tt
marked-more flags more disk clock memory by_disk marked = disk marked
marked-more flags more disk clock memory by_clock marked = clock marked
marked-more flags more disk clock memory by_memory marked = memory marked

pub flagged-more : (flags more : Flags) → (flags.disk ≡ true → more.disk ≡ true) → (flags.clock ≡ true → more.clock ≡ true) → (flags.memory ≡ true → more.memory ≡ true) → (works : List Work) →
    AreFlagged flags works → AreFlagged more works
flagged-more flags more disk clock memory works flagged = each-map (IsFlagged flags) (IsFlagged more) (λ work. marked-more flags more disk clock memory (course_of work).cut) works flagged

-- by one end more, which raises its own flag
pub flagged-after : (trouble : Trouble) (flags : Flags) (works : List Work) → AreFlagged flags works → AreFlagged (flags_after trouble flags) works
flagged-after Nothing flags works flagged = flagged
flagged-after Disk flags works flagged = flagged-more flags (flags_after Disk flags) (λ is. refl) (λ is. is) (λ is. is) works flagged
flagged-after Clock flags works flagged = flagged-more flags (flags_after Clock flags) (λ is. is) (λ is. refl) (λ is. is) works flagged
flagged-after Memory flags works flagged = flagged-more flags (flags_after Memory flags) (λ is. is) (λ is. is) (λ is. refl) works flagged

pub marked-after : (trouble : Trouble) (flags : Flags) → IsMarked (flags_after trouble flags) (cut_by trouble)
marked-after Nothing flags = tt
marked-after Disk flags = refl
marked-after Clock flags = refl
marked-after Memory flags = refl

pub host-after : (trouble : Trouble) (flags : Flags) → (flags_after trouble flags).host ≡ flags.host
host-after Nothing flags = refl
host-after Disk flags = refl
host-after Clock flags = refl
host-after Memory flags = refl

pub disk-after : (trouble : Trouble) (flags : Flags) → ¬ (trouble ≡ Disk) → (flags_after trouble flags).disk ≡ flags.disk
disk-after Nothing flags other = refl
disk-after Disk flags other = absurd (other refl)
disk-after Clock flags other = refl
disk-after Memory flags other = refl

pub clock-after : (trouble : Trouble) (flags : Flags) (before now : ℕ) → ¬ (trouble ≡ Disk) → ClockTrouble before now trouble → Counts flags.clock before → Counts (flags_after trouble flags).clock now
clock-after Nothing flags before now other cause counts = subst (Counts flags.clock) (sym cause) counts
clock-after Disk flags before now other cause counts = absurd (other refl)
clock-after Clock flags before now other cause counts = omega (arith, cause)
clock-after Memory flags before now other cause counts = subst (Counts flags.clock) (sym cause) counts

-- one failed reading more where the clock cut a work off
pub cuts-more : (trouble : Trouble) (work : Work) (works : List Work) (before now : ℕ) → (course_of work).cut ≡ cut_by trouble → ¬ (trouble ≡ Disk) → ClockTrouble before now trouble →
    min (clock_cuts works) (2 ^ 64 - 1) ≤ before → min (clock_cuts (works ++ work ∷ [])) (2 ^ 64 - 1) ≤ now
cuts-more trouble work works before now is other cause counts =
    let all : clock_cuts (works ++ work ∷ []) ≡ clock_cuts works + clock_cuts (work ∷ []) = clock_cuts-append works (work ∷ []) in
    one trouble (clock_cuts (work ∷ [])) (ap (λ cut. (if is_clock cut then 1 else 0) + 0) is) other cause all
  where
    one : (t : Trouble) (count : ℕ) → count ≡ (if is_clock (cut_by t) then 1 else 0) + 0 → ¬ (t ≡ Disk) → ClockTrouble before now t →
        clock_cuts (works ++ work ∷ []) ≡ clock_cuts works + count → min (clock_cuts (works ++ work ∷ [])) (2 ^ 64 - 1) ≤ now
    one Nothing count many not_disk calm all = let same : now ≡ before = calm in omega (arith, many, all, same, counts)
    one Disk count many not_disk calm all = absurd (not_disk refl)
    one Clock count many not_disk rose all = let more : min (before + 1) (2 ^ 64 - 1) ≤ now = rose in omega (arith, many, all, more, counts)
    one Memory count many not_disk calm all = let same : now ≡ before = calm in omega (arith, many, all, same, counts)
