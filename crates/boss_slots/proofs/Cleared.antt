-- Flags that are cleared one after another.
use Rattle.std.proofs.Common.{◌≡◌, ℕ, zero, suc, ◌+◌, ◌<◌, Bool, false, List, [], ◌∷◌, get_or, set, refl, ap, ◌∙◌, inl, inr, arith}
use Rattle.std.proofs.lemmas.Bool.{cases_eq}
use Rattle.boss_slots.specs.Flags.{IsFirst}

clear-stays : (flags : List Bool) (place k : ℕ) → get_or flags k false ≡ false → get_or (set flags place false) k false ≡ false
clear-stays [] place k is = is
clear-stays (f ∷ fs) zero zero is = refl
clear-stays (f ∷ fs) zero (suc k) is = is
clear-stays (f ∷ fs) (suc place) zero is = is
clear-stays (f ∷ fs) (suc place) (suc k) is = clear-stays fs place k is

clear-here : (flags : List Bool) (place : ℕ) → get_or (set flags place false) place false ≡ false
clear-here [] place = refl
clear-here (f ∷ fs) zero = refl
clear-here (f ∷ fs) (suc place) = clear-here fs place

-- up to the first flag that was set, none is once that one is cleared
pub cleared-below : (flags : List Bool) (place : ℕ) → IsFirst flags place → (k : ℕ) → k < place + 1 → get_or (set flags place false) k false ≡ false
cleared-below flags place next k within = elim (cases_eq k place) [
  | inl is ↦ ap (λ j. get_or (set flags place false) j false) is ∙ clear-here flags place
  | inr other ↦ clear-stays flags place k (next.first k (omega arith))
]
