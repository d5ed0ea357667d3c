-- Source: a binary heap (Williams, CACM 7(6), 1964); the index by slot own.
use Rattle.std.specs.Prelude.{◌≡◌, ◌≢◌, ℕ, zero, suc, ◌+◌, ◌*◌, ◌<◌, ◌≤◌, ◌^◌, List, [], ◌∷◌, length, map, Option, Some, None, slice_index_or}
use Rattle.boss_timers.specs.declared.entry.Entry.{Entry}

-- one timer comes before another where its weight is less: a slot is below 2^32
abbrev pub weight : Entry → ℕ
weight entry = entry.moment * 4294967296 + entry.slot

-- the timers with these moments and slots
abbrev pub entries_of : List ℕ → List ℕ → List Entry
entries_of [] slots = []
entries_of (moment ∷ moments) [] = []
entries_of (moment ∷ moments) (slot ∷ slots) = record { moment = moment; slot = slot } ∷ entries_of moments slots

abbrev pub entry_at : List Entry → ℕ → Entry
entry_at entries place = slice_index_or entries place (record { moment = 0; slot = 0 })

abbrev pub weight_at : List Entry → ℕ → ℕ
weight_at entries place = weight (entry_at entries place)

-- ---- heaps of n weights, by place: below `at` stand 2 at + 1 and 2 at + 2

-- none is less than the one above it
pub record IsHeap (n : ℕ) (w : ℕ → ℕ) : Type 0 where
  pub ordered : (above below : ℕ) → 2 * above < below → below ≤ 2 * above + 2 → below < n → w above ≤ w below

-- those below `at` are no less than the one above it
abbrev pub IsOver : ℕ → (ℕ → ℕ) → ℕ → Type 0
IsOver n w at = (above below : ℕ) → 2 * above < at → at ≤ 2 * above + 2 → 2 * at < below → below ≤ 2 * at + 2 → below < n → w above ≤ w below

-- a heap, but that the weight at `at` may be less than the one above it
pub record IsRising (n : ℕ) (w : ℕ → ℕ) (at : ℕ) : Type 0 where
  pub ordered : (above below : ℕ) → 2 * above < below → below ≤ 2 * above + 2 → below < n → below ≢ at → w above ≤ w below
  pub over : IsOver n w at

-- a heap, but that the weight at `at` may be greater than those below it
pub record IsSinking (n : ℕ) (w : ℕ → ℕ) (at : ℕ) : Type 0 where
  pub ordered : (above below : ℕ) → 2 * above < below → below ≤ 2 * above + 2 → below < n → above ≢ at → w above ≤ w below
  pub over : IsOver n w at

-- a heap, but that the weight at `at` may be any
pub record IsHole (n : ℕ) (w : ℕ → ℕ) (at : ℕ) : Type 0 where
  pub ordered : (above below : ℕ) → 2 * above < below → below ≤ 2 * above + 2 → below < n → above ≢ at → below ≢ at → w above ≤ w below
  pub over : IsOver n w at

-- n doubled so often
abbrev pub doubled : ℕ → ℕ → ℕ
doubled n zero = n
doubled n (suc times) = doubled (n + n) times

-- ---- entries that are found by their slots

abbrev pub place_of : List (Option ℕ) → ℕ → Option ℕ
place_of places slot = slice_index_or places slot None

-- each entry's slot leads to its place, and a slot that leads to a place is its entry's
pub record IsIndexed (entries : List Entry) (places : List (Option ℕ)) : Type 0 where
  pub leads : (place : ℕ) → place < length entries → place_of places (entry_at entries place).slot ≡ Some place
  pub back : (slot place : ℕ) → place_of places slot ≡ Some place → (place < length entries) × ((entry_at entries place).slot ≡ slot)
  pub few : length entries < 2 ^ 32

abbrev pub moment_at : List Entry → Option ℕ → Option ℕ
moment_at entries None = None
moment_at entries (Some place) = Some (entry_at entries place).moment

-- by slot the moments of the timers
abbrev pub times : List Entry → List (Option ℕ) → List (Option ℕ)
times entries places = map (moment_at entries) places

-- two entries have changed their places
pub record IsExchanged (old new : List Entry) (one other : ℕ) : Type 0 where
  pub here : entry_at new one ≡ entry_at old other
  pub there : entry_at new other ≡ entry_at old one
  pub others : (place : ℕ) → place ≢ one → place ≢ other → entry_at new place ≡ entry_at old place
