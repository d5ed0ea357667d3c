-- Source: own.
-- The list of transactions as it stands in memory: one that is forgotten leaves its number.
use Rattle.std.specs.Prelude.{ℕ, ◌<◌, Bool, true, false, List, [], ◌∷◌, Option, Some, None}
use Rattle.boss_stages.specs.declared.entry.Entry.{Entry}
use Rattle.boss_stages.specs.declared.entry.Entry.TheVariants.{Kept, Forgotten}
use Rattle.boss_stages.specs.Stages.{Tracked, number}

-- the transactions that are kept, in order of number, and how many there is room for
pub record Listed : Type 0 where
  pub kept : List Tracked
  pub room : ℕ

-- how many entries of forgotten transactions there are always fewer of
abbrev pub forgotten_left : ℕ
forgotten_left = 16384

abbrev pub entry_number : Entry → ℕ
entry_number (Kept kept) = number kept
entry_number (Forgotten txn) = txn

abbrev pub entry_kept : Entry → Option Tracked
entry_kept (Kept kept) = Some kept
entry_kept (Forgotten txn) = None

abbrev pub is_kept : Entry → Bool
is_kept (Kept kept) = true
is_kept (Forgotten txn) = false

-- its transaction changes so
abbrev pub entry_with : (Tracked → Tracked) → Entry → Entry
entry_with change (Kept kept) = Kept (change kept)
entry_with change (Forgotten txn) = Forgotten txn

-- the transactions that are kept
abbrev pub all_kept : List Entry → List Tracked
all_kept [] = []
all_kept (Kept kept ∷ entries) = kept ∷ all_kept entries
all_kept (Forgotten txn ∷ entries) = all_kept entries

-- the entries are in order of number
abbrev pub AllAbove : ℕ → List Entry → Type 0
AllAbove txn [] = Unit {0}
AllAbove txn (entry ∷ entries) = (txn < entry_number entry) × AllAbove txn entries

abbrev pub Rising : List Entry → Type 0
Rising [] = Unit {0}
Rising (entry ∷ entries) = AllAbove (entry_number entry) entries × Rising entries
