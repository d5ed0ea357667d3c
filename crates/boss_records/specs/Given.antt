-- Source: own.
-- What a reader gives: the value that the bytes begin with, and what is behind it.
use Rattle.std.specs.Prelude.{◌≡◌, ℕ, List, Option, Some, None, Result, Ok, Err}
use Rattle.boss_records.specs.declared.unread.NoSpelling.{NoSpelling}
use Rattle.boss_records.specs.declared.unread.Unread.{Unread}
use Rattle.boss_records.specs.declared.unread.Unread.TheVariants as unread

-- a reader that takes no memory
abbrev pub Finds : {X Y : Type 0} → (X → Y × List ℕ) → Result X NoSpelling → Option (Y × List ℕ) → Type 0
Finds view (Ok x) found = found ≡ Some (view x)
Finds view (Err e) found = found ≡ None

-- nothing was read: the bytes begin with no value, or no memory was to be had
abbrev pub Misses : {Y : Type 0} → Unread → Option Y → Type 0
Misses unread.NoSpelling found = found ≡ None
Misses unread.NoMemory found = Unit {0}

-- a reader that takes memory
abbrev pub Gives : {X Y : Type 0} → (X → Y × List ℕ) → Result X Unread → Option (Y × List ℕ) → Type 0
Gives view (Ok x) found = found ≡ Some (view x)
Gives view (Err e) found = Misses e found
