-- Source: own.
use Rattle.std.specs.Prelude.{◌≡◌, ℕ, ◌^◌, ◌≤◌, List, length, map, take, drop, Option, Some}
use Rattle.std.specs.List.{fold}
use Rattle.boss_disk.specs.declared.memory.DiskCall.{DiskCall}
use Rattle.boss_disk.specs.declared.memory.DiskCall.TheVariants.{Write, Cut, Sync, WriteWhole}
use Rattle.boss_disk.specs.Record.{fresh, bytes_after, after}
use Rattle.boss_disk.specs.Window.{written}

-- what stays of each byte after a write or a cut
abbrev pub stays_after : List (Option ℕ) → DiskCall → List (Option ℕ)
stays_after stays (Write at bytes) = written at (length bytes) stays
stays_after stays (Cut size) = take size stays
stays_after stays Sync = stays
stays_after stays (WriteWhole at bytes) = stays

-- the form in memory keeps the present bytes, and how many calls there were up to the last sync
pub record IsKept (start bytes : List ℕ) (calls : List DiskCall) (settled_calls : ℕ) : Type 0 where
  pub told : bytes ≡ (fold after (fresh start) calls).bytes
  pub fits : length bytes ≤ 2 ^ 62
  pub within : settled_calls ≤ length calls
  pub synced : (fold after (fresh start) calls).synced ≡ fold bytes_after start (take settled_calls calls)
  pub stays : (fold after (fresh start) calls).story.window.stays
      ≡ fold stays_after (map Some (fold after (fresh start) calls).synced) (drop settled_calls calls)
