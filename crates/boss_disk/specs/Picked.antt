-- Source: own.
use Rattle.std.specs.Prelude.{◌≡◌, ◌≢◌, ℕ, ◌-◌, ◌^◌, ◌/◌, ◌%◌, ◌<◌, ◌==◌, if◌then◌else◌, List, length, slice_index, Option, Some, None, bit_and}
use Rattle.std.specs.List.{slice_index_or}
use Rattle.boss_disk.specs.Record.{DiskState}

-- a byte of an image, by the number that picks the image, its place, its mark and the byte that is there now: one that
-- stays is there; of the others 1 picks the new ones, 2 picks 255 less these, and any other number those at whose place
-- (modulo 64) it has a bit that is set, and 0 elsewhere
abbrev pub picked : ℕ → ℕ → Option ℕ → ℕ → ℕ
picked pick place (Some kept) byte = kept
picked pick place None byte =
    if pick == 1 then byte
    else (if pick == 2 then 255 - byte else (if bit_and (pick / 2 ^ (place % 64)) 1 == 1 then byte else 0))

-- an image of the disk: 0 picks what the last sync left, and any other number an image of the present length
pub record IsPicked (pick : ℕ) (state : DiskState) (image : List ℕ) : Type 0 where
  pub last : pick ≡ 0 → image ≡ state.synced
  pub size : pick ≢ 0 → length image ≡ length state.bytes
  pub each : pick ≢ 0 → (place : ℕ) → place < length image
      → slice_index image place ≡ picked pick place (slice_index_or state.story.window.stays place None) (slice_index state.bytes place)
