-- Source: own.
-- The kind of a disk by its bytes, and which disk of a pair is in force.
use Rattle.std.specs.Prelude.{ℕ, ◌+◌, ◌^◌, ◌%◌, ◌==◌, nat_le, Bool, ◌&&◌, ◌||◌, true, if◌then◌else◌, List, length, take, drop, codes, bytes_eq, slice_index_or}
use Rattle.std.specs.Int.{w64, from_be_bytes}
use Rattle.def_log.specs.declared.kind.DiskKind.{DiskKind}
use Rattle.def_log.specs.declared.kind.DiskKind.TheVariants.{Idle, Plain, State, Other}
use Rattle.def_seal.specs.Seals.{has_sums, seed_of}
use Rattle.def_log.specs.InForce.{InForce, Foreign, Neither, First, Second}

-- ---- kinds

-- the mark in the bytes 1 to 7. Byte 0 is written last, and may be anything but 0 where a stop came as it was written.
abbrev pub mark_is : List ℕ → List ℕ → Bool
mark_is bytes text = bytes_eq (take 7 (drop 1 bytes)) text

abbrev pub plain_mark : List ℕ
plain_mark = codes "OSSJRNL"

abbrev pub state_mark : List ℕ
state_mark = codes "OSSSNAP"

-- the generation of a kept state: eight bytes at 41
abbrev pub generation_of : List ℕ → ℕ
generation_of bytes = from_be_bytes w64 (take 8 (drop 41 bytes))

-- from version 3 on a kept state has the seed of its sums behind its length: eight bytes at 65
abbrev pub is_seeded : List ℕ → Bool
is_seeded bytes = if has_sums (slice_index_or bytes 8 0) then bytes_eq (take 8 (drop 65 bytes)) (seed_of bytes) else true

abbrev pub is_state : List ℕ → Bool
is_state bytes = nat_le 66 (length bytes) && (mark_is bytes state_mark && is_seeded bytes)

abbrev pub is_idle : List ℕ → Bool
is_idle bytes = nat_le (length bytes) 1 || (slice_index_or bytes 0 0 == 0)

abbrev pub kind_of : List ℕ → DiskKind
kind_of bytes =
    if is_idle bytes then Idle else
    (if nat_le 42 (length bytes) && mark_is bytes plain_mark then Plain else
    (if is_state bytes then State (generation_of bytes) else Other))

-- ---- pairs

-- the one generation comes after the other
abbrev pub follows : ℕ → ℕ → Bool
follows before after = after == (before + 1) % 2 ^ 64

-- Which disk is in force: of two kept states the second only where it follows the first; a kept state before a journal
-- without one; a journal without one only on the first disk.
abbrev pub in_force : DiskKind → DiskKind → InForce
in_force Other second = Foreign
in_force first Other = Foreign
in_force first Plain = Foreign
in_force (State g) (State h) = if follows g h then Second else First
in_force (State g) Idle = First
in_force Idle (State h) = Second
in_force Plain (State h) = Second
in_force Plain Idle = First
in_force Idle Idle = Neither
