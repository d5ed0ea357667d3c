-- Source: own.
-- The kind of bytes by their length and the first of them.
use Rattle.std.specs.Prelude.{ℕ, ◌==◌, nat_le, ◌&&◌, ◌||◌, if◌then◌else◌, List, slice_index_or}
use Rattle.def_log.specs.declared.kind.DiskKind.{DiskKind}
use Rattle.def_log.specs.declared.kind.DiskKind.TheVariants.{Idle, Plain, State, Other}
use Rattle.def_log.specs.Kinds.{mark_is, plain_mark, state_mark, is_seeded, generation_of}

-- up to the end of the seed
abbrev pub first_bytes : ℕ
first_bytes = 73

abbrev pub kind_by : ℕ → List ℕ → DiskKind
kind_by size first =
    if nat_le size 1 || (slice_index_or first 0 0 == 0) then Idle else
    (if nat_le 42 size && mark_is first plain_mark then Plain else
    (if nat_le 66 size && (mark_is first state_mark && is_seeded first) then State (generation_of first) else Other))
