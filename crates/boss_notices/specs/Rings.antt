-- Source: own.
use Rattle.std.specs.Prelude.{◌≡◌, ℕ, ◌≤◌, ◌+◌, ◌==◌, min, max, if◌then◌else◌, List, [], ◌∷◌, ◌++◌, slice_get, unwrap_or}
use Rattle.std.specs.Option.{option_map_or}
use Rattle.circular_buffer.specs.Buffer.{keep_last}
use Rattle.boss_model.specs.Limits.{last_number, most_processes, notices_kept}
use Rattle.boss_model.specs.Queries.{numbered_from}
use Rattle.boss_model.specs.declared.notice.Notice.{Notice}
use Rattle.boss_model.specs.declared.notice.What.{What}

-- what a process has been told: how many notices in all, and the last of them, in order of number
pub record Ring : Type 0 where
  pub count : ℕ
  pub kept : List Notice

-- a process that has been told nothing
abbrev pub no_notices : Ring
no_notices = record { count = 0; kept = [] }

abbrev pub ring_of : List Ring → ℕ → Ring
ring_of rings owner = unwrap_or (slice_get rings owner) no_notices

-- one notice more, with the next number, and at most 1,024 are kept, the last ones; after the last number none is told
abbrev pub posted : ℕ → ℕ → What → Ring → Ring
posted at txn what ring = if ring.count == last_number
    then ring
    else record {
      count = ring.count + 1;
      kept = keep_last notices_kept (ring.kept ++ (record { number = ring.count + 1; at = at; txn = txn; what = what }) ∷ []);
    }

-- the least number that is kept, or the next one where none is
abbrev pub first_kept : Ring → ℕ
first_kept ring = option_map_or (λ notice. notice.number) (slice_get ring.kept 0) (ring.count + 1)

-- where an answer to a question from a number on starts
abbrev pub start : Ring → ℕ → ℕ
start ring number = min (max number (first_kept ring)) (ring.count + 1)

-- what is answered to a question for at most `most` notices from a number on
abbrev pub notices_from : Ring → ℕ → ℕ → List Notice
notices_from ring number most = numbered_from (start ring number) most ring.kept

-- so many rings are kept, with a flag for each, in lists that have room for those of all processes
pub record AreRings (rings flags ring_room flag_room : ℕ) : Type 0 where
  pub flagged : flags ≡ rings
  pub few : rings ≤ most_processes
  pub rings_fit : most_processes ≤ ring_room
  pub flags_fit : most_processes ≤ flag_room
