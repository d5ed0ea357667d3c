-- Source: own.
use Rattle.std.specs.Prelude.{ℕ, Bool, List, [], ◌∷◌, ◌++◌, length, take}
use Rattle.std.specs.List.{fold}
use Rattle.boss_disk.specs.declared.failures.Failures.{Failures}
use Rattle.boss_disk.specs.declared.memory.DiskCall.{DiskCall}
use Rattle.boss_disk.specs.declared.memory.DiskCall.TheVariants.{Write, Cut, Sync, WriteWhole}
use Rattle.boss_disk.specs.Story.{Story}
use Rattle.boss_disk.specs.Window.{Window, settled, after_write, after_cut, overwritten}

-- a disk in memory: the bytes that it was made with, its calls that left something behind, and whether it writes bytes whole
pub record DiskRecord : Type 0 where
  pub start : List ℕ
  pub calls : List DiskCall
  pub failures : Failures
  pub is_whole : Bool

-- what its calls lead to: the bytes that a read gives, those that it gave at the last sync, and the story
pub record DiskState : Type 0 where
  pub bytes : List ℕ
  pub synced : List ℕ
  pub story : Story

-- the disk as it was made
abbrev pub fresh : List ℕ → DiskState
fresh bytes = record { bytes = bytes; synced = bytes; story = record { past = []; window = settled bytes } }

-- the bytes after a call
abbrev pub bytes_after : List ℕ → DiskCall → List ℕ
bytes_after old (Write at bytes) = overwritten at bytes old
bytes_after old (Cut size) = take size old
bytes_after old Sync = old
bytes_after old (WriteWhole at bytes) = overwritten at bytes old

-- the window after a call of a disk that reads these bytes
abbrev pub window_after : List ℕ → Window → DiskCall → Window
window_after held window (Write at bytes) = after_write at (length bytes) window
window_after held window (Cut size) = after_cut size window
window_after held window Sync = settled held
window_after held window (WriteWhole at bytes) = settled (overwritten at bytes held)

-- the bytes that the last sync left, after a call
abbrev pub synced_after : List ℕ → List ℕ → DiskCall → List ℕ
synced_after held synced (Write at bytes) = synced
synced_after held synced (Cut size) = synced
synced_after held synced Sync = held
synced_after held synced (WriteWhole at bytes) = overwritten at bytes held

-- the disk after a call
abbrev pub after : DiskState → DiskCall → DiskState
after state call = record {
  bytes = bytes_after state.bytes call;
  synced = synced_after state.bytes state.synced call;
  story = record {
    past = state.story.past ++ state.story.window ∷ [];
    window = window_after state.bytes state.story.window call;
  };
}

-- the disk after all its calls
abbrev pub state_of : DiskRecord → DiskState
state_of disk = fold after (fresh disk.start) disk.calls
