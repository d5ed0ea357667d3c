-- Source: own over a binary heap (Williams, CACM 7(6), 1964).
use Rattle.std.specs.Prelude.{◌≡◌, ℕ, ◌<◌, ◌≤◌, ◌^◌, List, length, Option, Some, None, is_some, count_by, slice_index_or}
use Rattle.boss_timers.specs.declared.entry.Entry.{Entry}
use Rattle.boss_timers.specs.Heap.{IsHeap, IsIndexed, entries_of, times, weight_at}

-- the timer of this slot goes off first, and of those that go off at once it has the least slot
pub record IsFirst (times : List (Option ℕ)) (slot moment : ℕ) : Type 0 where
  pub is : slice_index_or times slot None ≡ Some moment
  pub earliest : (other at : ℕ) → slice_index_or times other None ≡ Some at → moment ≤ at
  pub least : (other : ℕ) → slice_index_or times other None ≡ Some moment → slot ≤ other

-- how timers are kept: a heap whose entries are found by slot, with room for one of each slot
pub record IsKept (entries : List Entry) (places : List (Option ℕ)) (most : ℕ) : Type 0 where
  pub heap : IsHeap (length entries) (weight_at entries)
  pub indexed : IsIndexed entries places
  pub counted : count_by is_some (times entries places) ≡ length entries
  pub room : length places ≤ most
  pub few : length places < 2 ^ 32

-- and with their moments and slots in two lists, each with room for one of each slot
pub record IsLaid (moments slots : List ℕ) (places : List (Option ℕ)) (most more : ℕ) : Type 0 where
  pub pairs : length slots ≡ length moments
  pub kept : IsKept (entries_of moments slots) places most
  pub room : length places ≤ more
