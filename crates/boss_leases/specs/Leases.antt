-- Source: own (a slab and a stack of free keys); what a lease is: BOSS (Dawson-Haggerty et al., NSDI 2013),
-- transaction manager.
use Rattle.std.specs.Prelude.{◌≡◌, ℕ, ◌+◌, ◌≤◌, ◌^◌, ◌==◌, nat_lt, Bool, ◌&&◌, if◌then◌else◌, List, length, map, Option, Some, None, IsSome, is_none, is_some, count_by, slice_index_or}
use Rattle.boss_model.specs.declared.state.Lease.{Lease}
use Rattle.slab.specs.Slab.{Slab, get, slab_len}

-- the lease with this end in place of its own
abbrev pub until_then : ℕ → Option Lease → Option Lease
until_then until None = None
until_then until (Some lease) = Some (record lease { until = until })

-- ---- how leases are kept: each key that has one leads to its place in the slab

abbrev pub found : Slab Lease → Option ℕ → Option Lease
found slab None = None
found slab (Some place) = get slab place

abbrev pub seen : Slab Lease → List (Option ℕ) → List (Option Lease)
seen slab places = map (found slab) places

abbrev pub place_of : List (Option ℕ) → ℕ → Option ℕ
place_of places key = slice_index_or places key None

-- a key of the table that leads nowhere
abbrev pub is_unused : List (Option ℕ) → ℕ → Bool
is_unused places key = nat_lt key (length places) && is_none (place_of places key)

abbrev pub how_often : ℕ → List ℕ → ℕ
how_often key keys = count_by (λ other. other == key) keys

-- a key leads to a lease, no two keys to the same one, and each unused key stands once among the free ones
pub record IsKept (slab : Slab Lease) (places : List (Option ℕ)) (free : List ℕ) (most : ℕ) : Type 0 where
  pub there : (key place : ℕ) → place_of places key ≡ Some place → IsSome (get slab place)
  pub apart : (key other place : ℕ) → place_of places key ≡ Some place → place_of places other ≡ Some place → key ≡ other
  pub unused : (key : ℕ) → how_often key free ≡ (if is_unused places key then 1 else 0)
  pub all : length free + count_by is_some places ≡ length places
  pub room : slab_len slab + length free ≤ slab.capacity
  pub stack : length places ≤ most
  pub few : length places ≤ 2 ^ 31
