-- Source: own.
use Rattle.std.specs.Prelude.{◌≡◌, ℕ, ◌==◌, ◌&&◌, ℤ, Bool, false, List, [], ◌∷◌, length, slice_index_or}
use Rattle.std.specs.List.{list_any}
use Rattle.boss_model.specs.declared.state.Lease.{Lease}
use Rattle.boss_model.specs.declared.state.Pending.{Pending}
use Rattle.boss_model.specs.Submit.{is_taken}
use Rattle.boss_model.specs.Target.{in_force, playing, value_of}
use Rattle.boss_slots.specs.declared.place.Place.{Place}
use Rattle.boss_slots.specs.Tables.{IsKept, IsTimed}
use Rattle.boss_slots.specs.declared.tables.Tables.{Tables}

-- What is held: the moment of the last change, how many points there are, the live leases and the reversions under way in order
-- of slots, and for each point whether it was touched since its flag was cleared.
pub record Held : Type 0 where
  pub now : ℕ
  pub points : ℕ
  pub leases : List Lease
  pub pending : List Pending
  pub touched : List Bool

abbrev pub is_touched : Held → ℕ → Bool
is_touched held point = slice_index_or held.touched point false

-- the value that a point is to have at a moment up to which nothing more is due
abbrev pub shown : ℤ → ℕ → Held → ℕ → ℤ
shown default moment held point = value_of default moment (in_force held.leases point) (playing held.pending point)

-- the lease holds one of these slots
abbrev pub in_slots : List Place → Lease → Bool
in_slots slots lease = list_any (λ slot. (lease.point == slot.point) && (lease.priority == slot.priority)) slots

-- how all of it is kept
pub record IsHeld (now : ℕ) (tables : Tables) (touched : List Bool) : Type 0 where
  pub kept : IsKept tables
  pub timed : IsTimed now tables
  pub flags : length touched ≡ length tables.arrays.items

-- stands where a list of slots has no more
abbrev pub first_place : Place
first_place = record { point = 0; priority = 0 }

abbrev pub is_at : ℕ → ℕ → Lease → Bool
is_at point priority lease = (lease.point == point) && (lease.priority == priority)

-- no slot is taken twice
abbrev pub AreApart : List Lease → Type 0
AreApart [] = Unit {0}
AreApart (lease ∷ leases) = (is_taken leases lease.point lease.priority ≡ false) × AreApart leases
