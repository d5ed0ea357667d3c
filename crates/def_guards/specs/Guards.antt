-- Source: ASHRAE 135, clause 19.2 (minimum on and off times); that levels 1 to 5 go before them follows from slot 6,
-- which stands there for them.
-- What is kept of a point, and when a want of it may be written.
use Rattle.std.specs.Prelude.{ℕ, ◌-◌, ◌==◌, ℤ, pos, nat_abs, nat_le, Bool, true, false, not, ◌&&◌, ◌||◌, if◌then◌else◌, Option, Some, None, List, map}
use Rattle.std.specs.List.{list_any}
use Rattle.std.specs.Ordering.{int_eq}
use Rattle.boss_model.specs.declared.answer.Answer.{Answer}
use Rattle.boss_model.specs.declared.answer.Answer.TheVariants.{Reading}
use Rattle.boss_model.specs.declared.answer.Basis.{Basis}
use Rattle.boss_model.specs.declared.answer.Basis.TheVariants.{Lease}
use Rattle.boss_model.specs.Catalogue.{Catalogue, Point}
use Rattle.def_guards.specs.declared.guard.Guard.{Guard}
use Rattle.def_guards.specs.declared.guard.Held.{Held}
use Rattle.def_guards.specs.declared.guard.Stretch.{Stretch}

-- how long a value is to be kept
abbrev pub times_for : ℕ → ℕ → ℤ → ℕ
times_for on off value = if int_eq value (pos 1) then on else off

abbrev pub minimum : Guard → ℤ → ℕ
minimum guard = times_for guard.on guard.off

-- there was no write yet, or the last ones have this value, or they have been kept for their minimum time
abbrev pub is_free_after : (ℤ → ℕ) → Option Stretch → ℤ → ℕ → Bool
is_free_after minimum None value now = true
is_free_after minimum (Some last) value now = int_eq last.value value || nat_le (minimum last.value) (now - last.since)

abbrev pub is_free : Guard → ℤ → ℕ → Bool
is_free guard value now = is_free_after (minimum guard) guard.last value now

-- the last writes of one value, with one more that is decided now
abbrev pub stretch_after : Option Stretch → ℤ → ℕ → Stretch
stretch_after None value now = record { value = value; since = now }
stretch_after (Some last) value now = if int_eq last.value value then last else record { value = value; since = now }

abbrev pub written : ℤ → ℕ → Guard → Guard
written value now guard = record { on = guard.on; off = guard.off; last = Some (stretch_after guard.last value now); held = None }

abbrev pub holding : Held → Guard → Guard
holding held guard = record { on = guard.on; off = guard.off; last = guard.last; held = Some held }

-- the levels of priority that go before minimum times
abbrev pub is_ahead : Basis → Bool
is_ahead (Lease priority txn) = nat_le 1 priority && nat_le priority 5
is_ahead other = false

abbrev pub shown_by : Answer → ℤ → Bool
shown_by (Reading point read basis mark differed took) value = int_eq read value && is_ahead basis
shown_by other value = false

-- ---- the points of a catalogue

-- before the first write
abbrev pub guard_for : ℕ → ℕ → Guard
guard_for on off = record { on = on; off = off; last = None; held = None }

abbrev pub guard_of : Point → Guard
guard_of point = guard_for (nat_abs point.min_on) (nat_abs point.min_off)

abbrev pub guards_of : Catalogue → List Guard
guards_of catalogue = map guard_of catalogue.points

abbrev pub has_times : Point → Bool
has_times point = not (int_eq point.min_on (pos 0)) || not (int_eq point.min_off (pos 0))

abbrev pub is_guarded_at : ℕ → Point → Bool
is_guarded_at driver point = point.actuator.driver == driver && has_times point

-- a point of the driver has a minimum time
abbrev pub is_guarded : Catalogue → ℕ → Bool
is_guarded catalogue driver = list_any (is_guarded_at driver) catalogue.points
