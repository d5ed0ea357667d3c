-- Source: own (how a worker keeps minimum times).
-- What becomes of a want that is due: it is written, or held.
use Rattle.std.specs.Prelude.{◌≡◌, ℕ, ℤ, ◌+◌, max, Bool, true, false, if◌then◌else◌, ◌==◌, List, [], ◌∷◌, ◌++◌, Option, Some, None, slice_index_or, slice_set}
use Rattle.boss_model.specs.declared.answer.Answer.{Answer}
use Rattle.def_guards.specs.declared.guard.Guard.{Guard}
use Rattle.def_guards.specs.declared.guard.Held.{Held}
use Rattle.def_guards.specs.Guards.{guard_for, is_free, shown_by, written, holding}
use Rattle.def_guards.specs.declared.guard.Due.{Due}

-- the greatest reading of the clock so far, and a guard for each point of the plant
pub record Watch : Type 0 where
  pub now : ℕ
  pub guards : List Guard

abbrev pub after_reading : ℕ → Watch → Watch
after_reading reading watch = record { now = max watch.now reading; guards = watch.guards }

abbrev pub guard_at : List Guard → ℕ → Guard
guard_at guards point = slice_index_or guards point (guard_for 0 0)

-- ---- one want

-- a want, and the moment at which it was decided what becomes of it
pub record Decision : Type 0 where
  pub point : ℕ
  pub version : ℕ
  pub value : ℤ
  pub now : ℕ

abbrev pub decided : Due → ℕ → Decision
decided want now = record { point = want.point; version = want.version; value = want.value; now = now }

-- why it is written: its point may be written so, or else the point's reading showed it
pub data Reason : Type 0 where
  passed : Reason
  shown : Answer → Reason

-- It is written, and after a reading of the clock reported, whether or not the device took it; or it is held, as the point's
-- reading did not show it
pub data Act : Type 0 where
  wrote : Decision → Reason → Bool → ℕ → Answer → Act
  kept : Decision → Answer → Act

abbrev pub want_of : Act → Due
want_of (wrote d reason ok told answer) = record { point = d.point; version = d.version; value = d.value }
want_of (kept d answer) = record { point = d.point; version = d.version; value = d.value }

abbrev pub IsReason : Guard → Decision → Reason → Type 0
IsReason guard d passed = is_free guard d.value d.now ≡ true
IsReason guard d (shown answer) = (is_free guard d.value d.now ≡ false) × (shown_by answer d.value ≡ true)

-- what becomes of this want
abbrev pub IsAct : Watch → Due → Act → Type 0
IsAct watch want (wrote d reason ok told answer) = (d ≡ decided want watch.now) × IsReason (guard_at watch.guards d.point) d reason
IsAct watch want (kept d answer) = (d ≡ decided want watch.now) × (is_free (guard_at watch.guards d.point) d.value d.now ≡ false) × (shown_by answer d.value ≡ false)

abbrev pub held_by : Decision → Held
held_by d = record { version = d.version; value = d.value }

abbrev pub after_act : Act → Watch → Watch
after_act (wrote d reason ok told answer) watch = record {
  now = max watch.now told;
  guards = slice_set watch.guards d.point (written d.value watch.now (guard_at watch.guards d.point));
}
after_act (kept d answer) watch = record {
  now = watch.now;
  guards = slice_set watch.guards d.point (holding (held_by d) (guard_at watch.guards d.point));
}

abbrev pub after_acts : List Act → Watch → Watch
after_acts [] watch = watch
after_acts (act ∷ acts) watch = after_acts acts (after_act act watch)

-- the acts decide the first of these wants, in order, and these are left
abbrev pub Tried : Watch → List Due → List Act → List Due → Type 0
Tried watch due [] left = due ≡ left
Tried watch [] (act ∷ acts) left = ⊥
Tried watch (want ∷ due) (act ∷ acts) left = IsAct watch want act × Tried (after_act act watch) due acts left

abbrev pub is_write : Act → Bool
is_write (wrote d reason ok told answer) = true
is_write (kept d answer) = false

-- ---- what is due

abbrev pub is_skipped : Option ℕ → ℕ → Bool
is_skipped None place = false
is_skipped (Some point) place = point == place

abbrev pub held_at : ℕ → Option Held → List Due
held_at place None = []
held_at place (Some held) = record { point = place; version = held.version; value = held.value } ∷ []

-- the held wants of the points from a place on, by rising point, but not that of this one
abbrev pub due_from : ℕ → Option ℕ → List Guard → List Due
due_from place skipped [] = []
due_from place skipped (guard ∷ guards) = (if is_skipped skipped place then [] else held_at place guard.held) ++ due_from (place + 1) skipped guards

-- what a turn tries: the want that it was given, in place of a held one of its point, and all others that are held
abbrev pub due_of : Option Due → List Guard → List Due
due_of None guards = due_from 0 None guards
due_of (Some want) guards = want ∷ due_from 0 (Some want.point) guards
