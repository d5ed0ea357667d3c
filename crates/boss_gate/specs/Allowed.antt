-- Source: own.
-- What a gate says of the entries that a pass made: each attach among them was of a name that it admits, and each submit was allowed
-- for the name that was held at its place.
use Rattle.std.specs.Prelude.{◌≡◌, List, [], ◌∷◌, ◌++◌, None}
use Rattle.boss_shared.specs.Gates.{denied_at, held_by, Gate, Holding}
use Rattle.def_history.specs.declared.entry.Entry.{Entry}
use Rattle.def_history.specs.declared.entry.Entry.TheVariants.{Did, Broke}
use Rattle.def_history.specs.History.{deeds}

-- what is held behind an entry
abbrev pub held_behind : Entry → Holding → Holding
held_behind (Did session command moment answer) held = held_by session command answer held
held_behind (Broke session commands others) held = held

-- and behind all of these
abbrev pub held_over : List Entry → Holding → Holding
held_over [] held = held
held_over (entry ∷ entries) held = held_over entries (held_behind entry held)

-- the gate does not deny this entry's command by what is held before it; a mark is of commands that were not done
abbrev pub IsAllowedAt : Gate → Holding → Entry → Type 0
IsAllowedAt gate held (Did session command moment answer) = denied_at gate held session command ≡ None
IsAllowedAt gate held (Broke session commands others) = Unit {0}

abbrev pub AreAllowed : Gate → Holding → List Entry → Type 0
AreAllowed gate held [] = Unit {0}
AreAllowed gate held (entry ∷ entries) = IsAllowedAt gate held entry × AreAllowed gate (held_behind entry held) entries

-- From one time to another a pass did these: each of its attaches and submits was allowed, and what it holds is what they leave
pub record Judged (gate : Gate) (own : List Entry) (held : Holding) (own' : List Entry) (held' : Holding) : Type 0 where
  pub made : List Entry
  pub deeds_are : deeds own' ≡ deeds own ++ made
  pub held_is : held' ≡ held_over made held
  pub allowed : AreAllowed gate held made
