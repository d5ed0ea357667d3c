-- Source: own.
-- The entries that a pass of a desk made.
use Rattle.std.specs.Prelude.{List}
use Rattle.def_history.specs.declared.entry.Entry.{Entry}
use Rattle.boss_lock.specs.Places.{entries_at}
use Rattle.boss_shared.specs.declared.desk.Desk as desk

module _ {G Pass : Type 0} (g : desk.Ghosts G Pass) where
  abbrev pub own_of : Pass → List Entry
  own_of pass = entries_at (g.seen pass) (g.mine pass)
