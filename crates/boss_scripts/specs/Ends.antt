-- Source: own.
-- The lines of a script, and how they came to their end.
use Rattle.std.specs.Prelude.{◌≡◌, ℕ, ◌<◌, Bool, false, true, List, [], ◌++◌, length, take, Option}
use Rattle.std.specs.List.{list_any}
use Rattle.boss_lines.specs.declared.reader.Next.{Next}
use Rattle.boss_lines.specs.declared.reader.Next.TheVariants.{Line, Finish, TooLong, ReadFault}
use Rattle.boss_lines.specs.Given.{GivesLines}
use Rattle.boss_model.specs.Catalogue.{Catalogue}
use Rattle.boss_model.specs.Limits.{most_lines}
use Rattle.boss_model.specs.Lines.{lines, whole_lines}
use Rattle.def_wire.specs.Script.{is_too_long}
use Rattle.def_history.specs.declared.entry.Entry.{Entry}
use Rattle.def_history.specs.History.{is_broken}
use Rattle.boss_outside.specs.Counts.{Rose}
use Rattle.boss_outside.specs.declared.source.ReadAt.{ReadAt}
use Rattle.boss_shared.specs.declared.keeper.Keeper as keeper
use Rattle.boss_scripts.specs.Keepers.{BreaksInTime, Kept, ThroughInTime}
use Rattle.boss_scripts.specs.Outside.{Outside, Trace}
use Rattle.boss_scripts.specs.Runs.{lines_taken, stop}
use Rattle.boss_scripts.specs.Scripts.{BrokeScript, RanScript}

-- one of the lines is too long
abbrev pub has_too_long : List (List ℕ) → Bool
has_too_long all = list_any is_too_long all

-- these bytes were read, and the others are left
abbrev pub WasRead : List ℕ → List ℕ → List ℕ → Type 0
WasRead read old new = old ≡ read ++ new

-- How a script ended that did not break off, by what it came to behind its last line; `Ran` says that it ran over these lines,
-- and whether it is over then. At the end of its source it ran over all lines, none of which is too long. Where a read failed it
-- ran over the lines that had come whole, and where a line is too long it ran up to this line, which is among the bytes that were
-- read, and told it as its last. Of more than 2^32 lines it ran over the first.
abbrev pub EndsOver : (List (List ℕ) → Bool → Type 0) → Outside → Outside → Next → Type 0
EndsOver Ran old new Finish = (new.left ≡ []) × (has_too_long (lines old.left) ≡ false) × (old.sink_tells → Ran (lines old.left) false)
EndsOver Ran old new ReadFault = (read : List ℕ) × WasRead read old.left new.left × (old.sink_tells → Ran (whole_lines read) false)
EndsOver Ran old new TooLong = (read : List ℕ) × WasRead read old.left new.left
    × (has_too_long (lines read) ≡ true) × (has_too_long (lines old.left) ≡ true) × (old.sink_tells → Ran (lines old.left) true)
EndsOver Ran old new Line = (read : List ℕ) × WasRead read old.left new.left
    × (most_lines < length (lines old.left)) × (old.sink_tells → Ran (take most_lines (lines old.left)) false)

module _ {V : Type 0} (v : keeper.Ghosts V) (catalogue : Catalogue) (before now : V) where
  -- The keeper made entries, and with them it took the lines that these bytes are given as, until it came to this end. The source was
  -- read in time.
  pub record TookLines (source_tells : Type 0) (bytes left : List ℕ) (reads reads' : Option (List ReadAt)) (sink_tells : Type 0) (old new : Trace) (end : Next) : Type 0 where
    pub entries : List Entry
    pub kept : Kept v before now entries
    pub taken : source_tells → (given : List (List ℕ)) × GivesLines most_lines bytes left given end × (has_too_long given ≡ false)
        × (sink_tells → ThroughInTime v catalogue bytes reads reads' (lines_taken catalogue given) stop before entries old new)

  -- The keeper made entries, and with them the lines of these bytes broke off. The source was read in time.
  pub record BrokeLines (source_tells : Type 0) (bytes : List ℕ) (reads reads' : Option (List ReadAt)) (sink_tells : Type 0) (old new : Trace) : Type 0 where
    pub entries : List Entry
    pub kept : Kept v before now entries
    pub broke : source_tells → sink_tells → BreaksInTime v catalogue bytes reads reads' (lines_taken catalogue (lines bytes)) before entries old new

  -- The keeper carried a script out over what was left of a source, from its state, and came to this end: the entries that it made
  -- are those of the script. A step was not made exactly where the disk failed, in this call.
  pub record CarriesOut (old new : Outside) (end : Next) : Type 0 where
    pub entries : List Entry
    pub kept : Kept v before now entries
    pub stopped : v.stopped now ≡ is_broken entries
    pub disk_fault : is_broken entries ≡ true → Rose (v.faults before) (v.faults now)
    pub ended : old.source_tells → EndsOver (λ all is_over. RanScript catalogue (v.state before) all is_over entries old new) old new end

  -- it broke off
  pub record LeavesOff (old new : Outside) : Type 0 where
    pub entries : List Entry
    pub kept : Kept v before now entries
    pub stopped : v.stopped now ≡ is_broken entries
    pub disk_fault : is_broken entries ≡ true → Rose (v.faults before) (v.faults now)
    pub broke : old.source_tells → old.sink_tells → BrokeScript catalogue (v.state before) (lines old.left) entries old new
