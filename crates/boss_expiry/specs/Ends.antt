-- Source: own.
-- Why a worker ended, and what its last turn left that was cut by the end.
use Rattle.std.specs.Prelude.{◌≡◌, ℕ, ◌<◌, Bool, true, List, [], ◌∷◌, ◌++◌}
use Rattle.boss_model.specs.declared.command.Command.{Command}
use Rattle.boss_outside.specs.Counts.{Rose}
use Rattle.def_history.specs.declared.entry.Entry.{Entry}
use Rattle.def_history.specs.declared.entry.Entry.TheVariants.{Broke}
use Rattle.def_history.specs.History.{is_broken}
use Rattle.def_lanes.specs.Works.{Cut, not_cut, by_clock, by_disk}
use Rattle.boss_expiry.specs.declared.end.WorkEnd.{WorkEnd}
use Rattle.boss_expiry.specs.declared.end.WorkEnd.TheVariants.{Finished, Closed, ClockFault, Stopped, DiskFault}

-- the clock failed exactly where its count rose
abbrev pub ClockCause : ℕ → ℕ → WorkEnd → Type 0
ClockCause before now Finished = now ≡ before
ClockCause before now Closed = now ≡ before
ClockCause before now ClockFault = Rose before now
ClockCause before now Stopped = now ≡ before
ClockCause before now DiskFault = now ≡ before

-- a pause said Close, or the mark of a failed disk is what the pass has seen last
abbrev pub EndCause : List Entry → Type 0 → Bool → ℕ → ℕ → WorkEnd → Type 0
EndCause seen pausing closed before now Finished = Unit {0}
EndCause seen pausing closed before now Closed = (pausing → closed ≡ true) × Rose before now
EndCause seen pausing closed before now ClockFault = now ≡ before
EndCause seen pausing closed before now Stopped = (is_broken seen ≡ true) × (now ≡ before)
EndCause seen pausing closed before now DiskFault = (is_broken seen ≡ true) × (now ≡ before)

-- all turns were taken exactly where the worker finished
abbrev pub TookTurns : ℕ → ℕ → WorkEnd → Type 0
TookTurns taken turns Finished = taken ≡ turns
TookTurns taken turns Closed = taken < turns
TookTurns taken turns ClockFault = taken < turns
TookTurns taken turns Stopped = taken < turns
TookTurns taken turns DiskFault = taken < turns

-- what cut the work off
abbrev pub cut_of : WorkEnd → Cut
cut_of Finished = not_cut
cut_of Closed = not_cut
cut_of ClockFault = by_clock
cut_of Stopped = by_disk
cut_of DiskFault = by_disk

-- a last reading of the clock that has no entry
abbrev pub unused : ℕ → WorkEnd → List ℕ
unused moment Finished = []
unused moment Closed = []
unused moment ClockFault = []
unused moment Stopped = moment ∷ []
unused moment DiskFault = moment ∷ []

-- the mark of a disk that failed at a command
abbrev pub mark : Command → ℕ → WorkEnd → List Entry
mark command moment Finished = []
mark command moment Closed = []
mark command moment ClockFault = []
mark command moment Stopped = []
mark command moment DiskFault = Broke 0 ((command, moment) ∷ []) [] ∷ []

-- the disk ends the work at a command that was not done
abbrev pub IsCut : Command → ℕ → List Entry → List Entry → List Entry → WorkEnd → Type 0
IsCut command moment own own' seen Finished = ⊥
IsCut command moment own own' seen Closed = ⊥
IsCut command moment own own' seen ClockFault = ⊥
IsCut command moment own own' seen Stopped = (own' ≡ own ++ mark command moment Stopped) × (is_broken seen ≡ true)
IsCut command moment own own' seen DiskFault = (own' ≡ own ++ mark command moment DiskFault) × (is_broken seen ≡ true)
