-- Source: own.
-- Why a session ends.
use Rattle.std.specs.Prelude.{◌≡◌, ℕ, Bool, true, false, List, [], Option, Some, None, Result, Ok, Err}
use Rattle.boss_outside.specs.Counts.{Rose}
use Rattle.def_lanes.specs.Works.{Cut, not_cut, by_disk, by_clock, by_memory}
use Rattle.def_connection.specs.Speech.{of_memory, Speech}
use Rattle.def_connection.specs.Stopping.{Stop, finish, watching, read_fault, write_fault, clock_fault, long_line, long_untold, wrong_key, wrong_untold, limit, disk, nothing}
use Rattle.boss_sessions.specs.declared.heard.Heard.{Heard}
use Rattle.boss_sessions.specs.declared.heard.Heard.TheVariants as heard
use Rattle.boss_sessions.specs.declared.halt.Halt.{Halt}
use Rattle.boss_sessions.specs.declared.halt.Halt.TheVariants as halt
use Rattle.boss_sessions.specs.declared.end.SessionEnd.{SessionEnd}
use Rattle.boss_sessions.specs.declared.end.SessionEnd.TheVariants.{End, Watch, ReadFault, WriteFault, ClockFault, TooLong, WrongKey, Limit, Stopped, DiskFault, NoMemory}

-- the reply to what came behind the requests
abbrev pub text_behind : Speech → Heard → List ℕ
text_behind speech (heard.Refused why) = speech.refusal_text why
text_behind speech heard.Unread = speech.reply_text of_memory
text_behind speech heard.TooLong = speech.too_long
text_behind speech heard.WrongKey = speech.wrong_key
text_behind speech other = []

-- the end where nothing failed but what was heard
abbrev pub end_of : Heard → Option SessionEnd
end_of heard.Requests = None
end_of (heard.Refused why) = None
end_of heard.Unread = None
end_of (heard.Watch name from) = Some (Watch name from)
end_of heard.Untimed = Some ClockFault
end_of heard.Limit = Some Limit
end_of heard.Finish = Some End
end_of heard.TooLong = Some TooLong
end_of heard.WrongKey = Some WrongKey
end_of heard.ReadFault = Some ReadFault

-- a disk that failed goes before a clock that did, and that before a write
abbrev pub end_at : Halt → Heard → SessionEnd
end_at halt.Stopped heard = Stopped
end_at halt.DiskFault heard = DiskFault
end_at halt.WriteFault heard.Untimed = ClockFault
end_at halt.WriteFault other = WriteFault

abbrev pub end_behind : {T E : Type 0} → Heard → Result T E → Option SessionEnd
end_behind heard (Ok told) = end_of heard
end_behind heard (Err failed) = Some (end_at halt.WriteFault heard)

-- the disk has failed
abbrev pub is_stop_end : SessionEnd → Bool
is_stop_end Stopped = true
is_stop_end DiskFault = true
is_stop_end other = false

-- the end by why the talk stopped, where the disk has not failed
abbrev pub end_for : Stop → SessionEnd
end_for finish = End
end_for (watching name from) = Watch name from
end_for read_fault = ReadFault
end_for write_fault = WriteFault
end_for clock_fault = ClockFault
end_for long_line = TooLong
end_for long_untold = WriteFault
end_for wrong_key = WrongKey
end_for wrong_untold = WriteFault
end_for limit = Limit
end_for disk = Stopped
end_for nothing = NoMemory

-- the connection was cut off: it ended because of what it has in common with others, or before it began
abbrev pub cut_of : SessionEnd → Cut
cut_of ClockFault = by_clock
cut_of Stopped = by_disk
cut_of DiskFault = by_disk
cut_of NoMemory = by_memory
cut_of other = not_cut

abbrev pub is_watch : SessionEnd → Bool
is_watch (Watch name from) = true
is_watch other = false

-- ---- causes: a count rose exactly where the end says so, or maybe where it tells of what goes before

abbrev pub ReadCause : ℕ → ℕ → Option SessionEnd → Type 0
ReadCause before now (Some ReadFault) = Rose before now
ReadCause before now (Some WriteFault) = Unit {0}
ReadCause before now (Some Stopped) = Unit {0}
ReadCause before now (Some DiskFault) = Unit {0}
ReadCause before now other = now ≡ before

abbrev pub WriteCause : ℕ → ℕ → Option SessionEnd → Type 0
WriteCause before now (Some WriteFault) = Rose before now
WriteCause before now (Some ClockFault) = Unit {0}
WriteCause before now (Some Stopped) = Unit {0}
WriteCause before now (Some DiskFault) = Unit {0}
WriteCause before now other = now ≡ before

abbrev pub ClockCause : ℕ → ℕ → Option SessionEnd → Type 0
ClockCause before now (Some ClockFault) = Rose before now
ClockCause before now (Some Stopped) = Unit {0}
ClockCause before now (Some DiskFault) = Unit {0}
ClockCause before now other = now ≡ before

-- whether the pass has then seen the mark of a disk that failed. Where the end does not say so, it has only if it had before
abbrev pub DiskCause : Bool → Bool → Option SessionEnd → Type 0
DiskCause before now (Some Stopped) = now ≡ true
DiskCause before now (Some DiskFault) = now ≡ true
DiskCause before now other = now ≡ true → before ≡ true
