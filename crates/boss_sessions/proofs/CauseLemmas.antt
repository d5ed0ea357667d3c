-- Which count rose, by the end of a round.
use Rattle.std.proofs.Common.{◌≡◌, ℕ, Bool, true, List, Some, Result, Ok, Err}
use Rattle.boss_model.specs.declared.command.Command.{Command}
use Rattle.def_history.specs.History.{is_broken}
use Rattle.boss_outside.specs.Counts.{Rose, HasCause}
use Rattle.def_connection.specs.Speech.{Speech}
use Rattle.boss_sessions.specs.declared.heard.Heard.{Heard}
use Rattle.boss_sessions.specs.declared.heard.Heard.TheVariants as heard
use Rattle.boss_sessions.specs.declared.halt.Halt.{Halt}
use Rattle.boss_sessions.specs.declared.halt.Halt.TheVariants as halt
use Rattle.boss_sessions.specs.Ends.{end_at, end_behind, WriteCause, DiskCause}
use Rattle.boss_sessions.specs.Turns.{Voice, HaltCause}

write-fault : (before now : ℕ) (h : Heard) → Rose before now → WriteCause before now (Some (end_at halt.WriteFault h))
write-fault before now heard.Requests rose = rose
write-fault before now (heard.Refused why) rose = rose
write-fault before now heard.Unread rose = rose
write-fault before now (heard.Watch name from) rose = rose
write-fault before now heard.Untimed rose = tt
write-fault before now heard.Limit rose = rose
write-fault before now heard.Finish rose = rose
write-fault before now heard.TooLong rose = rose
write-fault before now heard.WrongKey rose = rose
write-fault before now heard.ReadFault rose = rose

pub write-behind : {T E : Type 0} (before now : ℕ) (h : Heard) (told : Result T E) → HasCause before now told → WriteCause before now (end_behind h told)
write-behind before now h (Err failed) cause = write-fault before now h cause.failed
write-behind before now heard.Requests (Ok done) cause = cause.fine
write-behind before now (heard.Refused why) (Ok done) cause = cause.fine
write-behind before now heard.Unread (Ok done) cause = cause.fine
write-behind before now (heard.Watch name from) (Ok done) cause = cause.fine
write-behind before now heard.Untimed (Ok done) cause = tt
write-behind before now heard.Limit (Ok done) cause = cause.fine
write-behind before now heard.Finish (Ok done) cause = cause.fine
write-behind before now heard.TooLong (Ok done) cause = cause.fine
write-behind before now heard.WrongKey (Ok done) cause = cause.fine
write-behind before now heard.ReadFault (Ok done) cause = cause.fine

disk-write : (before now : Bool) (h : Heard) → (now ≡ true → before ≡ true) → DiskCause before now (Some (end_at halt.WriteFault h))
disk-write before now heard.Requests whole = whole
disk-write before now (heard.Refused why) whole = whole
disk-write before now heard.Unread whole = whole
disk-write before now (heard.Watch name from) whole = whole
disk-write before now heard.Untimed whole = whole
disk-write before now heard.Limit whole = whole
disk-write before now heard.Finish whole = whole
disk-write before now heard.TooLong whole = whole
disk-write before now heard.WrongKey whole = whole
disk-write before now heard.ReadFault whole = whole

pub disk-behind : {T E : Type 0} (before now : Bool) (h : Heard) (told : Result T E) → (now ≡ true → before ≡ true) → DiskCause before now (end_behind h told)
disk-behind before now h (Err failed) whole = disk-write before now h whole
disk-behind before now heard.Requests (Ok done) whole = whole
disk-behind before now (heard.Refused why) (Ok done) whole = whole
disk-behind before now heard.Unread (Ok done) whole = whole
disk-behind before now (heard.Watch name from) (Ok done) whole = whole
disk-behind before now heard.Untimed (Ok done) whole = whole
disk-behind before now heard.Limit (Ok done) whole = whole
disk-behind before now heard.Finish (Ok done) whole = whole
disk-behind before now heard.TooLong (Ok done) whole = whole
disk-behind before now heard.WrongKey (Ok done) whole = whole
disk-behind before now heard.ReadFault (Ok done) whole = whole

-- where requests were halted
module _ (speech : Speech) (session : ℕ) (tells : Type 0) (calls : List (Command × ℕ)) (old new : Voice) where
  pub write-halted : (why : Halt) (h : Heard) → HaltCause speech session tells calls old new why → WriteCause old.faults new.faults (Some (end_at why h))
  write-halted halt.Stopped h cause = tt
  write-halted halt.DiskFault h cause = tt
  write-halted halt.WriteFault h cause = write-fault old.faults new.faults h cause.0

  pub disk-halted : (why : Halt) (h : Heard) → HaltCause speech session tells calls old new why → DiskCause (is_broken old.seen) (is_broken new.seen) (Some (end_at why h))
  disk-halted halt.Stopped h cause = cause
  disk-halted halt.DiskFault h cause = cause
  disk-halted halt.WriteFault h cause = disk-write (is_broken old.seen) (is_broken new.seen) h cause.1
