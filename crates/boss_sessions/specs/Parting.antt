-- Source: own.
-- The last call of a session, which tells that its process is lost.
use Rattle.std.specs.Prelude.{◌≡◌, ℕ, Bool, true, false, ◌||◌, List, [], ◌∷◌, ◌++◌}
use Rattle.boss_model.specs.declared.command.Command.TheVariants as command
use Rattle.def_history.specs.declared.entry.Entry.{Entry}
use Rattle.def_history.specs.declared.entry.Entry.TheVariants.{Did, Broke}
use Rattle.def_history.specs.declared.outcome.Outcome.{Outcome}
use Rattle.def_history.specs.declared.outcome.Outcome.TheVariants as came
use Rattle.def_history.specs.History.{deeds}
use Rattle.def_history.specs.Made.{made_by}
use Rattle.def_connection.specs.Speech.{of_answer, attaches_by}
use Rattle.boss_sessions.specs.declared.end.SessionEnd.{SessionEnd}
use Rattle.boss_sessions.specs.declared.end.SessionEnd.TheVariants.{Stopped, DiskFault}

-- it was answered, and the session ends as it did; or its outcome is the end
abbrev pub LeavesBy : Outcome → Bool → SessionEnd → SessionEnd → Type 0
LeavesBy (came.Done answer) broken before after = (after ≡ before) × (broken ≡ false)
LeavesBy came.Stopped broken before after = (after ≡ Stopped) × (broken ≡ true)
LeavesBy came.DiskFault broken before after = (after ≡ DiskFault) × (broken ≡ true)
LeavesBy came.NoMemory broken before after = ⊥
LeavesBy (came.Denied index rule) broken before after = ⊥

-- whether the pass had seen the mark of a disk that failed, and whether it has then
pub record Parts (session moment : ℕ) (own own' : List Entry) (was broken : Bool) (end end' : SessionEnd) : Type 0 where
  pub outcome : Outcome
  pub grew : own' ≡ own ++ made_by session command.Gone moment outcome
  pub stood : was ≡ true → outcome ≡ came.Stopped
  pub leaves : LeavesBy outcome broken end end'

-- ---- the end where an attach was accepted

abbrev pub is_attach : Entry → Bool
is_attach (Did session command moment answer) = attaches_by command (of_answer answer)
is_attach (Broke session commands others) = false

-- an attach was accepted among these
abbrev pub attached_among : List Entry → Bool
attached_among [] = false
attached_among (entry ∷ entries) = is_attach entry || attached_among entries

-- the last of these is the mark of the call that tells that the session's process is lost
abbrev pub BreaksAtLast : ℕ → List Entry → Type 0
BreaksAtLast session own = (before : List Entry) × (moment : ℕ) × (own ≡ before ++ Broke session ((command.Gone, moment) ∷ []) [] ∷ [])

-- Where an attach was accepted among what the pass did, an end by a disk that failed in a call of the session tells of that last
-- call, whose mark is there. Where the disk had failed before it, if in a call of the session or not, the end tells that
abbrev pub FailsLast : ℕ → List Entry → List Entry → SessionEnd → Type 0
FailsLast session own own' DiskFault = (more : List Entry) → deeds own' ≡ deeds own ++ more → attached_among more ≡ true → BreaksAtLast session own'
FailsLast session own own' other = Unit {0}
