-- Source: own.
-- The replies to several commands that are called together.
use Rattle.std.specs.Prelude.{◌≡◌, ◌⊎◌, ℕ, ◌+◌, ◌≤◌, Bool, true, false, ◌||◌, List, [], ◌∷◌, ◌++◌, length, map, Option, Some, None, Result, Ok, Err}
use Rattle.std.specs.List.{AllByRecursion}
use Rattle.boss_model.specs.declared.answer.Answer.{Answer}
use Rattle.boss_model.specs.declared.command.Command.{Command}
use Rattle.def_wire.specs.Texts.{line_of, denied_text, memory_text, stopped_text}
use Rattle.def_history.specs.declared.entry.Entry.{Entry}
use Rattle.def_history.specs.declared.outcome.Outcome.{Outcome}
use Rattle.def_history.specs.declared.outcome.Outcome.TheVariants.{Done, Stopped, DiskFault, NoMemory, Denied}
use Rattle.def_history.specs.History.{deeds, is_broken}
use Rattle.boss_outside.specs.Counts.{Rose}
use Rattle.def_connection.specs.Batches.{deeds_by, texts_by}
use Rattle.def_connection.specs.Speech.{Reply, of_answer, of_memory, of_stop, of_denial, Speech, attaches_by, is_stop}
use Rattle.def_connection.specs.Stopping.{last_is, is_undone}
use Rattle.def_connection.specs.Talks.{Told}
use Rattle.boss_shared.specs.Gates.{Holding}
use Rattle.boss_sessions.specs.Holding.{JudgedBy}
use Rattle.boss_sessions.specs.declared.halt.Halt.{Halt}
use Rattle.boss_sessions.specs.declared.halt.Halt.TheVariants as halt

-- ---- the replies to one call

-- a call's rest is never an answer
abbrev pub IsRest : Option Outcome → Type 0
IsRest (Some (Done answer)) = ⊥
IsRest other = Unit {0}

-- the reply to the command that was not done
abbrev pub last_reply : Option Outcome → List Reply
last_reply None = []
last_reply (Some (Done answer)) = []
last_reply (Some Stopped) = of_stop ∷ []
last_reply (Some DiskFault) = of_stop ∷ []
last_reply (Some NoMemory) = of_memory ∷ []
last_reply (Some (Denied index rule)) = of_denial index rule ∷ []

abbrev pub replies_of : List Answer → Option Outcome → List Reply
replies_of answers rest = map of_answer answers ++ last_reply rest

-- its text
abbrev pub rest_of : Option Outcome → List ℕ
rest_of None = []
rest_of (Some (Done answer)) = []
rest_of (Some Stopped) = line_of stopped_text
rest_of (Some DiskFault) = line_of stopped_text
rest_of (Some NoMemory) = line_of memory_text
rest_of (Some (Denied index rule)) = line_of (denied_text index rule)

-- how many were replied to, or why no more are done: a disk that failed goes before a write that did
abbrev pub replied_to : {T E : Type 0} → ℕ → Result T E → Result ℕ Halt
replied_to count (Ok told) = Ok count
replied_to count (Err failed) = Err halt.WriteFault

abbrev pub turned : {T E : Type 0} → Option Outcome → ℕ → Result T E → Result ℕ Halt
turned None answered told = replied_to answered told
turned (Some Stopped) answered told = Err halt.Stopped
turned (Some DiskFault) answered told = Err halt.DiskFault
turned (Some (Done answer)) answered told = replied_to (answered + 1) told
turned (Some NoMemory) answered told = replied_to (answered + 1) told
turned (Some (Denied index rule)) answered told = replied_to (answered + 1) told

-- ---- one call or several

-- an attach was accepted
abbrev pub attached_by : List (Command × ℕ) → List Reply → Bool
attached_by (call ∷ calls) (reply ∷ replies) = attaches_by call.0 reply || attached_by calls replies
attached_by calls replies = false

abbrev pub AreGoing : List Reply → Type 0
AreGoing replies = AllByRecursion (λ reply. is_stop reply ≡ false) replies

-- nothing is replied after a disk has failed
abbrev pub StopsOnce : List Reply → Type 0
StopsOnce [] = Unit {0}
StopsOnce (reply ∷ replies) = (is_stop reply ≡ true → replies ≡ []) × StopsOnce replies

-- the pass's own entries, the bytes that the sink took and the count of its faults, whether an attach was accepted, what the
-- pass has seen, and what it holds at the gates
pub record Voice : Type 0 where
  pub own : List Entry
  pub taken : List ℕ
  pub faults : ℕ
  pub attached : Bool
  pub seen : List Entry
  pub held : List Holding

abbrev pub voice : List Entry → List ℕ → ℕ → Bool → List Entry → List Holding → Voice
voice own taken faults attached seen held = record { own = own; taken = taken; faults = faults; attached = attached; seen = seen; held = held }

-- no command was done: the number that were is the number of all
abbrev pub counted : {T : Type 0} → ℕ → Result T Halt → Result ℕ Halt
counted all (Ok done) = Ok all
counted all (Err why) = Err why

module _ (speech : Speech) (session : ℕ) (tells : Type 0) (calls : List (Command × ℕ)) where
  -- as many replies were told as this, and nothing failed
  pub record Goes (replies : List Reply) (old new : Voice) (count : ℕ) : Type 0 where
    pub counts : count ≡ length replies
    pub all_told : tells → new.taken ≡ old.taken ++ texts_by speech replies
    pub calm : new.faults ≡ old.faults
    pub going : AreGoing replies
    pub whole : is_broken new.seen ≡ true → is_broken old.seen ≡ true

  abbrev pub HaltCause : Voice → Voice → Halt → Type 0
  HaltCause old new halt.Stopped = is_broken new.seen ≡ true
  HaltCause old new halt.DiskFault = is_broken new.seen ≡ true
  HaltCause old new halt.WriteFault = Rose old.faults new.faults × (is_broken new.seen ≡ true → is_broken old.seen ≡ true)

  -- the last reply tells that the disk has failed, and no other; a write failed behind the last command, or one that was not done
  abbrev pub HaltsAt : List Reply → Halt → Type 0
  HaltsAt replies halt.Stopped = last_is is_stop false replies ≡ true
  HaltsAt replies halt.DiskFault = last_is is_stop false replies ≡ true
  HaltsAt replies halt.WriteFault = (last_is is_stop false replies ≡ false) × ((length replies ≡ length calls) ⊎ (last_is is_undone false replies ≡ true))

  abbrev pub Comes : List Reply → Voice → Voice → Result ℕ Halt → Type 0
  Comes replies old new (Ok count) = Goes replies old new count
  Comes replies old new (Err why) = StopsOnce replies × HaltCause old new why × HaltsAt replies why

  -- commands were called in order, as many as there are replies, and a front of these was told
  pub record Replied (old new : Voice) (result : Result ℕ Halt) : Type 0 where
    pub replies : List Reply
    pub few : length replies ≤ length calls
    pub grew : deeds new.own ≡ deeds old.own ++ deeds_by session calls replies
    pub told : tells → Told old.taken new.taken old.faults new.faults (texts_by speech replies)
    pub attached_is : new.attached ≡ (old.attached || attached_by calls replies)
    pub judged : JudgedBy speech.denies session calls replies old.held new.held
    pub comes : Comes replies old new result
