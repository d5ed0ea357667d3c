-- Source: own.
-- What is said on a connection: lines, how they are read, and the replies to them.
use Rattle.std.specs.Prelude.{◌≡◌, ℕ, Bool, true, false, ◌||◌, List, [], ◌∷◌, ◌++◌, Option, Some, None}
use Rattle.boss_model.specs.declared.answer.Answer.{Answer}
use Rattle.boss_model.specs.declared.answer.Answer.TheVariants as answer
use Rattle.boss_model.specs.declared.answer.Refusal.{Refusal}
use Rattle.boss_model.specs.declared.command.Command.{Command}
use Rattle.boss_model.specs.declared.command.Command.TheVariants as command
use Rattle.boss_model.specs.declared.command.Setting.{Setting}
use Rattle.def_history.specs.declared.entry.Entry.{Entry}
use Rattle.def_history.specs.declared.entry.Entry.TheVariants.{Did}

-- what a line asks: a command, or to be told a process's notices from this number on; or why it asks nothing; or it is forbidden to
-- whoever speaks
pub data Reading : Type 0 where
  asks : Command → Reading
  watches : List ℕ → ℕ → Reading
  refuses : Refusal → Reading
  forbids : Reading

-- what a line is read by beside itself: whether one came before it, and the name whose key was shown, if there are keys and one was
pub record Footing : Type 0 where
  pub later : Bool
  pub known : Option (List ℕ)

-- before the first line
abbrev pub beginning : Footing
beginning = record { later = false; known = None }

-- how each line is read on its footing, and the name whose key a line shows, if it shows one
pub record Manner : Type 0 where
  pub reading : Footing → List ℕ → Reading
  pub shows : List ℕ → Option (List ℕ)

-- the reply to a command: its answer; that there was no memory for it; that the disk has failed; or that it is denied: which write of
-- it, from 0, and by which rule, from 1, or 0 where no rule is for it. An attach has no write, and both are 0
pub data Reply : Type 0 where
  of_answer : Answer → Reply
  of_memory : Reply
  of_stop : Reply
  of_denial : ℕ → ℕ → Reply

-- Whether a process of this name may attach. And of a process's name and the writes of a submit of it: the first write that is denied
-- and its rule, counted as in a reply; none where all are allowed
abbrev pub Gate : Type 0
Gate = (List ℕ → Bool) × (List ℕ → List Setting → Option (ℕ × ℕ))

abbrev pub admits : Gate → List ℕ → Bool
admits gate = gate.0

abbrev pub denied_writes : Gate → List ℕ → List Setting → Option (ℕ × ℕ)
denied_writes gate = gate.1

-- how lines are read; the texts of replies, each with its line end, also to a line that is too long, and to one that is forbidden; and
-- the gates that an attach and a submit have to pass, the foremost first
pub record Speech : Type 0 where
  pub manner : Manner
  pub reply_text : Reply → List ℕ
  pub refusal_text : Refusal → List ℕ
  pub too_long : List ℕ
  pub wrong_key : List ℕ
  pub denies : List Gate

-- a line and its reply: there was no memory to read it; or it asks nothing; or its command was called at a moment
pub data Exchange : Type 0 where
  unread : List ℕ → Exchange
  refused : List ℕ → Refusal → Exchange
  called : List ℕ → Command → ℕ → Reply → Exchange

-- ---- what one exchange is, and several

abbrev pub line_in : Exchange → List ℕ
line_in (unread line) = line
line_in (refused line why) = line
line_in (called line command moment reply) = line

-- it is what the line's reading says
abbrev pub IsReadAs : Reading → Exchange → Type 0
IsReadAs reading (unread line) = Unit {0}
IsReadAs reading (refused line why) = reading ≡ refuses why
IsReadAs reading (called line command moment reply) = reading ≡ asks command

-- a name that is known stays, whatever is shown behind that
abbrev pub known_by : Option (List ℕ) → Option (List ℕ) → Option (List ℕ)
known_by (Some name) shown = Some name
known_by None shown = shown

-- the footing behind a line that was read, and behind several
abbrev pub after : Manner → Footing → List ℕ → Footing
after manner at line = record { later = true; known = known_by at.known (manner.shows line) }

abbrev pub after_lines : Manner → Footing → List (List ℕ) → Footing
after_lines manner at [] = at
after_lines manner at (line ∷ lines) = after_lines manner (after manner at line) lines

-- one for which there was no memory shows nothing
abbrev pub after_unread : Footing → Footing
after_unread at = record { later = true; known = at.known }

abbrev pub after_exchange : Manner → Footing → Exchange → Footing
after_exchange manner at (unread line) = after_unread at
after_exchange manner at (refused line why) = after manner at line
after_exchange manner at (called line command moment reply) = after manner at line

abbrev pub after_talk : Manner → Footing → List Exchange → Footing
after_talk manner at [] = at
after_talk manner at (exchange ∷ talk) = after_talk manner (after_exchange manner at exchange) talk

-- each is what its line's reading says, on the footing that those before it leave
abbrev pub AreRead : Manner → Footing → List Exchange → Type 0
AreRead manner at [] = Unit {0}
AreRead manner at (exchange ∷ talk) = IsReadAs (manner.reading at (line_in exchange)) exchange × AreRead manner (after_exchange manner at exchange) talk

abbrev pub text_of : Speech → Exchange → List ℕ
text_of speech (unread line) = speech.reply_text of_memory
text_of speech (refused line why) = speech.refusal_text why
text_of speech (called line command moment reply) = speech.reply_text reply

abbrev pub text_in : Speech → List Exchange → List ℕ
text_in speech [] = []
text_in speech (exchange ∷ talk) = text_of speech exchange ++ text_in speech talk

-- a command that was answered is an entry of the session
abbrev pub entry_of : ℕ → Command → ℕ → Reply → List Entry
entry_of session command moment (of_answer answer) = Did session command moment answer ∷ []
entry_of session command moment of_memory = []
entry_of session command moment of_stop = []
entry_of session command moment (of_denial index rule) = []

abbrev pub deeds_of : ℕ → Exchange → List Entry
deeds_of session (unread line) = []
deeds_of session (refused line why) = []
deeds_of session (called line command moment reply) = entry_of session command moment reply

abbrev pub deeds_in : ℕ → List Exchange → List Entry
deeds_in session [] = []
deeds_in session (exchange ∷ talk) = deeds_of session exchange ++ deeds_in session talk

-- the clock is read for commands alone
abbrev pub moments_of : Exchange → List ℕ
moments_of (unread line) = []
moments_of (refused line why) = []
moments_of (called line command moment reply) = moment ∷ []

abbrev pub moments_in : List Exchange → List ℕ
moments_in [] = []
moments_in (exchange ∷ talk) = moments_of exchange ++ moments_in talk

-- the last of these moments, and this one where there is none
abbrev pub last_or : ℕ → List ℕ → ℕ
last_or moment [] = moment
last_or moment (next ∷ moments) = last_or next moments

-- ---- processes

-- an attach was accepted
abbrev pub is_attached : Answer → Bool
is_attached (answer.Attached name next) = true
is_attached other = false

abbrev pub attaches_by : Command → Reply → Bool
attaches_by (command.Attach name) (of_answer given) = is_attached given
attaches_by other reply = false

abbrev pub attaches : Exchange → Bool
attaches (unread line) = false
attaches (refused line why) = false
attaches (called line command moment reply) = attaches_by command reply

abbrev pub attached_in : List Exchange → Bool
attached_in [] = false
attached_in (exchange ∷ talk) = attaches exchange || attached_in talk

-- the session's process is lost at its end, where the call was answered
abbrev pub parting_of : ℕ → ℕ → Option Answer → List Entry
parting_of session moment None = []
parting_of session moment (Some given) = Did session command.Gone moment given ∷ []

-- ---- ends

-- nothing is called after a disk has failed
abbrev pub is_stop : Reply → Bool
is_stop (of_answer given) = false
is_stop of_memory = false
is_stop of_stop = true
is_stop (of_denial index rule) = false

abbrev pub is_end : Exchange → Bool
is_end (unread line) = false
is_end (refused line why) = false
is_end (called line command moment reply) = is_stop reply

abbrev pub EndsOnce : List Exchange → Type 0
EndsOnce [] = Unit {0}
EndsOnce (exchange ∷ talk) = (is_end exchange ≡ true → talk ≡ []) × EndsOnce talk
