-- Talks line by line: how they are read, their entries, texts and moments, and how they end.
use Rattle.std.proofs.Common.{◌≡◌, ℕ, Bool, false, true, List, [], ◌∷◌, Option, Some, None, refl, lit<}
use Rattle.std.specs.Str.{bytes_eq}
use Rattle.boss_model.specs.declared.answer.Answer.{Answer}
use Rattle.boss_model.specs.declared.answer.Answer.TheVariants as answer
use Rattle.boss_model.specs.declared.answer.Refusal.TheVariants as refusal
use Rattle.boss_model.specs.declared.command.Command.{Command}
use Rattle.boss_model.specs.declared.command.Command.TheVariants as command
use Rattle.boss_model.specs.declared.command.Policy.TheVariants as policy
use Rattle.def_history.specs.declared.entry.Entry.TheVariants.{Did}
use Rattle.def_connection.specs.Batches.{batch, deeds_by}
use Rattle.def_connection.specs.Judging.{AreJudged, denied_for, name_in}
use Rattle.def_connection.specs.Showing.{IsBarred, AsksOwn, IsGuarded, AreShown, AreOwn}
use Rattle.def_connection.specs.Speech.{Reading, asks, watches, refuses, forbids, beginning, Manner, Reply, of_answer, of_memory, of_stop, of_denial, Gate, Speech, Exchange, unread, refused, called, known_by, after_talk, AreRead, text_in, deeds_in, moments_in, last_or, attached_in, parting_of, is_end, EndsOnce}
use Rattle.def_connection.specs.Stopping.{disk, read_fault, finish, wrong_key, is_disk, end_text, last_is, is_passed, BehindAt}
use Rattle.def_connection.specs.Losing.{LostAt, spoken_of}
use Rattle.def_connection.specs.Watching.{watched_in}

abbrev name : List ℕ
name = 97 ∷ []

abbrev attach : Command
attach = command.Attach name

abbrev status : Command
status = command.Status 1

-- a line of one byte attaches, one of two asks for a status, and a longer one watches, if it is the first
abbrev reading : Bool → List ℕ → Reading
reading later [] = refuses (refusal.Malformed None)
reading later (byte ∷ []) = asks attach
reading later (byte ∷ next ∷ []) = asks status
reading false (byte ∷ next ∷ third ∷ bytes) = watches name 1
reading true (byte ∷ next ∷ third ∷ bytes) = refuses refusal.UnknownOp

abbrev reply_text : Reply → List ℕ
reply_text (of_answer given) = 1 ∷ []
reply_text of_memory = 2 ∷ []
reply_text of_stop = 3 ∷ []
reply_text (of_denial index rule) = 6 ∷ index ∷ rule ∷ []

-- `name` alone is admitted, and every submit is denied at its first write, by rule 2
abbrev gate : Gate
gate = (bytes_eq name, λ known writes. Some (0, 2))

-- nothing is denied
abbrev open_gate : Gate
open_gate = (λ known. true, λ known writes. None)

-- no line shows a key
abbrev manner : Manner
manner = record { reading = λ at line. reading at.later line; shows = λ line. None }

abbrev speech : Speech
speech = record { manner = manner; reply_text = reply_text; refusal_text = λ why. 4 ∷ []; too_long = 5 ∷ []; wrong_key = 7 ∷ []; denies = gate ∷ [] }

abbrev one : List ℕ
one = 49 ∷ []

abbrev two : List ℕ
two = 49 ∷ 50 ∷ []

abbrev three : List ℕ
three = 49 ∷ 50 ∷ 51 ∷ []

abbrev held : Answer
held = answer.Attached name 1

-- an attach at 10, a status at 20 for which there was no memory, one at 30, a line that asks nothing, one that was not read for
-- want of memory, and one at 40 at which the disk had failed
abbrev talk : List Exchange
talk = called one attach 10 (of_answer held) ∷ called two status 20 of_memory ∷ called two status 30 (of_answer (answer.Ticked 30))
    ∷ refused three refusal.UnknownOp ∷ unread one ∷ called two status 40 of_stop ∷ []

read-row : AreRead manner beginning talk
read-row = (refl, (refl, (refl, (refl, (tt, (refl, tt))))))

deeds-row : deeds_in 7 talk ≡ Did 7 attach 10 held ∷ Did 7 status 30 (answer.Ticked 30) ∷ []
deeds-row = refl

text-row : text_in speech talk ≡ 1 ∷ 2 ∷ 1 ∷ 4 ∷ 2 ∷ 3 ∷ []
text-row = refl

moments-row : moments_in talk ≡ 10 ∷ 20 ∷ 30 ∷ 40 ∷ []
moments-row = refl

attached-row : attached_in talk ≡ true
attached-row = refl

-- one that was refused, or for which there was no memory, attaches nothing
unattached-row : attached_in (called one attach 10 (of_answer (answer.Refused refusal.Spent)) ∷ called one attach 20 of_memory ∷ called two status 30 (of_answer held) ∷ []) ≡ false
unattached-row = refl

-- the process is lost at the last moment, also where that had no call
parting-row : parting_of 7 (last_or 0 (10 ∷ 40 ∷ 50 ∷ [])) (Some (answer.Gone 0)) ≡ Did 7 command.Gone 50 (answer.Gone 0) ∷ []
parting-row = refl

stop-row : EndsOnce talk
stop-row = ((λ is. cc), ((λ is. cc), ((λ is. cc), ((λ is. cc), ((λ is. cc), ((λ is. refl), tt))))))

-- that the disk has failed is told in the last reply
stopped-row : last_is is_end false talk ≡ is_disk disk
stopped-row = refl

-- three calls of which two have a reply
batch-row : batch (one ∷ two ∷ two ∷ []) ((attach, 10) ∷ (status, 20) ∷ (status, 30) ∷ []) (of_answer held ∷ of_stop ∷ [])
    ≡ called one attach 10 (of_answer held) ∷ called two status 20 of_stop ∷ []
batch-row = refl

deeds-of-batch-row : deeds_by 7 ((attach, 10) ∷ (status, 20) ∷ (status, 30) ∷ []) (of_answer held ∷ of_stop ∷ []) ≡ Did 7 attach 10 held ∷ []
deeds-of-batch-row = refl

-- each turn asks from the number behind the notices of the one before
watch-row : watched_in 7 name 1 ((100, answer.Notices 1 4 []) ∷ (200, answer.Notices 4 4 []) ∷ [])
    ≡ Did 7 (command.Notices (Some name) 1 64) 100 (answer.Notices 1 4 []) ∷ Did 7 (command.Notices (Some name) 4 64) 200 (answer.Notices 4 4 []) ∷ []
watch-row = refl

-- ---- denials

abbrev submit : Command
submit = command.Submit [] policy.Abort 1

-- a submit before the attach is answered, as its session has no process; one behind it is denied, and leaves no entry
abbrev denied_talk : List Exchange
denied_talk = called one submit 10 (of_answer (answer.Refused refusal.NotAttached)) ∷ called one attach 20 (of_answer held) ∷ called two submit 30 (of_denial 0 2) ∷ []

judged-row : AreJudged (gate ∷ []) None denied_talk
judged-row = (refl, (refl, (refl, tt)))

name-row : name_in None denied_talk ≡ Some name
name-row = refl

denied-deeds-row : deeds_in 7 denied_talk ≡ Did 7 submit 10 (answer.Refused refusal.NotAttached) ∷ Did 7 attach 20 held ∷ []
denied-deeds-row = refl

denied-end-row : EndsOnce denied_talk
denied-end-row = ((λ is. cc), ((λ is. cc), ((λ is. refl), tt)))

-- the first gate that denies is told
foremost-row : denied_for (open_gate ∷ gate ∷ []) (Some name) submit ≡ Some (0, 2)
foremost-row = refl

-- an attach under another name is denied, and tells no write and no rule, also where the session has a process; it leaves no entry, and
-- the session the name that it had
strange-row : (denied_for (open_gate ∷ gate ∷ []) None (command.Attach (98 ∷ [])) ≡ Some (0, 0)) × (denied_for (gate ∷ []) (Some name) (command.Attach (98 ∷ [])) ≡ Some (0, 0))
strange-row = (refl, refl)

abbrev strange_talk : List Exchange
strange_talk = called one attach 10 (of_answer held) ∷ called two (command.Attach (98 ∷ [])) 20 (of_denial 0 0) ∷ []

strange-judged-row : AreJudged (gate ∷ []) None strange_talk × (name_in None strange_talk ≡ Some name) × (deeds_in 7 strange_talk ≡ Did 7 attach 10 held ∷ [])
strange-judged-row = ((refl, (refl, tt)), refl, refl)

-- a command that is neither is denied by none
other-row : denied_for (gate ∷ []) (Some name) status ≡ None
other-row = refl

-- the last command was denied, so requests may be left behind it where a write failed
passed-row : last_is is_passed false denied_talk ≡ true
passed-row = refl

-- ---- keys

-- a line of more than two bytes shows the key of `name` and asks for a status; one of one byte attaches under the name that is known, and
-- one of two asks for a status. Where none is known these are forbidden, and an empty line asks nothing
abbrev keyed : Option (List ℕ) → List ℕ → Reading
keyed known [] = refuses (refusal.Malformed None)
keyed None (byte ∷ []) = forbids
keyed (Some own) (byte ∷ []) = asks (command.Attach own)
keyed None (byte ∷ next ∷ []) = forbids
keyed (Some own) (byte ∷ next ∷ []) = asks status
keyed known (byte ∷ next ∷ third ∷ bytes) = asks status

abbrev shows : List ℕ → Option (List ℕ)
shows (byte ∷ next ∷ third ∷ bytes) = Some name
shows other = None

abbrev keyed_manner : Manner
keyed_manner = record { reading = λ at line. keyed at.known line; shows = shows }

guarded-row : IsGuarded keyed_manner
guarded-row = record { barred = λ at line none. barred at.known line none; own = λ at line. own at.known line }
  where
    barred : (known : Option (List ℕ)) (line : List ℕ) → known_by known (shows line) ≡ None → IsBarred (keyed known line)
    barred known [] none = tt
    barred None (byte ∷ []) none = tt
    barred (Some known) (byte ∷ []) none = absurd cc
    barred None (byte ∷ next ∷ []) none = tt
    barred (Some known) (byte ∷ next ∷ []) none = absurd cc
    barred None (byte ∷ next ∷ third ∷ bytes) none = absurd cc
    barred (Some known) (byte ∷ next ∷ third ∷ bytes) none = absurd cc

    own : (known : Option (List ℕ)) (line : List ℕ) → AsksOwn (known_by known (shows line)) (keyed known line)
    own known [] = tt
    own None (byte ∷ []) = tt
    own (Some known) (byte ∷ []) = refl
    own None (byte ∷ next ∷ []) = tt
    own (Some known) (byte ∷ next ∷ []) = tt
    own known (byte ∷ next ∷ third ∷ bytes) = tt

-- a line that asks nothing, one that shows the key, and an attach of the name whose key it was
abbrev keyed_talk : List Exchange
keyed_talk = refused [] (refusal.Malformed None) ∷ called three status 10 of_memory ∷ called one attach 20 (of_answer held) ∷ []

keyed-read-row : AreRead keyed_manner beginning keyed_talk
keyed-read-row = (refl, (refl, (refl, tt)))

shown-row : AreShown keyed_manner beginning keyed_talk
shown-row = (tt, (tt, (tt, tt)))

known-row : after_talk keyed_manner beginning keyed_talk ≡ record { later = true; known = Some name }
known-row = refl

own-row : AreOwn (Some name) (deeds_in 7 keyed_talk)
own-row = (refl, tt)

-- a line that there was no memory to read shows no key
unread-row : after_talk keyed_manner beginning (unread three ∷ []) ≡ record { later = true; known = None }
unread-row = refl

-- the talk stops where a line comes that shows none, which is told
forbidden-row : BehindAt keyed_manner (after_talk keyed_manner beginning (unread three ∷ [])) wrong_key (two ∷ [])
forbidden-row = (two, refl, refl)

forbidden-text-row : end_text speech wrong_key ≡ 7 ∷ []
forbidden-text-row = refl

-- ---- bytes that were lost

-- a line, a blank one, and a piece without a line end
abbrev bytes : List ℕ
bytes = 65 ∷ 10 ∷ 32 ∷ 10 ∷ 66 ∷ []

-- at the end of the input the piece is a line
finish-row : LostAt bytes [] ((65 ∷ []) ∷ (32 ∷ []) ∷ (66 ∷ []) ∷ []) [] finish
finish-row = (refl, refl, lit< tt)

-- where a read failed it is not
read-row-of-bytes : LostAt bytes (67 ∷ []) ((65 ∷ []) ∷ (32 ∷ []) ∷ []) ((66 ∷ []) ∷ []) read_fault
read-row-of-bytes = (refl, lit< tt)

spoken-row : spoken_of ((65 ∷ []) ∷ (32 ∷ []) ∷ []) ≡ (65 ∷ []) ∷ []
spoken-row = refl
