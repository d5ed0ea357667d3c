-- Source: own.
-- How the lines of a connection are read, and the texts of its replies.
use Rattle.std.specs.Prelude.{ℕ, Bool, true, false, not, if◌then◌else◌, List, codes, bytes_eq, Option, Some, None}
use Rattle.boss_model.specs.declared.command.Command.{Command}
use Rattle.boss_model.specs.declared.command.Command.TheVariants as command
use Rattle.boss_model.specs.Catalogue.{Catalogue}
use Rattle.def_wire.specs.declared.form.Form.{Form}
use Rattle.def_wire.specs.declared.form.Form.TheVariants.{FirstLine, LaterLine}
use Rattle.def_wire.specs.declared.request.Ask.{Ask}
use Rattle.def_wire.specs.declared.request.Ask.TheVariants as ask
use Rattle.def_wire.specs.declared.request.Request.{Request}
use Rattle.def_wire.specs.Requests.{Parsed, parsed}
use Rattle.def_wire.specs.Requests.{asks as asks_that, wrong}
use Rattle.def_wire.specs.Texts.{answer_text, line_of, denied_text, memory_text, refusal_text, stopped_text, too_long_text}
use Rattle.def_connection.specs.Speech.{Reading, asks, watches, refuses, forbids, Footing, Manner, Reply, of_answer, of_memory, of_stop, of_denial, Gate, Speech}
use Rattle.boss_keys.specs.declared.entry.Entry.{Entry}
use Rattle.boss_callers.specs.declared.shown.Shown.{Shown}
use Rattle.boss_callers.specs.declared.shown.Shown.TheVariants.{NoObject, Key, WrongKey}
use Rattle.boss_callers.specs.Shown.{shown_by, name_shown}

-- the first line, and the later ones
abbrev pub form_of : Bool → Form
form_of false = FirstLine
form_of true = LaterLine

abbrev pub reading_of_ask : Ask → Reading
reading_of_ask (ask.Command command) = asks command
reading_of_ask (ask.Watch name from) = watches name from

abbrev pub reading_of : Parsed Request → Reading
reading_of (asks_that request) = reading_of_ask request.ask
reading_of (wrong why) = refuses why

-- whoever it is that speaks
abbrev pub asked_in : Catalogue → Bool → List ℕ → Reading
asked_in catalogue later line = reading_of (parsed catalogue (form_of later) line)

-- ---- where there are keys

-- an attach of another name than this one
abbrev pub is_other : List ℕ → Command → Bool
is_other name (command.Attach other) = not (bytes_eq other name)
is_other name asked = false

abbrev pub is_other_by : Option (List ℕ) → Command → Bool
is_other_by (Some name) asked = is_other name asked
is_other_by None asked = false

-- it is forbidden to whoever showed the key of this name
abbrev pub owned : List ℕ → Reading → Reading
owned name (asks asked) = if is_other name asked then forbids else asks asked
owned name other = other

abbrev pub owned_by : Option (List ℕ) → Reading → Reading
owned_by (Some name) reading = owned name reading
owned_by None reading = reading

-- where no name is known, a line that is a JSON object has to show a key; one that is none asks nothing
abbrev pub guarded : Option (List ℕ) → Shown → Reading → Reading
guarded (Some name) shown reading = owned name reading
guarded None NoObject reading = reading
guarded None (Key name) reading = owned name reading
guarded None WrongKey reading = forbids

-- ---- with keys or without

abbrev pub reading_in : Catalogue → Option (List Entry) → Footing → List ℕ → Reading
reading_in catalogue None at line = asked_in catalogue at.later line
reading_in catalogue (Some keys) at line = guarded at.known (shown_by keys line) (asked_in catalogue at.later line)

abbrev pub shows_in : Option (List Entry) → List ℕ → Option (List ℕ)
shows_in None line = None
shows_in (Some keys) line = name_shown (shown_by keys line)

abbrev pub manner_of : Catalogue → Option (List Entry) → Manner
manner_of catalogue keys = record { reading = reading_in catalogue keys; shows = shows_in keys }

-- ---- texts

-- one text for no key, a wrong one, a name without one, and another name later
abbrev pub wrong_key_text : List ℕ
wrong_key_text = codes "{\"error\":\"wrong-key\"}"

abbrev pub reply_text : Catalogue → Reply → List ℕ
reply_text catalogue (of_answer answer) = line_of (answer_text catalogue answer)
reply_text catalogue of_memory = line_of memory_text
reply_text catalogue of_stop = line_of stopped_text
reply_text catalogue (of_denial index rule) = line_of (denied_text index rule)

abbrev pub speech_of : Catalogue → List Gate → Option (List Entry) → Speech
speech_of catalogue gates keys = record {
  manner = manner_of catalogue keys;
  reply_text = reply_text catalogue;
  refusal_text = λ why. line_of (refusal_text why);
  too_long = line_of too_long_text;
  wrong_key = line_of wrong_key_text;
  denies = gates;
}
