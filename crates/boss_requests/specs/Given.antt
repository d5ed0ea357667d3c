-- Source: own.
use Rattle.std.specs.Prelude.{◌≡◌, ◌≤◌, ℕ, true, List, Option, Some, None, Result, Ok, Err}
use Rattle.boss_model.specs.declared.answer.Refusal.{Refusal}
use Rattle.boss_model.specs.declared.answer.Refusal.TheVariants as refusal
use Rattle.boss_model.specs.declared.spot.Spot.{Spot}
use Rattle.boss_model.specs.declared.state.Actuator.{Actuator}
use Rattle.boss_model.specs.Limits.{last_session}
use Rattle.boss_model.specs.Names.{is_name}
use Rattle.boss_model.specs.Sound.{IsAllowed}
use Rattle.def_wire.specs.declared.form.Form.{Form}
use Rattle.def_wire.specs.declared.form.Form.TheVariants.{Script, FirstLine, LaterLine}
use Rattle.def_wire.specs.declared.form.Op.{Op}
use Rattle.def_wire.specs.declared.form.Op.TheVariants as op
use Rattle.def_wire.specs.declared.request.Ask.{Ask}
use Rattle.def_wire.specs.declared.request.Ask.TheVariants.{Command, Watch}
use Rattle.def_wire.specs.Requests.{Parsed, asks, wrong}
use Rattle.boss_json.specs.declared.unread.Unread.{Unread}
use Rattle.boss_json.specs.declared.unread.Unread.TheVariants as unread
use Rattle.boss_requests.specs.declared.refusal.ReadRefusal.{ReadRefusal}
use Rattle.boss_requests.specs.declared.refusal.ReadRefusal.TheVariants.{Refused, NoMemory}

-- a line that is no value asks for nothing
abbrev pub refusal_of : Unread → ReadRefusal
refusal_of unread.Malformed = Refused (refusal.Malformed None)
refusal_of unread.NoMemory = NoMemory

-- the refusal is the one that reading gives. Want of memory says nothing.
abbrev pub IsTold : {A : Type 0} → ReadRefusal → Parsed A → Type 0
IsTold (Refused why) read = read ≡ wrong why
IsTold NoMemory read = Unit {0}

-- what was answered, seen by view, is what reading gives
abbrev pub Gives : {A B : Type 0} → (A → B) → Result A ReadRefusal → Parsed B → Type 0
Gives view (Ok x) read = read ≡ asks (view x)
Gives view (Err refusal) read = IsTold refusal read

-- a line that is at fault here
abbrev pub fault : Spot → Refusal
fault spot = refusal.Malformed (Some spot)

-- what a value spells, or where it is at fault, is what reading gives
abbrev pub Spells : {A : Type 0} → Result A Spot → Parsed A → Type 0
Spells (Ok x) read = read ≡ asks x
Spells (Err spot) read = read ≡ wrong (fault spot)

-- what is wrong, if anything is
abbrev pub fault_of : {A : Type 0} → Parsed A → Option Refusal
fault_of (asks x) = None
fault_of (wrong why) = Some why

-- this fault, or else the refusal that was found first
abbrev pub told_or : Option Refusal → ReadRefusal → ReadRefusal
told_or None first = first
told_or (Some why) first = Refused why

-- what is asked can be done on this plant
abbrev pub MayAsk : List Actuator → Ask → Type 0
MayAsk plant (Command command) = IsAllowed plant command
MayAsk plant (Watch name from) = (is_name name ≡ true) × (1 ≤ from)

-- only the first line of a connection asks to watch: by its op, and by what is asked for that
abbrev pub IsOpOf : Form → Op → Type 0
IsOpOf form op.Watch = form ≡ FirstLine
IsOpOf form other = Unit {0}

abbrev pub IsAskOf : Op → Ask → Type 0
IsAskOf by (Command command) = Unit {0}
IsAskOf by (Watch name from) = by ≡ op.Watch

abbrev pub IsOfForm : Form → Ask → Type 0
IsOfForm form (Command command) = Unit {0}
IsOfForm form (Watch name from) = form ≡ FirstLine

-- a line of a script has a session, and in the place of that of a connection stands 0
abbrev pub IsSession : Form → ℕ → Type 0
IsSession Script session = (1 ≤ session) × (session ≤ last_session)
IsSession FirstLine session = session ≡ 0
IsSession LaterLine session = session ≡ 0
