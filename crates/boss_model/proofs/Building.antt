-- A small building, and calls to its transaction manager, for the worked timelines.
use Rattle.std.proofs.Common.{ℕ, pos, Bool, true, List, [], ◌∷◌, ◌++◌, Option, Some, None}
use Rattle.std.specs.Prelude.{codes}
use Rattle.boss_model.specs.declared.answer.Answer.{Answer}
use Rattle.boss_model.specs.declared.answer.Answer.TheVariants as answer
use Rattle.boss_model.specs.declared.command.Command.{Command}
use Rattle.boss_model.specs.declared.command.Command.TheVariants as command
use Rattle.boss_model.specs.declared.command.Policy.TheVariants.{Abort}
use Rattle.boss_model.specs.declared.command.Setting.{Setting}
use Rattle.boss_model.specs.declared.command.Step.{Step}
use Rattle.boss_model.specs.declared.notice.Notice.{Notice}
use Rattle.boss_model.specs.declared.notice.What.{What}
use Rattle.boss_model.specs.declared.point.Kind.TheVariants.{Analog, Binary, Multi}
use Rattle.boss_model.specs.Catalogue.{Actuator}
use Rattle.boss_model.specs.Run.{Call, answers}
use Rattle.boss_model.specs.Settle.{first_state}
use Rattle.boss_model.specs.State.{Took}

-- one driver; a damper from closed, 0, to open, 100,000 thousandths of a percent, by default 20,000; a lamp, by default
-- off; and a fan of three speeds, by default at the first
abbrev pub building : List Actuator
building =
    record { kind = Analog (pos 0) (pos 100000); default = pos 20000; driver = 0 } ∷
    record { kind = Binary; default = pos 0; driver = 0 } ∷
    record { kind = Multi (pos 3); default = pos 1; driver = 0 } ∷ []

abbrev pub damper : ℕ
damper = 0

abbrev pub lamp : ℕ
lamp = 1

abbrev pub fan : ℕ
fan = 2

-- ---- what is asked

abbrev pub at : ℕ → ℕ → Command → Call
at moment session command = record { session = session; command = command; moment = moment }

-- a write without a reversion, and one with
abbrev pub write : ℕ → ℕ → ℕ → ℕ → Setting
write point value priority lease = record { point = point; value = pos value; priority = pos priority; lease = pos lease; revert = [] }

abbrev pub reverting : List Step → Setting → Setting
reverting steps setting = record setting { revert = steps }

abbrev pub held : ℕ → ℕ → Step
held value hold = record { value = pos value; hold = pos hold }

abbrev pub submit : List Setting → Command
submit writes = command.Submit writes Abort 0

abbrev pub renew : ℕ → ℕ → Command
renew txn length = command.Renew txn (pos length) [] 0

abbrev pub cancel : ℕ → Command
cancel txn = command.Cancel txn 0

abbrev pub notices : Command
notices = command.Notices None 1 16

-- a device is asked for, written and reported, all at one moment
abbrev pub device : ℕ → ℕ → ℕ → Bool → List Call
device moment point version ok = at moment 0 (command.Next 0) ∷ at moment 0 (command.Report point version ok) ∷ []

-- the first process attaches, and the second
abbrev pub a_attaches : Call
a_attaches = at 0 1 (command.Attach (codes "a"))

abbrev pub b_attaches : Call
b_attaches = at 0 2 (command.Attach (codes "b"))

-- the devices take their defaults
abbrev pub opening : List Call
opening = device 0 damper 1 true ++ device 0 lamp 1 true ++ device 0 fan 1 true

-- ---- what is answered

abbrev pub asked : List Call → List Answer
asked calls = answers building (first_state building) calls

abbrev pub took : ℕ → ℕ → ℕ → List Answer
took point version value = answer.Want point version (pos value) ∷ answer.Noted true ∷ []

-- the device took this value last, at this moment
abbrev pub since : ℕ → ℕ → Option Took
since value moment = Some (record { value = pos value; since = moment })

abbrev pub opened : List Answer
opened = took damper 1 20000 ++ took lamp 1 0 ++ took fan 1 1

abbrev pub a_attached : Answer
a_attached = answer.Attached (codes "a") 1

abbrev pub b_attached : Answer
b_attached = answer.Attached (codes "b") 1

abbrev pub notice : ℕ → ℕ → ℕ → What → Notice
notice number at txn told = record { number = number; at = at; txn = txn; what = told }
