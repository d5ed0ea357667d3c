-- Source: own.
use Rattle.std.specs.Prelude.{ℕ, Bool, true, false, Option, Some, None}
use Rattle.boss_model.specs.declared.answer.Answer.{Answer}
use Rattle.boss_model.specs.declared.answer.Answer.TheVariants as answer
use Rattle.boss_model.specs.declared.answer.Mark.{Mark}
use Rattle.boss_model.specs.declared.answer.Mark.TheVariants as mark
use Rattle.boss_model.specs.declared.state.Took.{Took}
use Rattle.boss_model.specs.declared.command.Command.{Command}
use Rattle.boss_model.specs.declared.command.Command.TheVariants as command

-- commands that look at no device's mark and at no want
abbrev pub is_apart_from_devices : Command → Bool
is_apart_from_devices (command.Next driver) = false
is_apart_from_devices (command.Report point version ok) = false
is_apart_from_devices (command.Doubt point differs) = false
is_apart_from_devices (command.Read point) = false
is_apart_from_devices c = true

-- commands that look at what outlasts a stop, and change no more than time does: they are the same for every session
abbrev pub is_question : Command → Bool
is_question command.Tick = true
is_question (command.Array point) = true
is_question (command.Status txn) = true
is_question (command.Notices (Some name) from most) = true
is_question (command.Points from most) = true
is_question command.Version = true
is_question c = false

-- a reading without what it tells of the device: its mark, how often it differed and what it took; every other answer as it is
abbrev pub unmarked : Answer → Answer
unmarked (answer.Reading point value basis stands differed took) = answer.Reading point value basis mark.Pending 0 None
unmarked given = given

-- a reading that tells this of the device; every other answer as it is
abbrev pub marked : Mark → ℕ → Option Took → Answer → Answer
marked stands differed took (answer.Reading point value basis other count last) = answer.Reading point value basis stands differed took
marked stands differed took given = given
