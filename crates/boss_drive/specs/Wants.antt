-- Source: own.
use Rattle.std.specs.Prelude.{Option, Some, None}
use Rattle.boss_model.specs.declared.answer.Answer.{Answer}
use Rattle.boss_model.specs.declared.answer.Answer.TheVariants as answer
use Rattle.boss_drive.specs.declared.want.Want.{Want}

-- how a driver that asks for its next want is answered
abbrev pub answer_to : Option Want → Answer
answer_to None = answer.Nothing
answer_to (Some want) = answer.Want want.point want.version want.value
