-- Source: own.
use Rattle.std.specs.Prelude.{Option, Some, None}
use Rattle.boss_model.specs.declared.answer.Answer.{Answer}
use Rattle.boss_model.specs.declared.answer.Refusal.{Refusal}
use Rattle.boss_model.specs.State.{Persistent}

-- what becomes of a command on a persistent part: it is refused, and nothing changes; or it answers, and leaves another one
pub data Outcome : Type 0 where
  refused : Refusal → Outcome
  did : Answer → Persistent → Outcome

abbrev pub unless : Option Refusal → Answer → Persistent → Outcome
unless None answer after = did answer after
unless (Some why) answer after = refused why
