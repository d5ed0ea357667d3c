-- Source: own.
use Rattle.std.specs.Prelude.{◌≤◌, ◌<◌, Bool, true, false, List, length, vec_capacity}
use Rattle.std.specs.Option.{IfSome}
use Rattle.boss_model.specs.declared.answer.Answer.{Answer}
use Rattle.boss_model.specs.declared.answer.Answer.TheVariants as answer
use Rattle.boss_model.specs.declared.state.Actuator.{Actuator}
use Rattle.boss_model.specs.Queries.{array, notices, status}
use Rattle.boss_model.specs.State.{Persistent}
use Rattle.boss_engine.specs.declared.reply.Reply.{Reply}
use Rattle.boss_engine.specs.declared.reply.Reply.TheVariants as reply
use Rattle.boss_persistent.specs.Replying.{decision_answer}

-- the answer that a reply is, where this is what outlasts a stop
abbrev pub told : Persistent → Reply → Answer
told d (reply.Attached name next) = answer.Attached name next
told d (reply.Decided decision) = decision_answer decision
told d (reply.Gone ended) = answer.Gone ended
told d (reply.Ticked now) = answer.Ticked now
told d (reply.Want want) = answer.Want want.point want.version want.value
told d reply.Nothing = answer.Nothing
told d (reply.Noted current) = answer.Noted current
told d (reply.Read reading) = answer.Reading reading.point reading.value reading.basis reading.mark reading.differed reading.took
told d (reply.Array point) = array point d
told d (reply.Status txn) = status txn d
told d (reply.Notices process from most list) = notices process from most d
told d (reply.Points from most) = answer.Points from most
told d reply.Version = answer.Version
told d (reply.Refused why) = answer.Refused why

-- a driver's replies, and those whose answer is looked up
abbrev pub is_told_apart : Reply → Bool
is_told_apart (reply.Want want) = true
is_told_apart reply.Nothing = true
is_told_apart (reply.Noted current) = true
is_told_apart (reply.Array point) = true
is_told_apart (reply.Status txn) = true
is_told_apart (reply.Notices process from most list) = true
is_told_apart (reply.Points from most) = true
is_told_apart reply.Version = true
is_told_apart other = false

-- what it tells of is there, and there is room for a list
abbrev pub IsTellable : List Actuator → Persistent → Reply → Type 0
IsTellable plant d (reply.Array point) = point < length plant
IsTellable plant d (reply.Notices process from most list) = IfSome process (λ process. process < length d.processes) × (most ≤ vec_capacity list)
IsTellable plant d other = Unit {0}
