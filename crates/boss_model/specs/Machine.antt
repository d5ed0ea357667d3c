-- Source: own.
use Rattle.std.specs.Prelude.{ℕ, List, Option, Some, None}
use Rattle.boss_model.specs.declared.answer.Answer.{Answer}
use Rattle.boss_model.specs.declared.answer.Answer.TheVariants as answer
use Rattle.boss_model.specs.declared.answer.Refusal.TheVariants as refusal
use Rattle.boss_model.specs.declared.command.Command.{Command}
use Rattle.boss_model.specs.declared.command.Command.TheVariants as command
use Rattle.boss_model.specs.Catalogue.{Actuator}
use Rattle.boss_model.specs.Devices.{Reply, proxy_of, next, report, doubt}
use Rattle.boss_model.specs.Ends.{cancel, gone}
use Rattle.boss_model.specs.Outcomes.{Outcome, refused, did}
use Rattle.boss_model.specs.Processes.{process_of, attached_too, detached, process_named, number_of, attach}
use Rattle.boss_model.specs.Queries.{reading, array, status, notices, notices_named}
use Rattle.boss_model.specs.Renew.{renew}
use Rattle.boss_model.specs.Replies.{once}
use Rattle.boss_model.specs.Settle.{retry, settle}
use Rattle.boss_model.specs.State.{State}
use Rattle.boss_model.specs.Submit.{submit}
use Rattle.boss_model.specs.Time.{moment_of, tick_to}

-- ---- the commands, at a moment n up to which time has passed

abbrev pub answered : Answer → State → Reply
answered given s = record { answer = given; state = s }

abbrev pub after : State → Outcome → Reply
after s (refused why) = answered (answer.Refused why) s
after s (did given d) = record { answer = given; state = record s { persistent = d } }

-- by the process that the session holds
abbrev pub if_attached : Option ℕ → (ℕ → Reply) → State → Reply
if_attached None go s = answered (answer.Refused refusal.NotAttached) s
if_attached (Some process) go s = go process

abbrev pub as_process : ℕ → State → (ℕ → Reply) → Reply
as_process session s go = if_attached (process_of s.attached session) go s

-- an attach that is not refused attaches the session to the process
abbrev pub joined : ℕ → ℕ → State → Outcome → Reply
joined session process s (refused why) = answered (answer.Refused why) s
joined session process s (did given d) =
    record { answer = given; state = record s { persistent = d; attached = attached_too session process s.attached } }

-- a process that is lost is held by no session
abbrev pub parted : ℕ → State → Outcome → Reply
parted session s (refused why) = answered (answer.Refused why) s
parted session s (did given d) =
    record { answer = given; state = record s { persistent = d; attached = detached session s.attached } }

-- the notices of the process of a name, or of the session's own
abbrev pub notices_asked : Option (List ℕ) → ℕ → ℕ → ℕ → State → Reply
notices_asked (Some name) session from most s = answered (notices_named name from most s.persistent) s
notices_asked None session from most s = as_process session s (λ process. answered (notices (Some process) from most s.persistent) s)

abbrev pub act : List Actuator → ℕ → ℕ → Command → State → Reply
act plant session n (command.Attach name) s =
    joined session (number_of s.persistent.processes (process_named s.persistent.processes name)) s (attach session name s.attached n s.persistent)
act plant session n (command.Submit writes policy seq) s =
    as_process session s (λ owner. after s (once owner seq s.persistent (submit plant owner policy writes n s.persistent)))
act plant session n (command.Renew txn length points seq) s =
    as_process session s (λ owner. after s (once owner seq s.persistent (renew owner txn length points n s.persistent)))
act plant session n (command.Cancel txn seq) s =
    as_process session s (λ owner. after s (once owner seq s.persistent (cancel owner txn n s.persistent)))
act plant session n command.Gone s = as_process session s (λ owner. parted session s (gone owner n s.persistent))
act plant session n command.Tick s = answered (answer.Ticked s.persistent.now) s
act plant session n (command.Next driver) s = next plant driver s
act plant session n (command.Report point version ok) s = report n point version ok s
act plant session n (command.Doubt point differs) s = doubt point differs s
act plant session n (command.Read point) s = answered (reading plant point (proxy_of s.proxies point) s.persistent) s
act plant session n (command.Array point) s = answered (array point s.persistent) s
act plant session n (command.Status txn) s = answered (status txn s.persistent) s
act plant session n (command.Notices name from most) s = notices_asked name session from most s
act plant session n (command.Points from most) s = answered (answer.Points from most) s
act plant session n command.Version s = answered answer.Version s

-- ---- a step: time passes, failed devices are tried again, the points settle, the command acts, and the points settle again

abbrev pub ticked : ℕ → State → State
ticked n s = record s { persistent = tick_to n s.persistent }

abbrev pub pass_time : List Actuator → ℕ → State → State
pass_time plant n s = settle plant (retry n (ticked n s))

abbrev pub settle_after : List Actuator → Reply → Reply
settle_after plant reply = record reply { state = settle plant reply.state }

unfoldable pub step : List Actuator → ℕ → Command → ℕ → State → Reply
step plant session command moment s =
    let n = moment_of s.persistent moment in settle_after plant (act plant session n command (pass_time plant n s))
