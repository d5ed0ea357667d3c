-- Source: BOSS (Dawson-Haggerty et al., NSDI 2013), transaction manager (control processes); names and sessions own.
use Rattle.std.specs.Prelude.{ℕ, ◌+◌, ◌==◌, nat_eq, nat_le, Bool, not, if◌then◌else◌, List, [], ◌∷◌, ◌++◌, length, filter, find, position, Option, Some, None, slice_get}
use Rattle.std.specs.Option.{option_map, option_map_or}
use Rattle.std.specs.Cmp.Lexicographic.{pointwise}
use Rattle.boss_model.specs.declared.answer.Answer.TheVariants as answer
use Rattle.boss_model.specs.declared.answer.Refusal.{Refusal}
use Rattle.boss_model.specs.declared.answer.Refusal.TheVariants as refusal
use Rattle.boss_model.specs.Limits.{most_processes}
use Rattle.boss_model.specs.Lists.{first_some}
use Rattle.boss_model.specs.Outcomes.{Outcome, unless}
use Rattle.boss_model.specs.State.{Process, Persistent, Attachment}

-- the process that the session holds, and the session that holds the process
abbrev pub process_of : List Attachment → ℕ → Option ℕ
process_of attached session = option_map (λ attachment. attachment.process) (find (λ attachment. attachment.session == session) attached)

abbrev pub session_of : List Attachment → ℕ → Option ℕ
session_of attached process = option_map (λ attachment. attachment.session) (find (λ attachment. attachment.process == process) attached)

abbrev pub detached : ℕ → List Attachment → List Attachment
detached session attached = filter (λ attachment. not (attachment.session == session)) attached

abbrev pub attached_too : ℕ → ℕ → List Attachment → List Attachment
attached_too session process attached = attached ++ (record { session = session; process = process }) ∷ []

-- the place of the process of this name
abbrev pub process_named : List Process → List ℕ → Option ℕ
process_named processes name = position (λ process. pointwise nat_eq process.name name) processes

abbrev pub name_of : List Process → ℕ → List ℕ
name_of processes process = option_map_or (λ p. p.name) (slice_get processes process) []

-- the number of a process's next notice
abbrev pub next_notice : List Process → ℕ → ℕ
next_notice processes process = option_map_or (λ p. p.count) (slice_get processes process) 0 + 1

abbrev pub enrolled : List ℕ → ℕ → Persistent → Persistent
enrolled name n d = record d { now = n; processes = d.processes ++ (record { name = name; count = 0; kept = []; reply = None }) ∷ [] }

-- the number that the process of this name has, or gets
abbrev pub number_of : List Process → Option ℕ → ℕ
number_of processes None = length processes
number_of processes (Some process) = process

-- ---- attach: in this order, the session may not hold a process, nobody may hold this one, and there may be room for a new one

abbrev pub is_full : List Process → Bool
is_full processes = nat_le most_processes (length processes)

abbrev pub process_refused : List Process → List Attachment → Option ℕ → Option Refusal
process_refused processes attached None = if is_full processes then Some refusal.TooManyProcesses else None
process_refused processes attached (Some process) = option_map refusal.Taken (session_of attached process)

abbrev pub attach_refused : ℕ → List ℕ → List Attachment → Persistent → Option Refusal
attach_refused session name attached d = first_some (
    option_map (λ process. refusal.Already (name_of d.processes process)) (process_of attached session) ∷
    process_refused d.processes attached (process_named d.processes name) ∷ [])

-- a process of this name is taken on, unless there is one
abbrev pub enrol_unless : Option ℕ → List ℕ → ℕ → Persistent → Persistent
enrol_unless None name n d = enrolled name n d
enrol_unless (Some process) name n d = d

abbrev pub enrol : List ℕ → ℕ → Persistent → Persistent
enrol name n d = enrol_unless (process_named d.processes name) name n d

abbrev pub attach : ℕ → List ℕ → List Attachment → ℕ → Persistent → Outcome
attach session name attached n d = unless (attach_refused session name attached d)
    (answer.Attached name (next_notice d.processes (number_of d.processes (process_named d.processes name))))
    (enrol name n d)
