-- Commands that look at no device act on what outlasts a stop and on who is attached, and on nothing else.
use Rattle.std.proofs.Common.{◌≡◌, ℕ, ◌≤◌, max, pos, List, [], true, Option, Some, None, refl, ap, sym, ◌∙◌, arith}
use Rattle.boss_model.specs.declared.answer.Answer.{Answer}
use Rattle.boss_model.specs.declared.answer.Answer.TheVariants as answer
use Rattle.boss_model.specs.declared.answer.Mark.{Mark}
use Rattle.boss_model.specs.declared.answer.Mark.TheVariants as mark
use Rattle.boss_model.specs.declared.command.Command.{Command}
use Rattle.boss_model.specs.declared.command.Command.TheVariants as command
use Rattle.boss_model.specs.declared.state.Actuator.{Actuator}
use Rattle.boss_model.specs.Devices.{Reply}
use Rattle.boss_model.specs.Ends.{cancel, gone}
use Rattle.boss_model.specs.Machine.{answered, after, if_attached, joined, parted, notices_asked, act, pass_time, step}
use Rattle.boss_model.specs.Outcomes.{Outcome, refused, did}
use Rattle.boss_model.specs.Processes.{process_of, process_named, number_of, attach}
use Rattle.boss_model.specs.Queries.{reading, notices}
use Rattle.boss_model.specs.Renew.{renew}
use Rattle.boss_model.specs.Replies.{once}
use Rattle.boss_model.specs.Settle.{fresh}
use Rattle.boss_model.specs.Sound.{IsSoundPersistent}
use Rattle.boss_model.specs.State.{Persistent, Attachment, State}
use Rattle.boss_model.specs.declared.state.Took.{Took}
use Rattle.boss_model.specs.Submit.{submit}
use Rattle.boss_model.specs.Time.{due, moment_of, tick_to}
use Rattle.boss_model.specs.Reversions.{courses}
use Rattle.law_machine.specs.Commands.{is_apart_from_devices, is_question, unmarked, marked}
use Rattle.law_time.proofs.Coming.{now_after-within, later-first}
use Rattle.law_time.proofs.NothingDue.{sound-timed}
use Rattle.law_time.proofs.TickLaw.{tick_to-tick_to}

-- a reply without devices and wants
pub record Core : Type 0 where
  pub answer : Answer
  pub persistent : Persistent
  pub attached : List Attachment

abbrev pub core : Reply → Core
core reply = record { answer = reply.answer; persistent = reply.state.persistent; attached = reply.state.attached }

-- a state without devices and wants
abbrev pub bare : State → State
bare s = record s { proxies = []; wants = [] }

core-after : (s : State) (outcome : Outcome) → core (after s outcome) ≡ core (after (bare s) outcome)
core-after s (refused why) = refl
core-after s (did given d) = refl

core-joined : (session process : ℕ) (s : State) (outcome : Outcome) → core (joined session process s outcome) ≡ core (joined session process (bare s) outcome)
core-joined session process s (refused why) = refl
core-joined session process s (did given d) = refl

core-parted : (session : ℕ) (s : State) (outcome : Outcome) → core (parted session s outcome) ≡ core (parted session (bare s) outcome)
core-parted session s (refused why) = refl
core-parted session s (did given d) = refl

core-if : (held : Option ℕ) (go over : ℕ → Reply) (s : State) → ((p : ℕ) → core (go p) ≡ core (over p)) → core (if_attached held go s) ≡ core (if_attached held over (bare s))
core-if None go over s same = refl
core-if (Some p) go over s same = same p

core-notices : (name : Option (List ℕ)) (session from most : ℕ) (s : State) → core (notices_asked name session from most s) ≡ core (notices_asked name session from most (bare s))
core-notices (Some name) session from most s = refl
core-notices None session from most s = core-if (process_of s.attached session)
    (λ p. answered (notices (Some p) from most s.persistent) s) (λ p. answered (notices (Some p) from most s.persistent) (bare s)) s (λ p. refl)

pub core-act : (plant : List Actuator) (session n : ℕ) (c : Command) (s : State) → is_apart_from_devices c ≡ true →
    core (act plant session n c s) ≡ core (act plant session n c (bare s))
core-act plant session n (command.Attach name) s apart =
    core-joined session (number_of s.persistent.processes (process_named s.persistent.processes name)) s (attach session name s.attached n s.persistent)
core-act plant session n (command.Submit writes policy seq) s apart = core-if (process_of s.attached session)
    (λ p. after s (once p seq s.persistent (submit plant p policy writes n s.persistent))) (λ p. after (bare s) (once p seq s.persistent (submit plant p policy writes n s.persistent))) s
    (λ p. core-after s (once p seq s.persistent (submit plant p policy writes n s.persistent)))
core-act plant session n (command.Renew txn length points seq) s apart = core-if (process_of s.attached session)
    (λ p. after s (once p seq s.persistent (renew p txn length points n s.persistent))) (λ p. after (bare s) (once p seq s.persistent (renew p txn length points n s.persistent))) s
    (λ p. core-after s (once p seq s.persistent (renew p txn length points n s.persistent)))
core-act plant session n (command.Cancel txn seq) s apart = core-if (process_of s.attached session)
    (λ p. after s (once p seq s.persistent (cancel p txn n s.persistent))) (λ p. after (bare s) (once p seq s.persistent (cancel p txn n s.persistent))) s
    (λ p. core-after s (once p seq s.persistent (cancel p txn n s.persistent)))
core-act plant session n command.Gone s apart = core-if (process_of s.attached session)
    (λ p. parted session s (gone p n s.persistent)) (λ p. parted session (bare s) (gone p n s.persistent)) s (λ p. core-parted session s (gone p n s.persistent))
core-act plant session n command.Tick s apart = refl
core-act plant session n (command.Next driver) s apart = cc
core-act plant session n (command.Report point version ok) s apart = cc
core-act plant session n (command.Doubt point differs) s apart = cc
core-act plant session n (command.Read point) s apart = cc
core-act plant session n (command.Array point) s apart = refl
core-act plant session n (command.Status txn) s apart = refl
core-act plant session n (command.Notices name from most) s apart = core-notices name session from most s
core-act plant session n (command.Points from most) s apart = refl
core-act plant session n command.Version s apart = refl

-- a state of a persistent part and of who is attached
abbrev pub shell : Persistent → List Attachment → State
shell d attached = record { persistent = d; attached = attached; proxies = []; wants = [] }

-- the step's reply, devices and wants aside
pub core-step : (plant : List Actuator) (session : ℕ) (c : Command) (m : ℕ) (s : State) → is_apart_from_devices c ≡ true →
    core (step plant session c m s)
    ≡ core (act plant session (moment_of s.persistent m) c (shell (tick_to (moment_of s.persistent m) s.persistent) s.attached))
unfolding step
core-step plant session c m s apart = core-act plant session (moment_of s.persistent m) c (pass_time plant (moment_of s.persistent m) s) apart

-- ---- a tick before a later moment

-- the state after a tick is, devices and wants aside, the one to which time has passed
pub tick-step : (plant : List Actuator) (other a : ℕ) (s : State) →
    ((step plant other command.Tick a s).state.persistent ≡ tick_to (moment_of s.persistent a) s.persistent) × ((step plant other command.Tick a s).state.attached ≡ s.attached)
unfolding step
tick-step plant other a s = (refl, refl)

pub ticked-twice : (plant : List Actuator) (d : Persistent) (a m : ℕ) → IsSoundPersistent plant d → a ≤ m →
    (moment_of (tick_to (moment_of d a) d) m ≡ moment_of d m)
    × (tick_to (moment_of (tick_to (moment_of d a) d) m) (tick_to (moment_of d a) d) ≡ tick_to (moment_of d m) d)
ticked-twice plant d a m sound early =
    let n = max d.now a in
    let more : d.now ≤ (tick_to n d).now = later-first d.now (due n d) in
    let small : (tick_to n d).now ≤ n = now_after-within n d.now (courses d.pending d.leases) d.txns (omega arith) in
    let same : max (tick_to n d).now m ≡ max d.now m = omega arith in
    (same, tick_to-tick_to d n (max (tick_to n d).now m) (max d.now m) (sound-timed plant d sound) (omega arith) (omega arith) (omega arith))

pub tick-before : (plant : List Actuator) (s : State) (session other : ℕ) (c : Command) (a m : ℕ) → IsSoundPersistent plant s.persistent →
    is_apart_from_devices c ≡ true → a ≤ m →
    core (step plant session c m (step plant other command.Tick a s).state) ≡ core (step plant session c m s)
tick-before plant s session other c a m sound apart early =
    let s2 = (step plant other command.Tick a s).state in
    let first = tick-step plant other a s in
    let twice = ticked-twice plant s.persistent a m sound early in
    core-step plant session c m s2 apart
    ∙ (λ i. core (act plant session (moment_of (first.0 i) m) c (shell (tick_to (moment_of (first.0 i) m) (first.0 i)) (first.1 i))))
    ∙ (λ i. core (act plant session (twice.0 i) c (shell (twice.1 i) s.attached)))
    ∙ sym (core-step plant session c m s apart)

-- a reading without its mark
pub core-read : (plant : List Actuator) (session point m : ℕ) (s : State) →
    (unmarked (step plant session (command.Read point) m s).answer
    ≡ unmarked (reading plant point (fresh (pos 0)) (tick_to (moment_of s.persistent m) s.persistent)))
    × ((step plant session (command.Read point) m s).state.persistent ≡ tick_to (moment_of s.persistent m) s.persistent)
unfolding step
core-read plant session point m s = (refl, refl)

pub reading-before : (plant : List Actuator) (s : State) (session other point a m : ℕ) → IsSoundPersistent plant s.persistent → a ≤ m →
    (unmarked (step plant session (command.Read point) m (step plant other command.Tick a s).state).answer
    ≡ unmarked (step plant session (command.Read point) m s).answer)
    × ((step plant session (command.Read point) m (step plant other command.Tick a s).state).state.persistent
    ≡ (step plant session (command.Read point) m s).state.persistent)
reading-before plant s session other point a m sound early =
    let s2 = (step plant other command.Tick a s).state in
    let first = tick-step plant other a s in
    let twice = ticked-twice plant s.persistent a m sound early in
    let later = core-read plant session point m s2 in
    let once = core-read plant session point m s in
    let same : tick_to (moment_of s2.persistent m) s2.persistent ≡ tick_to (moment_of s.persistent m) s.persistent =
    ap (λ d. tick_to (moment_of d m) d) first.0 ∙ twice.1 in
    (later.0 ∙ ap (λ d. unmarked (reading plant point (fresh (pos 0)) d)) same ∙ sym once.0, later.1 ∙ same ∙ sym once.1)

-- ---- questions

-- a question looks at the persistent part alone
question-act : (plant : List Actuator) (session other n : ℕ) (c : Command) (d : Persistent) (x y : List Attachment) → is_question c ≡ true →
    (act plant session n c (shell d x)).answer ≡ (act plant other n c (shell d y)).answer
question-act plant session other n (command.Attach name) d x y question = cc
question-act plant session other n (command.Submit writes policy seq) d x y question = cc
question-act plant session other n (command.Renew txn length points seq) d x y question = cc
question-act plant session other n (command.Cancel txn seq) d x y question = cc
question-act plant session other n command.Gone d x y question = cc
question-act plant session other n command.Tick d x y question = refl
question-act plant session other n (command.Next driver) d x y question = cc
question-act plant session other n (command.Report point version ok) d x y question = cc
question-act plant session other n (command.Doubt point differs) d x y question = cc
question-act plant session other n (command.Read point) d x y question = cc
question-act plant session other n (command.Array point) d x y question = refl
question-act plant session other n (command.Status txn) d x y question = refl
question-act plant session other n (command.Notices (Some name) from most) d x y question = refl
question-act plant session other n (command.Notices None from most) d x y question = cc
question-act plant session other n (command.Points from most) d x y question = refl
question-act plant session other n command.Version d x y question = refl

questions-apart : (c : Command) → is_question c ≡ true → is_apart_from_devices c ≡ true
questions-apart (command.Attach name) question = refl
questions-apart (command.Submit writes policy seq) question = refl
questions-apart (command.Renew txn length points seq) question = refl
questions-apart (command.Cancel txn seq) question = refl
questions-apart command.Gone question = refl
questions-apart command.Tick question = refl
questions-apart (command.Next driver) question = cc
questions-apart (command.Report point version ok) question = cc
questions-apart (command.Doubt point differs) question = cc
questions-apart (command.Read point) question = cc
questions-apart (command.Array point) question = refl
questions-apart (command.Status txn) question = refl
questions-apart (command.Notices name from most) question = refl
questions-apart (command.Points from most) question = refl
questions-apart command.Version question = refl

pub question-same : (plant : List Actuator) (s t : State) (session other : ℕ) (c : Command) (m : ℕ) → s.persistent ≡ t.persistent →
    is_question c ≡ true → (step plant session c m s).answer ≡ (step plant other c m t).answer
question-same plant s t session other c m same question =
    let apart : is_apart_from_devices c ≡ true = questions-apart c question in
    ap (λ k. k.answer) (core-step plant session c m s apart)
    ∙ (λ i. (act plant session (moment_of (same i) m) c (shell (tick_to (moment_of (same i) m) (same i)) s.attached)).answer)
    ∙ question-act plant session other (moment_of t.persistent m) c (tick_to (moment_of t.persistent m) t.persistent) s.attached t.attached question
    ∙ sym (ap (λ k. k.answer) (core-step plant other c m t apart))

pub reading-same : (plant : List Actuator) (s t : State) (session other point m : ℕ) → s.persistent ≡ t.persistent →
    unmarked (step plant session (command.Read point) m s).answer ≡ unmarked (step plant other (command.Read point) m t).answer
reading-same plant s t session other point m same =
    (core-read plant session point m s).0
    ∙ ap (λ d. unmarked (reading plant point (fresh (pos 0)) (tick_to (moment_of d m) d))) same
    ∙ sym (core-read plant other point m t).0

-- with what it tells of the device, an answer without that is the answer again
pub mark-alone : (given : Answer) → (stands : Mark) × (differed : ℕ) × (took : Option Took) × (marked stands differed took (unmarked given) ≡ given)
mark-alone (answer.Reading point value basis stands differed took) = (stands, differed, took, refl)
mark-alone (answer.Attached name next) = (mark.Pending, 0, None, refl)
mark-alone (answer.Accepted txn until) = (mark.Pending, 0, None, refl)
mark-alone (answer.Renewed txn until) = (mark.Pending, 0, None, refl)
mark-alone (answer.Cancelled txn at) = (mark.Pending, 0, None, refl)
mark-alone (answer.Gone ended) = (mark.Pending, 0, None, refl)
mark-alone (answer.Ticked now) = (mark.Pending, 0, None, refl)
mark-alone (answer.Want point version value) = (mark.Pending, 0, None, refl)
mark-alone answer.Nothing = (mark.Pending, 0, None, refl)
mark-alone (answer.Noted current) = (mark.Pending, 0, None, refl)
mark-alone (answer.Array point slots) = (mark.Pending, 0, None, refl)
mark-alone (answer.Status txn owner stage live pending) = (mark.Pending, 0, None, refl)
mark-alone (answer.Notices first next list) = (mark.Pending, 0, None, refl)
mark-alone (answer.Points from most) = (mark.Pending, 0, None, refl)
mark-alone answer.Version = (mark.Pending, 0, None, refl)
mark-alone (answer.Refused why) = (mark.Pending, 0, None, refl)
