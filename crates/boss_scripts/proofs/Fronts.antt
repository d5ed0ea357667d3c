-- Lists that begin with others, and runs that go on with others.
use Rattle.std.proofs.Common.{ℕ, zero, suc, Bool, true, List, [], ◌∷◌, ◌++◌, Option, Some, None, refl, ap, sym, ◌∙◌, append_assoc, append-nil, ◌||◌, if◌then◌else◌}
use Rattle.std.specs.Option.{option_to_list}
use Rattle.std.proofs.lemmas.Bool.{cond_both}
use Rattle.boss_model.specs.declared.answer.Answer.{Answer}
use Rattle.boss_model.specs.declared.answer.Answer.TheVariants as answer
use Rattle.boss_model.specs.declared.command.Command.{Command}
use Rattle.boss_model.specs.declared.command.Command.TheVariants as command
use Rattle.boss_model.specs.declared.event.Event.{Event}
use Rattle.def_wire.specs.declared.form.Form.TheVariants as form
use Rattle.boss_model.specs.DeviceCall.{DeviceCall}
use Rattle.boss_model.specs.Catalogue.{Catalogue, actuators}
use Rattle.boss_model.specs.Effects.{event_of, step_effect}
use Rattle.boss_model.specs.Machine.{step}
use Rattle.boss_model.specs.Lines.{is_blank}
use Rattle.def_wire.specs.declared.request.Ask.{Ask}
use Rattle.def_wire.specs.declared.request.Ask.TheVariants as ask
use Rattle.def_wire.specs.declared.request.Request.{Request}
use Rattle.def_wire.specs.Requests.{Parsed, asks, wrong, parsed}
use Rattle.def_wire.specs.Script.{Run, cut_short, say, made, halted, stepping, stepping_with, rest, written, reported, serve, next_driver, carry_out, if_wanting, drain, is_too_long, answered, taken_up, replied, line_read}
use Rattle.def_wire.specs.Texts.{answer_text, device_text, line_of, refusal_text, stopped_text, too_long_text}
use Rattle.boss_scripts.specs.Runs.{IsFrontOf, Covers, served, line_taken, lines_taken}

-- ---- fronts

pub front-whole : {A : Type 0} (xs : List A) → IsFrontOf xs xs
front-whole xs = ([], sym (append-nil xs))

pub front-trans : {A : Type 0} (xs ys zs : List A) → IsFrontOf xs ys → IsFrontOf ys zs → IsFrontOf xs zs
front-trans xs ys zs first second = (first.0 ++ second.0, second.1 ∙ ap (λ front. front ++ second.0) first.1 ∙ append_assoc xs first.0 second.0)

pub front-under : {A : Type 0} (before xs ys : List A) → IsFrontOf xs ys → IsFrontOf (before ++ xs) (before ++ ys)
front-under before xs ys front = (front.0, ap (λ rest. before ++ rest) front.1 ∙ sym (append_assoc before xs front.0))

pub covers-trans : (run later : Run) (text : List ℕ) (calls : List DeviceCall) (events : List Event) → Covers later run.text run.calls run.events → Covers run text calls events →
    Covers later text calls events
covers-trans run later text calls events second first = (
  front-trans text run.text later.text first.0 second.0,
  front-trans calls run.calls later.calls first.1 second.1,
  front-trans events run.events later.events first.2 second.2,
)

-- ---- each part of a script goes on

-- nothing of what was told, called and made is taken back
abbrev pub GoesOn : (Run → Run) → Type 0
GoesOn part = (run : Run) → Covers (part run) run.text run.calls run.events

pub stays : (run : Run) → Covers run run.text run.calls run.events
stays run = (front-whole run.text, front-whole run.calls, front-whole run.events)

pub says : (text : List ℕ) (run : Run) → Covers (say text run) run.text run.calls run.events
says text run = ((line_of text, refl), front-whole run.calls, front-whole run.events)

-- a step, and what follows it or its want
stepping-covers : (catalogue : Catalogue) (session : ℕ) (command : Command) (moment : ℕ) (go : Answer → Run → Run) (halt : Run → Run) (run : Run) →
    ((given : Answer) → GoesOn (go given)) → GoesOn halt → Covers (stepping catalogue session command moment go halt run) run.text run.calls run.events
stepping-covers catalogue session command moment go halt run goes halts = by run.left
  where
    there : (left : Option ℕ) → Covers (made catalogue session command moment go left run) run.text run.calls run.events
    there left =
        let done = step (actuators catalogue) session command moment run.state in
        let more = option_to_list (event_of command (step_effect (actuators catalogue) session command moment run.state)) in
        let after : Run = record run { state = done.state; events = run.events ++ more; left = left } in
        covers-trans after (go done.answer after) run.text run.calls run.events (goes done.answer after) (front-whole run.text, front-whole run.calls, (more, refl))

    by : (left : Option ℕ) → Covers (stepping_with left catalogue session command moment go halt run) run.text run.calls run.events
    by None = there None
    by (Some zero) = halts (halted run)
    by (Some (suc left)) = there (Some left)

pub reported-covers : (catalogue : Catalogue) (moment point version : ℕ) (ok : Bool) → GoesOn (reported catalogue moment point version ok)
reported-covers catalogue moment point version ok run =
    stepping-covers catalogue 0 (command.Report point version ok) moment (λ noted later. later) rest run (λ noted later. stays later) stays

carry-covers : (catalogue : Catalogue) (moment : ℕ) (given : Answer) (ok : Bool) → GoesOn (carry_out catalogue moment given ok)
carry-covers catalogue moment (answer.Want point version value) ok run =
    let after = written catalogue point value ok run in
    covers-trans after (reported catalogue moment point version ok after) run.text run.calls run.events
    (reported-covers catalogue moment point version ok after)
    ((line_of (device_text catalogue point value ok), refl), (record { point = point; value = value; ok = ok } ∷ [], refl), front-whole run.events)
carry-covers catalogue moment given ok run = stays run

if-covers : (found : Option ℕ) (go : ℕ → Run) (run : Run) (text : List ℕ) (calls : List DeviceCall) (events : List Event) → ((driver : ℕ) → Covers (go driver) text calls events) →
    Covers run text calls events → Covers (if_wanting found go run) text calls events
if-covers None go run text calls events goes rests = rests
if-covers (Some driver) go run text calls events goes rests = goes driver

pub drain-covers : (catalogue : Catalogue) (moment : ℕ) (results : List Bool) → GoesOn (drain catalogue moment results)
unfolding drain
drain-covers catalogue moment [] run = if-covers (next_driver catalogue run) (λ driver. serve catalogue moment (λ asked after. cut_short after) driver (record run { results = [] }))
    (record run { results = [] }) run.text run.calls run.events
    (λ driver. stepping-covers catalogue 0 (command.Next driver) moment (λ asked after. cut_short after) rest (record run { results = [] }) (λ asked after. stays after) stays)
    (stays run)
drain-covers catalogue moment (ok ∷ results) run =
    let go : Answer → Run → Run = λ asked after. drain catalogue moment results (carry_out catalogue moment asked ok (record after { results = results })) in
    if-covers (next_driver catalogue run) (λ driver. serve catalogue moment go driver (record run { results = ok ∷ results })) (record run { results = ok ∷ results })
    run.text run.calls run.events
    (λ driver. stepping-covers catalogue 0 (command.Next driver) moment go rest (record run { results = ok ∷ results })
    (λ asked after.
    let carried = carry_out catalogue moment asked ok (record after { results = results }) in
    covers-trans carried (go asked after) after.text after.calls after.events (drain-covers catalogue moment results carried)
    (carry-covers catalogue moment asked ok (record after { results = results })))
    stays)
    (stays run)

pub served-covers : (catalogue : Catalogue) (moment : ℕ) → GoesOn (served catalogue moment)
served-covers catalogue moment run = drain-covers catalogue moment run.results run

pub answered-covers : (catalogue : Catalogue) (session : ℕ) (command : Command) (moment : ℕ) → GoesOn (answered catalogue session command moment)
answered-covers catalogue session command moment run =
    stepping-covers catalogue session command moment
    (λ given after. drain catalogue moment after.results (say (answer_text catalogue given) after)) (say stopped_text) run
    (λ given after.
    let told = say (answer_text catalogue given) after in
    covers-trans told (drain catalogue moment after.results told) after.text after.calls after.events (drain-covers catalogue moment after.results told)
    (says (answer_text catalogue given) after))
    (λ after. says stopped_text after)

taken_up-covers : (catalogue : Catalogue) (session : ℕ) (asked : Ask) (moment : ℕ) → GoesOn (taken_up catalogue session asked moment)
taken_up-covers catalogue session (ask.Command command) moment run = answered-covers catalogue session command moment run
taken_up-covers catalogue session (ask.Watch name from) moment run = stays run

replied-covers : (catalogue : Catalogue) (asked : Parsed Request) → GoesOn (replied catalogue asked)
replied-covers catalogue (wrong why) run = says (refusal_text why) run
replied-covers catalogue (asks request) run = taken_up-covers catalogue request.on request.ask request.at run

pub line-covers : (catalogue : Catalogue) (line : List ℕ) → GoesOn (line_taken catalogue line)
line-covers catalogue line run =
    let goes : Run → Type 0 = λ later. Covers later run.text run.calls run.events in
    let reply = replied catalogue (parsed catalogue form.Script line) run in
    let long : Run = record (say too_long_text run) { over = true } in
    let told : Run = if run.stopped then say stopped_text run else reply in
    cond_both (run.short || run.over) run (if is_too_long line then long else (if is_blank line then run else told)) goes
    (λ _. stays run)
    (λ _. cond_both (is_too_long line) long (if is_blank line then run else told) goes
    (λ _. says too_long_text run)
    (λ _. cond_both (is_blank line) run told goes (λ _. stays run)
    (λ _. cond_both run.stopped (say stopped_text run) reply goes (λ _. says stopped_text run)
    (λ _. replied-covers catalogue (parsed catalogue form.Script line) run))))

pub lines-cover : (catalogue : Catalogue) (all : List (List ℕ)) → GoesOn (lines_taken catalogue all)
lines-cover catalogue [] run = stays run
lines-cover catalogue (line ∷ rest) run =
    covers-trans (line_read catalogue run line) (lines_taken catalogue (line ∷ rest) run) run.text run.calls run.events
    (lines-cover catalogue rest (line_read catalogue run line)) (line-covers catalogue line run)
