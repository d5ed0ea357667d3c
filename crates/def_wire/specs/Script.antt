-- Source: own.
-- A script: lines that are answered one after another, and the writes to devices that they leave.
use Rattle.std.specs.Prelude.{ℕ, zero, suc, ℤ, Bool, true, false, ◌||◌, nat_lt, if◌then◌else◌, List, [], ◌∷◌, ◌++◌, fold, length, Option, Some, None}
use Rattle.std.specs.Option.{option_to_list}
use Rattle.boss_model.specs.declared.answer.Answer.{Answer}
use Rattle.boss_model.specs.declared.answer.Answer.TheVariants as answer
use Rattle.boss_model.specs.declared.command.Command.{Command}
use Rattle.boss_model.specs.declared.command.Command.TheVariants as command
use Rattle.boss_model.specs.declared.event.Event.{Event}
use Rattle.def_wire.specs.declared.form.Form.TheVariants as form
use Rattle.boss_model.specs.DeviceCall.{DeviceCall}
use Rattle.boss_model.specs.Catalogue.{Catalogue, actuators}
use Rattle.boss_model.specs.Devices.{wanting}
use Rattle.boss_model.specs.Effects.{event_of, step_effect}
use Rattle.boss_model.specs.Limits.{longest_line}
use Rattle.boss_model.specs.Lines.{is_blank}
use Rattle.boss_model.specs.Machine.{step}
use Rattle.def_wire.specs.declared.request.Ask.{Ask}
use Rattle.def_wire.specs.declared.request.Ask.TheVariants as ask
use Rattle.def_wire.specs.declared.request.Request.{Request}
use Rattle.def_wire.specs.Requests.{Parsed, asks, wrong, parsed}
use Rattle.boss_model.specs.State.{State}
use Rattle.def_wire.specs.Texts.{answer_text, refusal_text, device_text, line_of, stopped_text, too_long_text}

-- A script under way: the machine's state, the text so far, the calls of devices and the events so far, and what the devices
-- will answer to the calls that are still to come. `left` is how many steps are still made before the journal fails, none where
-- it does not fail. A script has stopped where a step was not made. It is cut short where no more of the devices' answers are
-- known, and over where a line was too long.
pub record Run : Type 0 where
  pub state : State
  pub text : List ℕ
  pub calls : List DeviceCall
  pub events : List Event
  pub results : List Bool
  pub left : Option ℕ
  pub stopped : Bool
  pub short : Bool
  pub over : Bool

abbrev pub cut_short : Run → Run
cut_short run = record run { short = true }

-- one more line of text
abbrev pub say : List ℕ → Run → Run
say text run = record run { text = run.text ++ line_of text }

-- ---- steps

-- a step that is made; `go` is what follows its answer
abbrev pub made : Catalogue → ℕ → Command → ℕ → (Answer → Run → Run) → Option ℕ → Run → Run
made catalogue session command moment go left run =
    let done = step (actuators catalogue) session command moment run.state in
    go done.answer (record run {
      state = done.state;
      events = run.events ++ option_to_list (event_of command (step_effect (actuators catalogue) session command moment run.state));
      left = left;
    })

-- a step that is not made stops the script
abbrev pub halted : Run → Run
halted run = record run { stopped = true }

abbrev pub stepping_with : Option ℕ → Catalogue → ℕ → Command → ℕ → (Answer → Run → Run) → (Run → Run) → Run → Run
stepping_with None catalogue session command moment go halt run = made catalogue session command moment go None run
stepping_with (Some zero) catalogue session command moment go halt run = halt (halted run)
stepping_with (Some (suc left)) catalogue session command moment go halt run = made catalogue session command moment go (Some left) run

-- one step more, if one is left
abbrev pub stepping : Catalogue → ℕ → Command → ℕ → (Answer → Run → Run) → (Run → Run) → Run → Run
stepping catalogue session command moment go halt run = stepping_with run.left catalogue session command moment go halt run

-- nothing follows
abbrev pub rest : Run → Run
rest run = run

-- ---- the writes to devices

-- the device of the point was written, and took the value or not
abbrev pub written : Catalogue → ℕ → ℤ → Bool → Run → Run
written catalogue point value ok run = record run {
  text = run.text ++ line_of (device_text catalogue point value ok);
  calls = run.calls ++ record { point = point; value = value; ok = ok } ∷ [];
}

abbrev pub reported : Catalogue → ℕ → ℕ → ℕ → Bool → Run → Run
reported catalogue moment point version ok run = stepping catalogue 0 (command.Report point version ok) moment (λ noted after. after) rest run

-- what follows a driver's answer to Next: the write that it asks for, and the report of it
abbrev pub carry_out : Catalogue → ℕ → Answer → Bool → Run → Run
carry_out catalogue moment (answer.Want point version value) ok run =
    reported catalogue moment point version ok (written catalogue point value ok run)
carry_out catalogue moment other ok run = cut_short run

-- one want of this driver is served: it is asked, its device is written, and the result is reported, all at one moment
abbrev pub serve : Catalogue → ℕ → (Answer → Run → Run) → ℕ → Run → Run
serve catalogue moment go driver run = stepping catalogue 0 (command.Next driver) moment go rest run

-- the driver to be served next: the least that has a want, as long as the script has not stopped
abbrev pub next_driver : Catalogue → Run → Option ℕ
next_driver catalogue run = if run.stopped then None else wanting (actuators catalogue) run.state

abbrev pub if_wanting : Option ℕ → (ℕ → Run) → Run → Run
if_wanting None go run = run
if_wanting (Some driver) go run = go driver

-- until there is no want left, the least driver that has one is served; `results` is what the devices answer
unfoldable pub drain : Catalogue → ℕ → List Bool → Run → Run
drain catalogue moment [] run = if_wanting (next_driver catalogue run)
    (λ driver. serve catalogue moment (λ asked after. cut_short after) driver (record run { results = [] })) (record run { results = [] })
drain catalogue moment (ok ∷ results) run = if_wanting (next_driver catalogue run)
    (λ driver. serve catalogue moment (λ asked after. drain catalogue moment results (carry_out catalogue moment asked ok (record after { results = results })))
    driver (record run { results = ok ∷ results }))
    (record run { results = ok ∷ results })

-- ---- lines

abbrev pub is_too_long : List ℕ → Bool
is_too_long line = nat_lt longest_line (length line)

-- the answer to a command, and then the wants that it leaves; a step that is not made is told so
abbrev pub answered : Catalogue → ℕ → Command → ℕ → Run → Run
answered catalogue session command moment run = stepping catalogue session command moment
    (λ given after. drain catalogue moment after.results (say (answer_text catalogue given) after)) (say stopped_text) run

-- what is asked; no line of a script asks to watch
abbrev pub taken_up : Catalogue → ℕ → Ask → ℕ → Run → Run
taken_up catalogue session (ask.Command command) moment run = answered catalogue session command moment run
taken_up catalogue session (ask.Watch name from) moment run = run

-- a line that asks nothing makes no step
abbrev pub replied : Catalogue → Parsed Request → Run → Run
replied catalogue (wrong why) run = say (refusal_text why) run
replied catalogue (asks request) run = taken_up catalogue request.on request.ask request.at run

-- A line that is too long is told so, and nothing more is read; a blank one is passed over. Once the script has stopped, any
-- other line is told that, and nothing more.
abbrev pub line_read : Catalogue → Run → List ℕ → Run
line_read catalogue run line =
    if run.short || run.over then run else
    (if is_too_long line then record (say too_long_text run) { over = true } else
    (if is_blank line then run else
    (if run.stopped then say stopped_text run else replied catalogue (parsed catalogue form.Script line) run)))

abbrev pub begun : State → List Bool → Option ℕ → Run
begun s results left = record { state = s; text = []; calls = []; events = []; results = results; left = left; stopped = false; short = false; over = false }

-- A script from state s: the wants that are there are served, and then the lines one after another. `results` is what the
-- devices answer, and `left` how many steps are made, all where there is none.
unfoldable pub script : Catalogue → State → List (List ℕ) → List Bool → Option ℕ → Run
script catalogue s all results left = fold (line_read catalogue) (drain catalogue 0 results (begun s results left)) all
