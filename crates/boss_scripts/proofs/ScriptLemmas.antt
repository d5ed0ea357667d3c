-- The wants of the beginning and the lines behind them, as a script.
use Rattle.std.proofs.Common.{◌≡◌, ℕ, Bool, ◌||◌, true, false, List, [], ◌∷◌, ◌++◌, length, Option, Some, None, if◌then◌else◌, refl, ap, sym, subst, ◌∙◌, append-nil, append_assoc}
use Rattle.boss_model.specs.declared.event.Event.{Event}
use Rattle.boss_model.specs.DeviceCall.{DeviceCall}
use Rattle.boss_model.specs.Catalogue.{Catalogue, actuators}
use Rattle.boss_model.specs.State.{State}
use Rattle.def_wire.specs.Script.{Run, is_too_long, script}
use Rattle.def_wire.specs.Texts.{line_of, too_long_text}
use Rattle.def_history.specs.declared.entry.Entry.{Entry}
use Rattle.def_history.specs.declared.entry.Entry.TheVariants as entry
use Rattle.def_history.specs.History.{deeds, events, is_broken}
use Rattle.boss_outside.proofs.Noting.{notes-nothing}
use Rattle.boss_outside.specs.Streams.{TakesFront}
use Rattle.boss_scripts.specs.InTime.{AreInTime}
use Rattle.boss_scripts.specs.Outside.{Outside, Trace}
use Rattle.boss_scripts.specs.Runs.{after, at, Did, Broke, Covers, dealt, IsFrontOf, IsLeft, left_before, lines_taken, one_step_more, served, stop, Under}
use Rattle.boss_scripts.specs.Scripts.{BrokeScript, RanScript, script_with, steps_of}
use Rattle.boss_scripts.proofs.Answering.{answered-nothing}
use Rattle.boss_scripts.proofs.Fronts.{front-under, front-whole}
use Rattle.boss_scripts.proofs.RunLemmas.{dealt-none}

-- the wants of the beginning, and then these lines
abbrev pub opened : Catalogue → List (List ℕ) → Run → Run
opened catalogue all run = lines_taken catalogue all (served catalogue 0 run)

abbrev pub begun : State → Under
begun s = record { state = s; stopped = false }

-- ---- the steps of a script that leaves these entries

none-more : (entries : List Entry) → left_before entries None ≡ None
none-more [] = refl
none-more (entry.Did session command moment answer ∷ entries) = ap one_step_more (none-more entries)
none-more (entry.Broke session commands others ∷ entries) = none-more entries

as-many : (entries : List Entry) → left_before entries (Some 0) ≡ Some (length (deeds entries))
as-many [] = refl
as-many (entry.Did session command moment answer ∷ entries) = ap one_step_more (as-many entries)
as-many (entry.Broke session commands others ∷ entries) = as-many entries

-- what is left behind them
abbrev left_if : Bool → Option ℕ
left_if b = if b then Some 0 else None

abbrev pub left_behind : List Entry → Option ℕ
left_behind entries = left_if (is_broken entries)

steps-are : (entries : List Entry) → left_before entries (left_behind entries) ≡ steps_of entries
steps-are entries = by (is_broken entries)
  where
    by : (b : Bool) → left_before entries (left_if b) ≡ (if b then Some (length (deeds entries)) else None)
    by true = as-many entries
    by false = none-more entries

module _ (catalogue : Catalogue) (s : State) (entries : List Entry) where
  abbrev end : Under
  end = after (actuators catalogue) entries (begun s)

  pub is-left : IsLeft end (left_behind entries)
  is-left = by (is_broken entries)
    where
      by : (b : Bool) → (b || false) ≡ true → left_if b ≡ Some 0
      by true on = refl
      by false on = absurd cc

  pub script-is : (all : List (List ℕ)) (results : List Bool) →
      script_with catalogue s all entries results ≡ opened catalogue all (at (begun s) [] [] [] (results ++ []) (left_before entries (left_behind entries)))
  unfolding script
  script-is all results =
      ap (λ n. opened catalogue all (at (begun s) [] [] [] results n)) (sym (steps-are entries))
      ∙ ap (λ rs. opened catalogue all (at (begun s) [] [] [] rs (left_before entries (left_behind entries)))) (sym (append-nil results))

  -- a part that was led to its end is the script
  module _ (all : List (List ℕ)) {rest : Run → Run} {old new : Trace} (did : Did (actuators catalogue) (opened catalogue all) rest (begun s) entries old new) where
    pub led : script_with catalogue s all entries did.results ≡ rest (at end did.told did.calls (events (actuators catalogue) entries s) [] (left_behind entries))
    led = script-is all did.results ∙ did.leads [] [] [] [] (left_behind entries) is-left

-- a script that is over, all of whose devices' answers were used
abbrev over_at : Under → List ℕ → List DeviceCall → List Event → Option ℕ → Run
over_at u text calls events left = record (at u text calls events [] left) { over = true }

-- once a line was too long no other line does anything
over-stays : (catalogue : Catalogue) (all : List (List ℕ)) (u : Under) (text : List ℕ) (calls : List DeviceCall) (events : List Event) (left : Option ℕ) →
    lines_taken catalogue all (over_at u text calls events left) ≡ over_at u text calls events left
over-stays catalogue [] u text calls events left = refl
over-stays catalogue (line ∷ all) u text calls events left = over-stays catalogue all u text calls events left

over-here : (catalogue : Catalogue) (line : List ℕ) (more : List (List ℕ)) (u : Under) (text : List ℕ) (calls : List DeviceCall) (events : List Event) (left : Option ℕ) →
    is_too_long line ≡ true → lines_taken catalogue (line ∷ more) (at u text calls events [] left) ≡ over_at u (text ++ line_of too_long_text) calls events left
over-here catalogue line more u text calls events left long =
    ap (lines_taken catalogue more) (rw long refl) ∙ over-stays catalogue more u (text ++ line_of too_long_text) calls events left

or-none : (b : Bool) → (b || false) ≡ b
or-none true = refl
or-none false = refl

-- nothing was told, called and made yet
pub nothing : (catalogue : Catalogue) (s : State) (all : List (List ℕ)) (old : Outside) → BrokeScript catalogue s all [] old old
nothing catalogue s all old = record {
  results = [];
  told = [];
  calls = [];
  front = ((script_with catalogue s all [] []).text, refl);
  first = ((script_with catalogue s all [] []).calls, refl);
  earliest = ((script_with catalogue s all [] []).events, refl);
  text = sym (append-nil old.trace.taken);
  answered = answered-nothing old.trace.faults;
  devices = λ whole. (whole, sym (dealt-none (actuators catalogue) old.trace.calls));
  in_time = notes-nothing _ old.reads;
}

-- the reads of a script that leaves these entries were in time
abbrev pub ReadsInTime : Catalogue → State → List Entry → Outside → Outside → List Bool → Type 0
ReadsInTime catalogue s entries old new results = AreInTime (λ come. script_with catalogue s come entries results) old.left (length old.trace.taken) old.reads new.reads

module _ (catalogue : Catalogue) (s : State) (all : List (List ℕ)) {entries : List Entry} (old new : Outside) where
  -- what broke off is a script that broke off
  pub broke-whole : (broke : Broke (actuators catalogue) (opened catalogue all) (begun s) entries old.trace new.trace) → ReadsInTime catalogue s entries old new broke.results →
      BrokeScript catalogue s all entries old new
  broke-whole broke reads =
      let covers : Covers (script_with catalogue s all entries broke.results) broke.told broke.calls (events (actuators catalogue) entries s) =
      subst (λ r. Covers r broke.told broke.calls (events (actuators catalogue) entries s)) (sym (script-is catalogue s entries all broke.results))
      (broke.begins [] [] [] [] (left_behind entries) (is-left catalogue s entries)) in
      record {
        results = broke.results;
        told = broke.told;
        calls = broke.calls;
        front = covers.0;
        first = covers.1;
        earliest = covers.2;
        text = broke.text;
        answered = broke.answered;
        devices = broke.devices;
        in_time = reads;
      }

  -- what came to its end is a script
  pub ran-whole : (did : Did (actuators catalogue) (opened catalogue all) stop (begun s) entries old.trace new.trace) → ReadsInTime catalogue s entries old new did.results →
      RanScript catalogue s all false entries old new
  ran-whole did reads =
      let run = led catalogue s entries all did in
      record {
        results = did.results;
        finished = ap (λ r. r.short) run;
        over = ap (λ r. r.over) run;
        used = ap (λ r. r.results) run;
        stopped = ap (λ r. r.stopped) run ∙ or-none (is_broken entries);
        text = did.text ∙ ap (λ r. old.trace.taken ++ r.text) (sym run);
        events = ap (λ r. r.events) run;
        state = ap (λ r. r.state) run;
        answered = did.answered;
        devices = λ whole. let done = did.devices whole in (done.0, done.1 ∙ ap (λ r. dealt (actuators catalogue) r.calls old.trace.calls) (sym run));
        in_time = reads;
      }

  module _ (line : List ℕ) (more : List (List ℕ)) (did : Did (actuators catalogue) (opened catalogue all) (lines_taken catalogue (line ∷ more)) (begun s) entries old.trace new.trace)
      (reads : ReadsInTime catalogue s entries old new did.results) (told : List ℕ) (faults : ℕ) (long : is_too_long line ≡ true) where
    over-run : script_with catalogue s all entries did.results
        ≡ over_at (end catalogue s entries) (did.told ++ line_of too_long_text) did.calls (events (actuators catalogue) entries s) (left_behind entries)
    over-run = led catalogue s entries all did
        ∙ over-here catalogue line more (end catalogue s entries) did.told did.calls (events (actuators catalogue) entries s) (left_behind entries) long

    -- more was told
    abbrev pub last : Outside
    last = record new { write_faults = faults; trace = record new.trace { taken = told } }

    -- a line that is too long is told
    pub ran-over : told ≡ new.trace.taken ++ line_of too_long_text → RanScript catalogue s all true entries old last
    ran-over tells = record {
      results = did.results;
      finished = ap (λ r. r.short) over-run;
      over = ap (λ r. r.over) over-run;
      used = ap (λ r. r.results) over-run;
      stopped = ap (λ r. r.stopped) over-run ∙ or-none (is_broken entries);
      text = tells ∙ ap (λ t. t ++ line_of too_long_text) did.text ∙ append_assoc old.trace.taken did.told (line_of too_long_text) ∙ ap (λ r. old.trace.taken ++ r.text) (sym over-run);
      events = ap (λ r. r.events) over-run;
      state = ap (λ r. r.state) over-run;
      answered = did.answered;
      devices = λ whole. let done = did.devices whole in (done.0, done.1 ∙ ap (λ r. dealt (actuators catalogue) r.calls old.trace.calls) (sym over-run));
      in_time = reads;
    }

    -- or told in part
    pub broke-over : TakesFront new.trace.taken told (line_of too_long_text) → BrokeScript catalogue s all entries old last
    broke-over takes = record {
      results = did.results;
      told = did.told ++ takes.0;
      calls = did.calls;
      front = subst (λ r. IsFrontOf (did.told ++ takes.0) r.text) (sym over-run) (front-under did.told takes.0 (line_of too_long_text) (takes.1, takes.2));
      first = subst (λ r. IsFrontOf did.calls r.calls) (sym over-run) (front-whole did.calls);
      earliest = subst (λ r. IsFrontOf (events (actuators catalogue) entries s) r.events) (sym over-run) (front-whole (events (actuators catalogue) entries s));
      text = takes.3 ∙ ap (λ t. t ++ takes.0) did.text ∙ append_assoc old.trace.taken did.told takes.0;
      answered = did.answered;
      devices = did.devices;
      in_time = reads;
    }
