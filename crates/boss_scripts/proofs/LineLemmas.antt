-- A line taken, and lines taken, as parts of a script.
use Rattle.std.proofs.Common.{◌≡◌, ℕ, Bool, true, false, List, [], ◌∷◌, ◌++◌, Option, refl, ap₂, sym, subst, ◌∙◌, append-nil, arith, length, ◌<◌, ◌≤◌}
use Rattle.std.proofs.lemmas.Bool.Decides.{nat_tests}
use Rattle.boss_model.specs.declared.answer.Answer.{Answer}
use Rattle.boss_model.specs.declared.answer.Refusal.{Refusal}
use Rattle.boss_model.specs.declared.command.Command.{Command}
use Rattle.def_wire.specs.declared.form.Form.TheVariants as form
use Rattle.boss_model.specs.declared.event.Event.{Event}
use Rattle.boss_model.specs.DeviceCall.{DeviceCall}
use Rattle.boss_model.specs.Catalogue.{Catalogue, actuators}
use Rattle.boss_model.specs.Effects.{event_of, step_effect}
use Rattle.boss_model.specs.Lines.{is_blank}
use Rattle.boss_model.specs.Machine.{step}
use Rattle.def_wire.specs.declared.request.Ask.TheVariants as ask
use Rattle.def_wire.specs.declared.request.Request.{Request}
use Rattle.def_wire.specs.Requests.{Parsed, asks, wrong, parsed}
use Rattle.def_wire.specs.Script.{Run, drain, is_too_long, answered, say, taken_up, replied, line_read}
use Rattle.boss_model.specs.State.{State}
use Rattle.def_wire.specs.Texts.{answer_text, line_of, refusal_text, stopped_text}
use Rattle.def_history.specs.declared.entry.Entry.{Entry}
use Rattle.def_history.specs.declared.entry.Entry.TheVariants as entry
use Rattle.boss_outside.specs.Streams.{TakesFront}
use Rattle.boss_shared.specs.declared.keeper.Keeper as keeper
use Rattle.boss_scripts.specs.Keepers.{Breaks, Kept, Through}
use Rattle.boss_scripts.specs.Outside.{Trace}
use Rattle.boss_scripts.specs.Runs.{at, Did, Broke, Leads, line_taken, lines_taken, served, stop, Under}
use Rattle.boss_scripts.proofs.Fronts.{served-covers, lines-cover, stays}
use Rattle.boss_scripts.proofs.Going.{breaks-then, through-then}
use Rattle.boss_scripts.proofs.RunLemmas.{broke-tell, broke-same, broke-under, did-tell, did-nothing, did-same, did-under}
use Rattle.boss_scripts.proofs.StepLemmas.{one-event, step-halts, step-made}

-- ---- a command

module _ (catalogue : Catalogue) (session : ℕ) (command : Command) (moment : ℕ) (s : State) where
  abbrev answering : List ℕ
  answering = line_of (answer_text catalogue (step (actuators catalogue) session command moment s).answer)

  abbrev begun : Under
  begun = record { state = s; stopped = false }

  abbrev mark : List Entry
  mark = entry.Broke session ((command, moment) ∷ []) [] ∷ []

  answered-leads : (given : Answer) →
      Leads (answered catalogue session command moment) (served catalogue moment) (actuators catalogue) begun (entry.Did session command moment given ∷ []) answering [] []
  answered-leads given more text earlier before left ends =
      let after = step (actuators catalogue) session command moment s in
      step-made catalogue session command moment (λ told later. drain catalogue moment later.results (say (answer_text catalogue told) later)) (say stopped_text) begun text earlier before more left
      ∙ ap₂ (λ cs es. served catalogue moment (at (record { state = after.state; stopped = false }) (text ++ answering) cs es more left)) (sym (append-nil earlier))
      (one-event before (event_of command (step_effect (actuators catalogue) session command moment s)))

  -- the step is not made
  halted-leads : Leads (answered catalogue session command moment) stop (actuators catalogue) begun mark (line_of stopped_text) [] []
  halted-leads more text earlier before left ends =
      step-halts catalogue session command moment (λ told later. drain catalogue moment later.results (say (answer_text catalogue told) later)) (say stopped_text) begun text earlier before more left (ends refl)
      ∙ ap₂ (λ cs es. at (record { state = s; stopped = true }) (text ++ line_of stopped_text) cs es more left) (sym (append-nil earlier)) (sym (append-nil before))

  module _ (old : Trace) (taken : List ℕ) where
    -- the answer is told, and then the wants that it leaves are served
    pub did-answer : (given : Answer) → taken ≡ old.taken ++ answering →
        Did (actuators catalogue) (answered catalogue session command moment) (served catalogue moment) begun (entry.Did session command moment given ∷ []) old (record old { taken = taken })
    did-answer given told = did-tell answering old taken (answered-leads given) told

    pub broke-answer : (given : Answer) → TakesFront old.taken taken answering →
        Broke (actuators catalogue) (answered catalogue session command moment) begun (entry.Did session command moment given ∷ []) old (record old { taken = taken })
    broke-answer given takes = broke-tell (served catalogue moment) answering old taken (answered-leads given) (served-covers catalogue moment) takes

    -- the stop is told
    pub did-halt : taken ≡ old.taken ++ line_of stopped_text →
        Did (actuators catalogue) (answered catalogue session command moment) stop begun mark old (record old { taken = taken })
    did-halt told = did-tell (line_of stopped_text) old taken halted-leads told

    pub broke-halt : TakesFront old.taken taken (line_of stopped_text) →
        Broke (actuators catalogue) (answered catalogue session command moment) begun mark old (record old { taken = taken })
    broke-halt takes = broke-tell stop (line_of stopped_text) old taken halted-leads stays takes

-- ---- a line

pub not-long : (line : List ℕ) → length line ≤ 65535 → is_too_long line ≡ false
not-long line short = grind (arith, nat_tests)

pub is-long : (line : List ℕ) → 65535 < length line → is_too_long line ≡ true
is-long line past = grind (arith, nat_tests)

module _ (catalogue : Catalogue) (line : List ℕ) (short : is_too_long line ≡ false) (u : Under) where
  -- a blank line does nothing
  pub blank-same : is_blank line ≡ true → (text : List ℕ) (earlier : List DeviceCall) (before : List Event) (results : List Bool) (left : Option ℕ) →
      line_taken catalogue line (at u text earlier before results left) ≡ stop (at u text earlier before results left)
  blank-same blank text earlier before results left = rw (short, blank) refl

  -- any other is told that the script has stopped
  stopped-same : is_blank line ≡ false → u.stopped ≡ true → (text : List ℕ) (earlier : List DeviceCall) (before : List Event) (results : List Bool) (left : Option ℕ) →
      line_taken catalogue line (at u text earlier before results left) ≡ say stopped_text (at u text earlier before results left)
  stopped-same full on text earlier before results left = rw (short, full, on) refl

  -- or it is replied to
  replied-same : is_blank line ≡ false → u.stopped ≡ false → (read : Parsed Request) → parsed catalogue form.Script line ≡ read →
      (text : List ℕ) (earlier : List DeviceCall) (before : List Event) (results : List Bool) (left : Option ℕ) →
      line_taken catalogue line (at u text earlier before results left) ≡ replied catalogue read (at u text earlier before results left)
  replied-same full off read is text earlier before results left = rw (short, full, off, is) refl

  pub did-blank : is_blank line ≡ true → (old : Trace) → Did (actuators catalogue) (line_taken catalogue line) stop u [] old old
  did-blank blank old = did-same (line_taken catalogue line) (blank-same blank) (did-nothing stop u old)

  module _ (full : is_blank line ≡ false) (off : u.stopped ≡ false) (request : Request) (command : Command) (asked : request.ask ≡ ask.Command command)
      (is : parsed catalogue form.Script line ≡ asks request) {entries : List Entry} {old new : Trace} where
    pub broke-request : Broke (actuators catalogue) (answered catalogue request.on command request.at) u entries old new →
        Broke (actuators catalogue) (line_taken catalogue line) u entries old new
    broke-request broke = broke-same (line_taken catalogue line) (replied-same full off (asks request) is)
        (subst (λ a. Broke (actuators catalogue) (taken_up catalogue request.on a request.at) u entries old new) (sym asked) broke)

    pub did-request : Did (actuators catalogue) (answered catalogue request.on command request.at) stop u entries old new →
        Did (actuators catalogue) (line_taken catalogue line) stop u entries old new
    did-request did = did-same (line_taken catalogue line) (replied-same full off (asks request) is)
        (subst (λ a. Did (actuators catalogue) (taken_up catalogue request.on a request.at) stop u entries old new) (sym asked) did)

  -- one line of text is told
  telling-leads : (told : List ℕ) → ((text : List ℕ) (earlier : List DeviceCall) (before : List Event) (results : List Bool) (left : Option ℕ) →
      line_taken catalogue line (at u text earlier before results left) ≡ say told (at u text earlier before results left)) →
      Leads (line_taken catalogue line) stop (actuators catalogue) u [] (line_of told) [] []
  telling-leads told same more text earlier before left ends = same text earlier before more left
      ∙ ap₂ (λ cs es. at u (text ++ line_of told) cs es more left) (sym (append-nil earlier)) (sym (append-nil before))

  module _ (full : is_blank line ≡ false) (old : Trace) (taken : List ℕ) where
    -- a refusal
    module _ (off : u.stopped ≡ false) (why : Refusal) (is : parsed catalogue form.Script line ≡ wrong why) where
      pub did-refusal : taken ≡ old.taken ++ line_of (refusal_text why) → Did (actuators catalogue) (line_taken catalogue line) stop u [] old (record old { taken = taken })
      did-refusal told = did-tell (line_of (refusal_text why)) old taken (telling-leads (refusal_text why) (replied-same full off (wrong why) is)) told

      pub broke-refusal : TakesFront old.taken taken (line_of (refusal_text why)) → Broke (actuators catalogue) (line_taken catalogue line) u [] old (record old { taken = taken })
      broke-refusal takes = broke-tell stop (line_of (refusal_text why)) old taken (telling-leads (refusal_text why) (replied-same full off (wrong why) is)) stays takes

    -- a line after the stop
    module _ (on : u.stopped ≡ true) where
      pub did-stopped : taken ≡ old.taken ++ line_of stopped_text → Did (actuators catalogue) (line_taken catalogue line) stop u [] old (record old { taken = taken })
      did-stopped told = did-tell (line_of stopped_text) old taken (telling-leads stopped_text (stopped-same full on)) told

      pub broke-stopped : TakesFront old.taken taken (line_of stopped_text) → Broke (actuators catalogue) (line_taken catalogue line) u [] old (record old { taken = taken })
      broke-stopped takes = broke-tell stop (line_of stopped_text) old taken (telling-leads stopped_text (stopped-same full on)) stays takes

-- ---- lines

pub taken-append : (catalogue : Catalogue) (first rest : List (List ℕ)) (run : Run) → lines_taken catalogue (first ++ rest) run ≡ lines_taken catalogue rest (lines_taken catalogue first run)
taken-append catalogue [] rest run = refl
taken-append catalogue (line ∷ first) rest run = taken-append catalogue first rest (line_read catalogue run line)

module _ {V : Type 0} (v : keeper.Ghosts V) (catalogue : Catalogue) (given : List (List ℕ)) {k k' : V} {entries : List Entry} {old mid : Trace} (same : v.plant k ≡ actuators catalogue)
    (kept : Kept v k k' entries) (first : Through v (actuators catalogue) (lines_taken catalogue given) stop k entries old mid) where
  -- lines and then others
  unfoldable pub through-before : (more : List (List ℕ)) → Through v (actuators catalogue) (lines_taken catalogue (given ++ more)) (lines_taken catalogue more) k entries old mid
  through-before more start is =
      did-same (lines_taken catalogue (given ++ more)) (λ text earlier before results left. taken-append catalogue given more (at start text earlier before results left))
      (did-under (lines_taken catalogue more) (first start is))

  module _ (line : List ℕ) {k'' : V} {last : List Entry} {new : Trace} (behind : Kept v k' k'' last) where
    -- one line more
    unfoldable pub through-one-more : Through v (actuators catalogue) (line_taken catalogue line) stop k' last mid new →
        Through v (actuators catalogue) (lines_taken catalogue (given ++ line ∷ [])) stop k (entries ++ last) old new
    through-one-more second = through-then v same kept behind (through-before (line ∷ [])) second

    -- the next line broke off
    unfoldable pub breaks-next : (more : List (List ℕ)) → Breaks v (actuators catalogue) (line_taken catalogue line) k' last mid new →
        Breaks v (actuators catalogue) (lines_taken catalogue (given ++ line ∷ more)) k (entries ++ last) old new
    breaks-next more broke =
        breaks-then v same kept behind (through-before (line ∷ more)) (λ start is. broke-under (lines_taken catalogue more) (lines-cover catalogue more) (broke start is))
