-- One want served, and wants that are all served, as parts of a script.
use Rattle.std.proofs.Common.{◌≡◌, ℕ, zero, suc, ℤ, Bool, List, [], ◌∷◌, ◌++◌, Some, None, refl, ap, ap₂, sym, ◌∙◌, append-nil, true, false, ◌^◌, ◌<◌, ◌≤◌, length, subst, arith, if◌then◌else◌}
use Rattle.std.specs.Option.{option_to_list}
use Rattle.std.proofs.lemmas.List.{length-map}
use Rattle.law_machine.proofs.Weighing.{want-of}
use Rattle.boss_model.specs.declared.answer.Answer.{Answer}
use Rattle.boss_model.specs.declared.answer.Answer.TheVariants as answer
use Rattle.boss_model.specs.declared.command.Command.{Command}
use Rattle.boss_model.specs.declared.command.Command.TheVariants as command
use Rattle.boss_model.specs.declared.state.Actuator.{Actuator}
use Rattle.boss_model.specs.DeviceCall.{DeviceCall}
use Rattle.boss_model.specs.Catalogue.{Catalogue, actuators, driver_of}
use Rattle.boss_model.specs.Devices.{wanting}
use Rattle.boss_model.specs.Effects.{event_of, step_effect}
use Rattle.boss_model.specs.Machine.{step}
use Rattle.def_wire.specs.Script.{Run, cut_short, drain, serve, carry_out, if_wanting, reported, rest}
use Rattle.boss_model.specs.Sound.{IsSound}
use Rattle.boss_model.specs.State.{State}
use Rattle.def_wire.specs.Texts.{device_text, line_of}
use Rattle.def_history.specs.declared.entry.Entry.TheVariants as entry
use Rattle.boss_outside.specs.Streams.{TakesFront}
use Rattle.boss_scripts.specs.Devices.{HasDevices}
use Rattle.boss_scripts.specs.Outside.{Answered, Trace}
use Rattle.boss_scripts.specs.Runs.{at, Did, Broke, Leads, gained, one_step_more, dealt, served, stop, Under}
use Rattle.boss_scripts.proofs.Fronts.{covers-trans, drain-covers, GoesOn, reported-covers}
use Rattle.boss_scripts.proofs.RunLemmas.{broke-told, dealt-one, did-tell, did-told, leads-nothing}
use Rattle.boss_scripts.proofs.StepLemmas.{one-event, step-halts, step-made}

-- a want of a driver names a point of the catalogue that is behind this driver
pub want-there : (catalogue : Catalogue) (driver moment point version : ℕ) (value : ℤ) (plant : List Actuator) (s : State) → plant ≡ actuators catalogue → moment ≤ 2 ^ 60 →
    IsSound plant s → wanting plant s ≡ Some driver → (step plant 0 (command.Next driver) moment s).answer ≡ answer.Want point version value →
    (point < length catalogue.points) × (point < length plant) × (driver_of (actuators catalogue) point ≡ driver)
want-there catalogue driver moment point version value plant s same small sound wants asked =
    let is = want-of plant moment s driver small sound wants in
    let here : is.point ≡ point = point-of (sym is.asks ∙ asked) in
    let known : point < length plant = subst (λ p. p < length plant) here is.known in
    let driven : driver_of plant point ≡ driver = subst (λ p. driver_of plant p ≡ driver) here is.driven in
    (omega (arith, known, ap length same, length-map catalogue.points (λ p. p.actuator)), known, subst (λ pl. driver_of pl point ≡ driver) same driven)
  where
    point-of : {point point' version version' : ℕ} {value value' : ℤ} → answer.Want point version value ≡ answer.Want point' version' value' → point ≡ point'
    point-of e = cc

abbrev begun : State → Under
begun s = record { state = s; stopped = false }

abbrev halted_at : State → Under
halted_at s = record { state = s; stopped = true }

module _ (catalogue : Catalogue) (moment point version : ℕ) (ok : Bool) where
  -- the report of a write, and the wants that are left then
  abbrev pub reporting : Run → Run
  reporting run = drain catalogue moment run.results (reported catalogue moment point version ok run)

  abbrev report : Command
  report = command.Report point version ok

  pub reporting-covers : GoesOn reporting
  reporting-covers run =
      let after = reported catalogue moment point version ok run in
      covers-trans after (reporting run) run.text run.calls run.events (drain-covers catalogue moment run.results after) (reported-covers catalogue moment point version ok run)

  module _ (s : State) where
    pub reported-leads : (noted : Answer) → Leads reporting (served catalogue moment) (actuators catalogue) (begun s) (entry.Did 0 report moment noted ∷ []) [] [] []
    reported-leads noted more text earlier before left ends =
        let done = step (actuators catalogue) 0 report moment s in
        ap (drain catalogue moment more) (step-made catalogue 0 report moment (λ given after. after) rest (begun s) text earlier before more left)
        ∙ ap₂ (λ t cs. drain catalogue moment more (at (begun done.state) t cs (before ++ option_to_list (event_of report (step_effect (actuators catalogue) 0 report moment s))) more left))
        (sym (append-nil text)) (sym (append-nil earlier))
        ∙ ap (λ es. drain catalogue moment more (at (begun done.state) (text ++ []) (earlier ++ []) es more left)) (one-event before (event_of report (step_effect (actuators catalogue) 0 report moment s)))

    -- the report is not made
    pub unreported-leads : Leads reporting (served catalogue moment) (actuators catalogue) (begun s) (entry.Broke 0 ((report, moment) ∷ []) [] ∷ []) [] [] []
    unreported-leads more text earlier before left ends =
        ap (drain catalogue moment more) (step-halts catalogue 0 report moment (λ given after. after) rest (begun s) text earlier before more left (ends refl))
        ∙ ap₂ (λ t cs. drain catalogue moment more (at (halted_at s) t cs before more left)) (sym (append-nil text)) (sym (append-nil earlier))
        ∙ ap (λ es. drain catalogue moment more (at (halted_at s) (text ++ []) (earlier ++ []) es more left)) (sym (append-nil before))

module _ (catalogue : Catalogue) (driver moment : ℕ) (s : State) (wants : wanting (actuators catalogue) s ≡ Some driver) where
  -- the driver is not asked
  pub unasked-leads : Leads (served catalogue moment) (served catalogue moment) (actuators catalogue) (begun s) (entry.Broke 0 ((command.Next driver, moment) ∷ []) [] ∷ []) [] [] []
  unfolding drain
  unasked-leads [] text earlier before left ends =
      let go : Answer → Run → Run = λ given after. cut_short after in
      let here : Run = at (begun s) text earlier before [] left in
      ap (λ found. if_wanting found (λ d. serve catalogue moment go d here) here) wants
      ∙ step-halts catalogue 0 (command.Next driver) moment go rest (begun s) text earlier before [] left (ends refl)
      ∙ leads-nothing stop (actuators catalogue) (halted_at s) [] text earlier before left ends
  unasked-leads (ok ∷ more) text earlier before left ends =
      let go : Answer → Run → Run = λ given after. drain catalogue moment more (carry_out catalogue moment given ok (record after { results = more })) in
      let here : Run = at (begun s) text earlier before (ok ∷ more) left in
      ap (λ found. if_wanting found (λ d. serve catalogue moment go d here) here) wants
      ∙ step-halts catalogue 0 (command.Next driver) moment go rest (begun s) text earlier before (ok ∷ more) left (ends refl)
      ∙ leads-nothing stop (actuators catalogue) (halted_at s) (ok ∷ more) text earlier before left ends

  module _ (point version : ℕ) (value : ℤ) (ok : Bool) (is : (step (actuators catalogue) 0 (command.Next driver) moment s).answer ≡ answer.Want point version value) where
    abbrev line : List ℕ
    line = line_of (device_text catalogue point value ok)

    abbrev call : DeviceCall
    call = record { point = point; value = value; ok = ok }

    -- the driver is asked and its device is written
    pub asked-leads : (given : Answer) →
        Leads (served catalogue moment) (reporting catalogue moment point version ok) (actuators catalogue) (begun s) (entry.Did 0 (command.Next driver) moment given ∷ []) line (call ∷ []) (ok ∷ [])
    unfolding drain
    asked-leads given more text earlier before left ends =
        let asked = (step (actuators catalogue) 0 (command.Next driver) moment s).state in
        let made = event_of (command.Next driver) (step_effect (actuators catalogue) 0 (command.Next driver) moment s) in
        let go : Answer → Run → Run = λ told after. drain catalogue moment more (carry_out catalogue moment told ok (record after { results = more })) in
        let here : Run = at (begun s) text earlier before (ok ∷ more) (one_step_more left) in
        ap (λ found. if_wanting found (λ d. serve catalogue moment go d here) here) wants
        ∙ step-made catalogue 0 (command.Next driver) moment go rest (begun s) text earlier before (ok ∷ more) left
        ∙ ap (λ a. drain catalogue moment more (carry_out catalogue moment a ok (at (begun asked) text earlier (before ++ option_to_list made) more left))) is
        ∙ ap (λ es. drain catalogue moment more (reported catalogue moment point version ok (at (begun asked) (text ++ line) (earlier ++ call ∷ []) es more left))) (one-event before made)

    module _ (old new : Trace) (behind : driver_of (actuators catalogue) point ≡ driver) (within : driver < length old.calls)
        (answered : Answered (ok ∷ []) old.faults new.faults) (gain : new.whole → old.whole × (new.calls ≡ gained driver call old.calls)) (given : Answer) where
      dealing : new.whole → old.whole × (new.calls ≡ dealt (actuators catalogue) (call ∷ []) old.calls)
      dealing all = let one = gain all in (one.0, one.1 ∙ dealt-one (actuators catalogue) driver call old.calls behind within)

      pub did-ask : new.taken ≡ old.taken ++ line →
          Did (actuators catalogue) (served catalogue moment) (reporting catalogue moment point version ok) (begun s) (entry.Did 0 (command.Next driver) moment given ∷ []) old new
      did-ask told = did-told line (call ∷ []) (ok ∷ []) old new (asked-leads given) told answered dealing

      pub broke-ask : TakesFront old.taken new.taken line →
          Broke (actuators catalogue) (served catalogue moment) (begun s) (entry.Did 0 (command.Next driver) moment given ∷ []) old new
      broke-ask takes = broke-told (reporting catalogue moment point version ok) line (call ∷ []) (ok ∷ []) old new (asked-leads given) (reporting-covers catalogue moment point version ok) takes answered dealing

-- where nothing is wanted, or a step was not made, nothing is done
drained-leads : (catalogue : Catalogue) (moment : ℕ) (u : Under) → (if u.stopped then None else wanting (actuators catalogue) u.state) ≡ None →
    Leads (served catalogue moment) stop (actuators catalogue) u [] [] [] []
unfolding drain
drained-leads catalogue moment u none [] text earlier before left ends =
    let here : Run = at u text earlier before [] left in
    ap (λ found. if_wanting found (λ d. serve catalogue moment (λ given after. cut_short after) d here) here) none
    ∙ leads-nothing stop (actuators catalogue) u [] text earlier before left ends
drained-leads catalogue moment u none (ok ∷ more) text earlier before left ends =
    let here : Run = at u text earlier before (ok ∷ more) left in
    ap (λ found. if_wanting found
    (λ d. serve catalogue moment (λ given after. drain catalogue moment more (carry_out catalogue moment given ok (record after { results = more }))) d here) here) none
    ∙ leads-nothing stop (actuators catalogue) u (ok ∷ more) text earlier before left ends

-- then all wants of the moment are served
pub did-drained : (catalogue : Catalogue) (moment : ℕ) (u : Under) (old : Trace) → (if u.stopped then None else wanting (actuators catalogue) u.state) ≡ None →
    Did (actuators catalogue) (served catalogue moment) stop u [] old old
did-drained catalogue moment u old none = did-tell [] old old.taken (drained-leads catalogue moment u none) (sym (append-nil old.taken))

driver-there : (count : ℕ) (plant : List Actuator) → HasDevices count plant → (point : ℕ) → point < length plant → driver_of plant point < count
driver-there count [] all point within = absurd (omega arith)
driver-there count (a ∷ rest) all zero within = all.0
driver-there count (a ∷ rest) all (suc point) within = driver-there count rest all.1 point (omega arith)

-- the driver that is wanting has a device
pub device-there : (count : ℕ) (plant : List Actuator) (moment : ℕ) (s : State) (driver : ℕ) → moment ≤ 2 ^ 60 → HasDevices count plant → IsSound plant s → wanting plant s ≡ Some driver → driver < count
device-there count plant moment s driver small all sound wants =
    let is = want-of plant moment s driver small sound wants in
    subst (λ d. d < count) is.driven (driver-there count plant all is.point is.known)
