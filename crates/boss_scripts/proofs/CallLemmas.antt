-- A command that a keeper was asked, told as a script tells it.
use Rattle.std.proofs.Common.{◌≡◌, ℕ, ℤ, ◌+◌, ◌^◌, ◌<◌, ◌≤◌, Bool, true, false, ◌||◌, Option, List, [], ◌∷◌, ◌++◌, Some, None, if◌then◌else◌, length, refl, sym, ap, ◌∙◌, subst, append-nil, arith}
use Rattle.boss_model.specs.declared.answer.Answer.{Answer}
use Rattle.boss_model.specs.declared.answer.Answer.TheVariants as answer
use Rattle.boss_model.specs.declared.command.Command.{Command}
use Rattle.boss_model.specs.declared.command.Command.TheVariants as command
use Rattle.boss_model.specs.declared.state.Actuator.{Actuator}
use Rattle.boss_model.specs.Catalogue.{Catalogue, actuators, driver_of}
use Rattle.boss_model.specs.Devices.{wanting}
use Rattle.boss_model.specs.Machine.{step}
use Rattle.boss_model.specs.Sound.{IsSound}
use Rattle.boss_model.specs.State.{State}
use Rattle.def_wire.specs.Script.{answered}
use Rattle.def_wire.specs.Texts.{answer_text, device_text, line_of, stopped_text}
use Rattle.def_history.specs.declared.entry.Entry.TheVariants as entry
use Rattle.def_history.specs.declared.outcome.Outcome.{Outcome}
use Rattle.def_history.specs.declared.outcome.Outcome.TheVariants.{Done, Stopped, DiskFault, NoMemory, Denied}
use Rattle.def_history.specs.History.{IsLegal}
use Rattle.def_history.specs.Made.{is_growing, made_by}
use Rattle.law_machine.proofs.Weighing.{report-lighter}
use Rattle.law_machine.specs.Draining.{weight}
use Rattle.boss_outside.specs.Streams.{TakesFront}
use Rattle.boss_shared.specs.Calls.{is_stopped, MayWant}
use Rattle.boss_shared.specs.Gates.{denial_of}
use Rattle.boss_shared.specs.declared.keeper.Keeper as keeper
use Rattle.boss_scripts.specs.Keepers.{BrokeOff, IsAt, Kept, Went}
use Rattle.boss_scripts.specs.Outside.{Answered, Trace}
use Rattle.boss_scripts.specs.Runs.{gained, served, stop, Under}
use Rattle.boss_scripts.proofs.Going.{broke-off-running, went-running}
use Rattle.boss_scripts.proofs.Keeping.{kept-nothing}
use Rattle.boss_scripts.proofs.LineLemmas.{broke-answer, broke-halt, did-answer, did-halt}
use Rattle.boss_scripts.proofs.RunLemmas.{did-tell}
use Rattle.boss_scripts.proofs.ServeLemmas.{broke-ask, did-ask, did-drained, reported-leads, reporting, unasked-leads, unreported-leads}

-- what was answered is what the machine answers
pub answer-is : (plant acts : List Actuator) (session : ℕ) (asked : Command) (moment : ℕ) (given : Answer) (s : State) → plant ≡ acts →
    IsLegal plant (entry.Did session asked moment given ∷ []) s → given ≡ (step acts session asked moment s).answer
answer-is plant acts session asked moment given s same legal = legal.0.1 ∙ ap (λ p. (step p session asked moment s).answer) same

module _ {V : Type 0} (v : keeper.Ghosts V) (catalogue : Catalogue) (moment : ℕ) {k : V} (same : v.plant k ≡ actuators catalogue) (off : v.stopped k ≡ false) where
  -- ---- a line's command

  module _ (session : ℕ) (asked : Command) (old : Trace) (taken : List ℕ) where
    module _ (given : Answer) {k' : V} (kept : Kept v k k' (entry.Did session asked moment given ∷ [])) where
      line-is : line_of (answer_text catalogue given) ≡ line_of (answer_text catalogue (step (actuators catalogue) session asked moment (v.state k)).answer)
      line-is = ap (λ a. line_of (answer_text catalogue a)) (answer-is (v.plant k) (actuators catalogue) session asked moment given (v.state k) same kept.legal)

      pub went-answer : {tells : Type 0} → (tells → taken ≡ old.taken ++ line_of (answer_text catalogue given)) →
          Went v (actuators catalogue) (answered catalogue session asked moment) (served catalogue moment) k k' tells old (record old { taken = taken })
      went-answer told = went-running v off kept (λ tell. did-answer catalogue session asked moment (v.state k) old taken given (told tell ∙ ap (λ line. old.taken ++ line) line-is))

      pub broke-off-answer : {tells : Type 0} → (tells → TakesFront old.taken taken (line_of (answer_text catalogue given))) →
          BrokeOff v (actuators catalogue) (answered catalogue session asked moment) k k' tells old (record old { taken = taken })
      broke-off-answer takes = broke-off-running v off kept (λ tell. broke-answer catalogue session asked moment (v.state k) old taken given (subst (TakesFront old.taken taken) line-is (takes tell)))

    module _ {k' : V} (kept : Kept v k k' (entry.Broke session ((asked, moment) ∷ []) [] ∷ [])) {tells : Type 0} where
      pub went-halt : (tells → taken ≡ old.taken ++ line_of stopped_text) →
          Went v (actuators catalogue) (answered catalogue session asked moment) stop k k' tells old (record old { taken = taken })
      went-halt told = went-running v off kept (λ tell. did-halt catalogue session asked moment (v.state k) old taken (told tell))

      pub broke-off-halt : (tells → TakesFront old.taken taken (line_of stopped_text)) →
          BrokeOff v (actuators catalogue) (answered catalogue session asked moment) k k' tells old (record old { taken = taken })
      broke-off-halt takes = broke-off-running v off kept (λ tell. broke-halt catalogue session asked moment (v.state k) old taken (takes tell))

  -- ---- a want

  module _ (driver : ℕ) (wants : wanting (v.plant k) (v.state k) ≡ Some driver) where
    wants-so : wanting (actuators catalogue) (v.state k) ≡ Some driver
    wants-so = subst (λ p. wanting p (v.state k) ≡ Some driver) same wants

    -- the disk fails as the driver is asked
    pub went-unasked : (old : Trace) {k' : V} {tells : Type 0} → Kept v k k' (entry.Broke 0 ((command.Next driver, moment) ∷ []) [] ∷ []) →
        Went v (actuators catalogue) (served catalogue moment) (served catalogue moment) k k' tells old old
    went-unasked old kept = went-running v off kept (λ _. did-tell [] old old.taken (unasked-leads catalogue driver moment (v.state k) wants-so) (sym (append-nil old.taken)))

    module _ (given : Answer) {k' : V} (kept : Kept v k k' (entry.Did 0 (command.Next driver) moment given ∷ [])) (point version : ℕ) (value : ℤ) (is : given ≡ answer.Want point version value) where
      asked-so : (step (actuators catalogue) 0 (command.Next driver) moment (v.state k)).answer ≡ answer.Want point version value
      asked-so = sym (answer-is (v.plant k) (actuators catalogue) 0 (command.Next driver) moment given (v.state k) same kept.legal) ∙ is

      module _ (ok : Bool) (old new : Trace) (behind : driver_of (actuators catalogue) point ≡ driver) (within : driver < length old.calls) (took : Answered (ok ∷ []) old.faults new.faults)
          (gain : new.whole → old.whole × (new.calls ≡ gained driver (record { point = point; value = value; ok = ok }) old.calls)) {tells : Type 0} where
        pub went-ask : (tells → new.taken ≡ old.taken ++ line_of (device_text catalogue point value ok)) →
            Went v (actuators catalogue) (served catalogue moment) (reporting catalogue moment point version ok) k k' tells old new
        went-ask told = went-running v off kept (λ tell. did-ask catalogue driver moment (v.state k) wants-so point version value ok asked-so old new behind within took gain given (told tell))

        pub broke-off-ask : (tells → TakesFront old.taken new.taken (line_of (device_text catalogue point value ok))) →
            BrokeOff v (actuators catalogue) (served catalogue moment) k k' tells old new
        broke-off-ask takes = broke-off-running v off kept (λ tell. broke-ask catalogue driver moment (v.state k) wants-so point version value ok asked-so old new behind within took gain given (takes tell))

  -- the report, at which the disk may fail
  pub went-report : (point version : ℕ) (ok : Bool) (old : Trace) {k' : V} {tells : Type 0} (outcome : Outcome) → is_stopped outcome ≡ v.stopped k →
      MayWant (command.Report point version ok) outcome → denial_of outcome ≡ None → Kept v k k' (made_by 0 (command.Report point version ok) moment outcome) →
      Went v (actuators catalogue) (reporting catalogue moment point version ok) (served catalogue moment) k k' tells old old
  went-report point version ok old (Done noted) stops memory undenied kept =
      went-running v off kept (λ _. did-tell [] old old.taken (reported-leads catalogue moment point version ok (v.state k) noted) (sym (append-nil old.taken)))
  went-report point version ok old DiskFault stops memory undenied kept =
      went-running v off kept (λ _. did-tell [] old old.taken (unreported-leads catalogue moment point version ok (v.state k)) (sym (append-nil old.taken)))
  went-report point version ok old Stopped stops memory undenied kept = let clash : true ≡ false = stops ∙ off in absurd cc
  went-report point version ok old NoMemory stops memory undenied kept = absurd cc
  went-report point version ok old (Denied index rule) stops memory undenied kept = absurd cc

-- the disk did not fail in a command that was done
pub still-running : {V : Type 0} (v : keeper.Ghosts V) (session : ℕ) (asked : Command) (moment : ℕ) (given : Answer) {k k' : V} → v.stopped k ≡ false →
    Kept v k k' (entry.Did session asked moment given ∷ []) → v.stopped k' ≡ false
still-running v session asked moment given off kept = kept.marked ∙ ap (λ b. b || false) off

-- what a report leaves as long as the disk has not failed
reported-state : {V : Type 0} (v : keeper.Ghosts V) (moment : ℕ) (asked : Command) (k k' : V) (outcome : Outcome) → v.stopped k ≡ false → is_stopped outcome ≡ v.stopped k →
    is_growing asked ≡ false → MayWant asked outcome → denial_of outcome ≡ None → Kept v k k' (made_by 0 asked moment outcome) → v.stopped k' ≡ false → v.state k' ≡ (step (v.plant k) 0 asked moment (v.state k)).state
reported-state v moment asked k k' (Done noted) off stops grows memory undenied kept running = kept.state_is running
reported-state v moment asked k k' DiskFault off stops grows memory undenied kept running =
    let clash : false ≡ true = sym running ∙ kept.marked ∙ ap (λ b. b || true) off in absurd cc
reported-state v moment asked k k' Stopped off stops grows memory undenied kept running = let clash : true ≡ false = stops ∙ off in absurd cc
reported-state v moment asked k k' NoMemory off stops grows memory undenied kept running = let clash : true ≡ false = sym memory ∙ grows in absurd cc
reported-state v moment asked k k' (Denied index rule) off stops grows memory undenied kept running = absurd cc

module _ {V : Type 0} (v : keeper.Ghosts V) (moment driver point version : ℕ) (value : ℤ) (ok : Bool) {k k' k'' : V} (off : v.stopped k ≡ false) (small : moment ≤ 2 ^ 60)
    (sound : IsSound (v.plant k) (v.state k)) (wants : wanting (v.plant k) (v.state k) ≡ Some driver) {given : Answer} (one : Kept v k k' (entry.Did 0 (command.Next driver) moment given ∷ []))
    (is : given ≡ answer.Want point version value) where
  -- a want that was served leaves less to do
  pub want-lighter : (outcome : Outcome) → is_stopped outcome ≡ v.stopped k' → MayWant (command.Report point version ok) outcome → denial_of outcome ≡ None →
      Kept v k' k'' (made_by 0 (command.Report point version ok) moment outcome) → v.stopped k'' ≡ false →
      weight (v.plant k'') moment (v.state k'') < weight (v.plant k) moment (v.state k)
  want-lighter outcome stops memory undenied two running =
      let goes : v.stopped k' ≡ false = still-running v 0 (command.Next driver) moment given off one in
      let d : v.state k' ≡ (step (v.plant k) 0 (command.Next driver) moment (v.state k)).state = one.state_is goes in
      let p : v.plant k' ≡ v.plant k = one.same_plant in
      let after : v.state k'' ≡ (step (v.plant k) 0 (command.Report point version ok) moment (step (v.plant k) 0 (command.Next driver) moment (v.state k)).state).state =
      reported-state v moment (command.Report point version ok) k' k'' outcome goes stops refl memory undenied two running
      ∙ (λ i. (step (p i) 0 (command.Report point version ok) moment (d i)).state) in
      subst (λ pl. weight pl moment (v.state k'') < weight (v.plant k) moment (v.state k)) (sym (two.same_plant ∙ p))
      (subst (λ t. weight (v.plant k) moment t < weight (v.plant k) moment (v.state k)) (sym after)
      (report-lighter (v.plant k) moment (v.state k) driver point version value ok small sound wants (sym one.legal.0.1 ∙ is)).1)

-- ---- until no want is left

-- a driver is served while the disk has not failed
pub goes-on : (b : Bool) (found : Option ℕ) (driver : ℕ) → (if b then None else found) ≡ Some driver → (b ≡ false) × (found ≡ Some driver)
goes-on true found driver is = absurd cc
goes-on false found driver is = (refl, is)

-- a turn leaves less to do, or nothing
pub lessens : (b b' : Bool) (w w' : ℕ) → b ≡ false → (b' ≡ false → w' < w) → (if b' then 0 else w' + 1) < (if b then 0 else w + 1)
lessens true b' w w' off less = absurd cc
lessens false true w w' off less = omega arith
lessens false false w w' off less = let fewer : w' < w = less refl in omega arith

module _ {V : Type 0} (v : keeper.Ghosts V) (catalogue : Catalogue) (moment : ℕ) (k : V) (same : v.plant k ≡ actuators catalogue) (old : Trace)
    (none : (if v.stopped k then None else wanting (v.plant k) (v.state k)) ≡ None) where
  nothing-wanted : (start : Under) → IsAt v k start → (if start.stopped then None else wanting (actuators catalogue) start.state) ≡ None
  nothing-wanted start is = by start.stopped refl
    where
      by : (b : Bool) → start.stopped ≡ b → (if b then None else wanting (actuators catalogue) start.state) ≡ None
      by true on = refl
      by false off =
          let d : v.state k ≡ start.state = is.state off in
          (λ i. wanting (sym same i) (sym d i)) ∙ ap (λ b. if b then None else wanting (v.plant k) (v.state k)) (sym (is.stopped ∙ off)) ∙ none

  pub went-drained : {tells : Type 0} → Went v (actuators catalogue) (served catalogue moment) stop k k tells old old
  went-drained = record { entries = []; kept = kept-nothing v k; did = λ _ start is. did-drained catalogue moment start old (nothing-wanted start is) }
