-- One step more in a call.
use Rattle.std.proofs.Common.{◌≡◌, true, false, ◌||◌, ℕ, zero, suc, ◌+◌, ◌*◌, ◌<◌, ◌≤◌, List, [], ◌∷◌, ◌++◌, length, get_or, take, Option, Some, None, is_none, refl, sym, ap, ◌∙◌, subst, arith, length-append}
use Rattle.std.specs.List.{AllByRecursion}
use Rattle.std.proofs.lemmas.Grind.{flat_map-append}
use Rattle.def_bytes.specs.Batches.{batch_text}
use Rattle.def_bytes.specs.Events.{event}
use Rattle.def_history.specs.declared.entry.Entry.{Entry}
use Rattle.def_history.specs.declared.entry.Entry.TheVariants.{Did}
use Rattle.def_history.specs.History.{events, if_event, run, MayCall}
use Rattle.def_history.specs.Made.{done_by, is_growing}
use Rattle.def_history.proofs.Going.{run_append, events_append, broken_append, legal_append}
use Rattle.law_spelling.proofs.OfEvents.{event-fits}
use Rattle.law_machine.proofs.Replay.{step-again, step-unchanged}
use Rattle.boss_model.specs.declared.answer.Answer.{Answer}
use Rattle.boss_model.specs.declared.command.Command.{Command}
use Rattle.boss_model.specs.declared.command.Command.TheVariants as command
use Rattle.boss_model.specs.declared.event.Effect.{Effect}
use Rattle.boss_model.specs.declared.event.Event.{Event}
use Rattle.boss_model.specs.declared.state.Actuator.{Actuator}
use Rattle.boss_model.specs.Effects.{event_of, step_effect}
use Rattle.boss_model.specs.Machine.{step}
use Rattle.boss_model.specs.Plants.{IsPlant}
use Rattle.boss_model.specs.Processes.{process_named}
use Rattle.boss_model.specs.Run.{replay_all}
use Rattle.boss_model.specs.Sound.{IsSound}
use Rattle.boss_model.specs.State.{State}
use Rattle.def_disk_pair.proofs.Replays.{some-is, replay_join, all_join}
use Rattle.boss_shared.specs.Calls.{is_growing_at}
use Rattle.law_spelling.proofs.Events.{step-spelled}
use Rattle.boss_engine.specs.Ready.{MayNeedMemory, MayTakeOn}
use Rattle.boss_durable.specs.declared.batch.Batch.{Batch}
use Rattle.boss_durable.specs.Begun.{may_want, WantNone}
use Rattle.boss_durable.specs.Taken.{Taken}
use Rattle.boss_durable.proofs.Events.{no_event, one_at_most, each_fits, leads_there, events_short, no_bytes}

pub nothing_taken : (plant : List Actuator) (s : State) (batch : Batch) → batch.bytes.bytes ≡ [] → batch.events ≡ 0 → Taken plant [] s s batch
nothing_taken plant s batch none empty = record { whole = refl; legal = tt; state_is = refl; text = none; many = empty; few = omega arith; fitting = tt; leads = refl }

-- the event of a step that may be made has a spelling
pub step_fits : (plant : List Actuator) (s : State) (session moment : ℕ) (c : Command) (e : Event) → IsPlant plant → IsSound plant s →
    MayCall plant (c, moment) → event_of c (step_effect plant session c moment s) ≡ Some e → event.fits e ≡ true
step_fits plant s session moment c e whole sound may is =
    event-fits e (step-spelled plant s session c moment e whole sound may.0 (omega (arith, may.1)) is)

pub step_taken : (plant : List Actuator) (session moment : ℕ) (c : Command) (answer : Answer) (made : List Entry) (start now next : State) (old new : Batch) →
    IsPlant plant → IsSound plant now → MayCall plant (c, moment) → Taken plant made start now old →
    answer ≡ (step plant session c moment now).answer → next ≡ (step plant session c moment now).state →
    new.bytes.bytes ≡ old.bytes.bytes ++ batch_text (if_event (event_of c (step_effect plant session c moment now)) []) →
    new.events ≡ old.events + length (if_event (event_of c (step_effect plant session c moment now)) []) →
    Taken plant (made ++ Did session c moment answer ∷ []) start next new
step_taken plant session moment c answer made start now next old new whole sound may taken given state bytes count =
    let one : List Entry = Did session c moment answer ∷ [] in
    let found = event_of c (step_effect plant session c moment now) in
    let more : List Event = if_event found [] in
    let before : List Event = events plant made start in
    let is : events plant (made ++ one) start ≡ before ++ more =
    events_append plant made one start
    ∙ ap (λ s. before ++ if_event (event_of c (step_effect plant session c moment s)) []) (sym taken.state_is) in
    let at : now ≡ run plant made start = taken.state_is in
    let here : answer ≡ (step plant session c moment (run plant made start)).answer = given ∙ ap (λ s. (step plant session c moment s).answer) at in
    let fits : AllByRecursion (λ e. event.fits e ≡ true) more = each_fits found (λ e is. step_fits plant now session moment c e whole sound may is) in
    let leads : replay_all plant now.persistent more ≡ Some next.persistent =
    leads_there plant now.persistent next.persistent found
    (λ none. ap (λ s. s.persistent) state ∙ step-unchanged plant now session c moment (no_event c (step_effect plant session c moment now) none))
    (λ e is. step-again plant now session c moment e sound may.0 may.1 is ∙ ap (λ s. Some s.persistent) (sym state)) in
    record {
      whole = broken_append made one ∙ ap (λ b. b || false) taken.whole;
      legal = legal_append plant made one start taken.whole taken.legal ((may, here), tt, tt);
      state_is = state ∙ ap (λ s. (step plant session c moment s).state) at ∙ sym (run_append plant made one start);
      text = bytes ∙ ap (λ bs. bs ++ batch_text more) taken.text ∙ sym (flat_map-append event.text before more) ∙ ap batch_text (sym is);
      many = omega (arith, count, taken.many, length-append before more, ap length is);
      few = omega (arith, taken.few, one_at_most found, length-append before more, ap length is, length-append made one);
      fitting = subst (AllByRecursion (λ e. event.fits e ≡ true)) (sym is) (all_join (λ e. event.fits e ≡ true) before more taken.fitting fits);
      leads = ap (replay_all plant start.persistent) is ∙ replay_join plant start.persistent before more now.persistent taken.leads ∙ leads;
    }

-- the first step of a call
pub first_taken : (plant : List Actuator) (session moment : ℕ) (c : Command) (answer : Answer) (effect : Effect) (now next : State) (old new : Batch) →
    IsPlant plant → IsSound plant now → MayCall plant (c, moment) → old.bytes.bytes ≡ [] → old.events ≡ 0 →
    answer ≡ (step plant session c moment now).answer → next ≡ (step plant session c moment now).state → effect ≡ step_effect plant session c moment now →
    new.bytes ≡ record old.bytes { bytes = old.bytes.bytes ++ batch_text (if_event (event_of c effect) []) } →
    new.events ≡ old.events + length (if_event (event_of c effect) []) →
    Taken plant (Did session c moment answer ∷ []) now next new
first_taken plant session moment c answer effect now next old new whole sound may none empty given state does bytes count =
    step_taken plant session moment c answer [] now now next old new whole sound may (nothing_taken plant now old none empty) given state
    (ap (λ b. b.bytes) bytes ∙ ap (λ e. old.bytes.bytes ++ batch_text (if_event (event_of c e) [])) does)
    (count ∙ ap (λ e. old.events + length (if_event (event_of c e) [])) does)

-- how many bytes they have
pub taken_short : (plant : List Actuator) (made : List Entry) (start now : State) (batch : Batch) → Taken plant made start now batch →
    length batch.bytes.bytes ≤ 3669 * length made
taken_short plant made start now batch taken =
    omega (arith, ap length taken.text, events_short (events plant made start) taken.fitting, taken.few)

-- what sixteen commands add to the log
pub short_log : (after before bytes : ℕ) → after ≤ before + bytes + 13 → bytes ≤ 58704 → after ≤ before + 65536
short_log after before bytes added short = omega arith

pub taken_few : (plant : List Actuator) (made : List Entry) (start now : State) (batch : Batch) → Taken plant made start now batch → batch.events ≤ length made
taken_few plant made start now batch taken = omega (arith, taken.many, taken.few)

-- ---- several commands

pub done_none : (session : ℕ) (calls : List (Command × ℕ)) → done_by session calls [] ≡ []
done_none session [] = refl
done_none session (call ∷ calls) = refl

pub done_few : (session : ℕ) (calls : List (Command × ℕ)) (answers : List Answer) → length (done_by session calls answers) ≤ length answers
done_few session [] answers = omega arith
done_few session (call ∷ calls) [] = omega arith
done_few session (call ∷ calls) (answer ∷ answers) = omega (arith, done_few session calls answers)

pub done_more : (session : ℕ) (calls : List (Command × ℕ)) (answers : List Answer) (call : Command × ℕ) (answer : Answer) → length answers < length calls →
    call ≡ get_or calls (length answers) call →
    done_by session calls (answers ++ answer ∷ []) ≡ done_by session calls answers ++ Did session call.0 call.1 answer ∷ []
done_more session [] answers call answer less is = absurd (omega arith)
done_more session (first ∷ calls) [] call answer less is =
    let end : done_by session calls [] ≡ [] = done_none session calls in
    (λ i. Did session first.0 first.1 answer ∷ end i) ∙ ap (λ (c : Command × ℕ). Did session c.0 c.1 answer ∷ []) (sym is)
done_more session (first ∷ calls) (given ∷ answers) call answer less is =
    ap (λ es. Did session first.0 first.1 given ∷ es) (done_more session calls answers call answer (omega arith) is)

pub may_at : (P : Command × ℕ → Type 0) (calls : List (Command × ℕ)) (i : ℕ) (call : Command × ℕ) → AllByRecursion P calls → i < length calls →
    call ≡ get_or calls i call → P call
may_at P [] i call all less is = absurd (omega arith)
may_at P (first ∷ calls) zero call all less is = subst P (sym is) all.0
may_at P (first ∷ calls) (suc i) call all less is = may_at P calls i call all.1 (omega arith) is

pub none_more : (s : State) (calls : List (Command × ℕ)) (n : ℕ) (call : Command × ℕ) → n < length calls → call ≡ get_or calls n call → may_want s call.0 ≡ false →
    WantNone s (take n calls) → WantNone s (take (suc n) calls)
none_more s [] n call less is not none = absurd (omega arith)
none_more s (first ∷ calls) zero call less is not none = (subst (λ (c : Command × ℕ). may_want s c.0 ≡ false) is not, tt)
none_more s (first ∷ calls) (suc n) call less is not none = (none.0, none_more s calls n call (omega arith) is not none.1)

taken_on : (found : Option ℕ) → MayTakeOn found → is_none found ≡ true
taken_on None may = refl
taken_on (Some process) may = absurd may

-- what may need memory in a state may want it
pub wanting_needs : (plant : List Actuator) (session : ℕ) (asked : Command) (s : State) → MayNeedMemory plant session asked s → may_want s asked ≡ true
wanting_needs plant session (command.Attach name) s needs = taken_on (process_named s.persistent.processes name) needs.1
wanting_needs plant session (command.Submit writes policy seq) s needs = refl
wanting_needs plant session (command.Notices name from most) s needs = refl
wanting_needs plant session other s needs = absurd needs

pub want_grows : (s : State) (asked : Command) → may_want s asked ≡ true → is_growing asked ≡ true
want_grows s (command.Attach name) wants = refl
want_grows s (command.Submit writes policy seq) wants = refl
want_grows s (command.Notices name from most) wants = refl
want_grows s other wants = absurd cc

pub growing_at : (calls : List (Command × ℕ)) (i : ℕ) (call : Command × ℕ) → i < length calls → call ≡ get_or calls i call → is_growing call.0 ≡ true →
    is_growing_at calls i ≡ true
growing_at [] i call less is grows = absurd (omega arith)
growing_at (first ∷ calls) zero call less is grows = subst (λ (c : Command × ℕ). is_growing c.0 ≡ true) is grows
growing_at (first ∷ calls) (suc i) call less is grows = growing_at calls i call (omega arith) is grows

-- where the batch has no bytes, what lasts is as before
pub taken_nothing : (plant : List Actuator) (made : List Entry) (start now : State) (batch : Batch) → Taken plant made start now batch → batch.bytes.bytes ≡ [] →
    (events plant made start ≡ []) × (start.persistent ≡ now.persistent)
taken_nothing plant made start now batch taken none =
    let nil : events plant made start ≡ [] = no_bytes (events plant made start) taken.fitting (sym taken.text ∙ none) in
    (nil, some-is start.persistent now.persistent (sym (ap (replay_all plant start.persistent) nil) ∙ taken.leads))
