-- Commands done in order, one more at a time, and their events.
use Rattle.std.proofs.Common.{◌≡◌, true, false, ℕ, zero, suc, ◌+◌, ◌<◌, ◌≤◌, List, [], ◌∷◌, ◌++◌, length, min, get_or, refl, sym, ap, ◌∙◌, subst, arith, length-append}
use Rattle.std.specs.List.{AllByRecursion}
use Rattle.boss_model.specs.declared.answer.Answer.{Answer}
use Rattle.boss_model.specs.declared.command.Command.{Command}
use Rattle.boss_model.specs.declared.command.Command.TheVariants as command
use Rattle.boss_model.specs.declared.state.Actuator.{Actuator}
use Rattle.boss_model.specs.Effects.{event_of, step_effect}
use Rattle.boss_model.specs.Limits.{last_number}
use Rattle.boss_model.specs.Machine.{step}
use Rattle.boss_model.specs.State.{State}
use Rattle.def_history.specs.declared.entry.Entry.{Entry}
use Rattle.def_history.specs.declared.entry.Entry.TheVariants.{Did}
use Rattle.def_history.specs.History.{events, if_event, is_broken, run, IsLegal, MayCall}
use Rattle.def_history.specs.Made.{done_by, is_growing}
use Rattle.boss_shared.specs.Calls.{is_growing_at}
use Rattle.boss_engine.specs.Ready.{MayNeedMemory}
use Rattle.def_history.proofs.Going.{events_append, run_append, legal_append}

pub done_none : (session : ℕ) (calls : List (Command × ℕ)) → done_by session calls [] ≡ []
done_none session [] = refl
done_none session (call ∷ calls) = refl

pub done_whole : (session : ℕ) (calls : List (Command × ℕ)) (answers : List Answer) → is_broken (done_by session calls answers) ≡ false
done_whole session [] answers = refl
done_whole session (call ∷ calls) [] = refl
done_whole session (call ∷ calls) (answer ∷ answers) = done_whole session calls answers

done_more : (session : ℕ) (calls : List (Command × ℕ)) (answers : List Answer) (call : Command × ℕ) (answer : Answer) → length answers < length calls →
    call ≡ get_or calls (length answers) call →
    done_by session calls (answers ++ answer ∷ []) ≡ done_by session calls answers ++ Did session call.0 call.1 answer ∷ []
done_more session [] answers call answer less is = absurd (omega arith)
done_more session (first ∷ calls) [] call answer less is =
    let end : done_by session calls [] ≡ [] = done_none session calls in
    (λ i. Did session first.0 first.1 answer ∷ end i) ∙ ap (λ (c : Command × ℕ). Did session c.0 c.1 answer ∷ []) (sym is)
done_more session (first ∷ calls) (given ∷ answers) call answer less is =
    ap (λ es. Did session first.0 first.1 given ∷ es) (done_more session calls answers call answer (omega arith) is)

pub may_at : (P : Command × ℕ → Type 0) (calls : List (Command × ℕ)) (i : ℕ) (call : Command × ℕ) → AllByRecursion P calls → i < length calls →
    call ≡ get_or calls i call → P call
may_at P [] i call all less is = absurd (omega arith)
may_at P (first ∷ calls) zero call all less is = subst P (sym is) all.0
may_at P (first ∷ calls) (suc i) call all less is = may_at P calls i call all.1 (omega arith) is

-- the commands of these answers were done, and the machine is as they left it
pub record HasDone (plant : List Actuator) (session : ℕ) (calls : List (Command × ℕ)) (answers : List Answer) (old new : State) : Type 0 where
  pub legal : IsLegal plant (done_by session calls answers) old
  pub state_is : new ≡ run plant (done_by session calls answers) old

pub done_nothing : (plant : List Actuator) (session : ℕ) (calls : List (Command × ℕ)) (answers : List Answer) (s : State) → answers ≡ [] →
    HasDone plant session calls answers s s
done_nothing plant session calls answers s nil =
    let is : done_by session calls answers ≡ [] = ap (done_by session calls) nil ∙ done_none session calls in
    record { legal = subst (λ es. IsLegal plant es s) (sym is) tt; state_is = ap (λ es. run plant es s) (sym is) }

pub done_next : (plant : List Actuator) (session : ℕ) (calls : List (Command × ℕ)) (answers : List Answer) (old new next : State) (call : Command × ℕ) (answer : Answer) →
    HasDone plant session calls answers old new → length answers < length calls → call ≡ get_or calls (length answers) call → MayCall plant call →
    answer ≡ (step plant session call.0 call.1 new).answer → next ≡ (step plant session call.0 call.1 new).state →
    HasDone plant session calls (answers ++ answer ∷ []) old next
done_next plant session calls answers old new next call answer done less is may given state =
    let one : List Entry = Did session call.0 call.1 answer ∷ [] in
    let so : List Entry = done_by session calls answers in
    let more : done_by session calls (answers ++ answer ∷ []) ≡ so ++ one = done_more session calls answers call answer less is in
    let here : answer ≡ (step plant session call.0 call.1 (run plant so old)).answer = given ∙ ap (λ s. (step plant session call.0 call.1 s).answer) done.state_is in
    let legal : IsLegal plant (so ++ one) old = legal_append plant so one old (done_whole session calls answers) done.legal ((may, here), tt, tt) in
    record {
      legal = subst (λ es. IsLegal plant es old) (sym more) legal;
      state_is = state ∙ ap (λ s. (step plant session call.0 call.1 s).state) done.state_is ∙ sym (run_append plant so one old) ∙ ap (λ es. run plant es old) (sym more);
    }

pub growing_needs : (plant : List Actuator) (session : ℕ) (asked : Command) (s : State) → MayNeedMemory plant session asked s → is_growing asked ≡ true
growing_needs plant session (command.Attach name) s needs = refl
growing_needs plant session (command.Submit writes policy seq) s needs = refl
growing_needs plant session (command.Notices name from most) s needs = refl
growing_needs plant session other s needs = absurd needs

pub growing_at : (calls : List (Command × ℕ)) (i : ℕ) (call : Command × ℕ) → i < length calls → call ≡ get_or calls i call → is_growing call.0 ≡ true →
    is_growing_at calls i ≡ true
growing_at [] i call less is grows = absurd (omega arith)
growing_at (first ∷ calls) zero call less is grows = subst (λ (c : Command × ℕ). is_growing c.0 ≡ true) is grows
growing_at (first ∷ calls) (suc i) call less is grows = growing_at calls i call (omega arith) is grows

-- ---- the events of what was done, of which there were so many before

pub count_nothing : (plant : List Actuator) (session : ℕ) (calls : List (Command × ℕ)) (answers : List Answer) (s : State) (from : ℕ) → answers ≡ [] →
    from ≤ last_number → from ≡ min (from + length (events plant (done_by session calls answers) s)) last_number
count_nothing plant session calls answers s from nil few =
    let none : length (events plant (done_by session calls answers) s) ≡ 0 = ap (λ es. length (events plant es s)) (ap (done_by session calls) nil ∙ done_none session calls) in
    omega arith

pub count_next : (plant : List Actuator) (session : ℕ) (calls : List (Command × ℕ)) (answers : List Answer) (old new : State) (call : Command × ℕ) (answer : Answer) (from before now : ℕ) →
    HasDone plant session calls answers old new → length answers < length calls → call ≡ get_or calls (length answers) call →
    before ≡ min (from + length (events plant (done_by session calls answers) old)) last_number →
    now ≡ min (before + length (if_event (event_of call.0 (step_effect plant session call.0 call.1 new)) [])) last_number →
    now ≡ min (from + length (events plant (done_by session calls (answers ++ answer ∷ [])) old)) last_number
count_next plant session calls answers old new call answer from before now done less is counted next =
    let one : List Entry = Did session call.0 call.1 answer ∷ [] in
    let so : List Entry = done_by session calls answers in
    let more : length (events plant (done_by session calls (answers ++ answer ∷ [])) old) ≡ length (events plant so old) + length (events plant one new) =
    ap (λ es. length (events plant es old)) (done_more session calls answers call answer less is)
    ∙ ap length (events_append plant so one old)
    ∙ length-append (events plant so old) (events plant one (run plant so old))
    ∙ ap (λ s. length (events plant so old) + length (events plant one s)) (sym done.state_is) in
    let last : now ≡ min (before + length (events plant one new)) last_number = next in
    omega arith

-- so many more than the events of a list are those of a longer list
pub count_more : (before many more now whole : ℕ) → before ≡ min many last_number → now ≡ min (before + more) last_number → whole ≡ many + more → now ≡ min whole last_number
count_more before many more now whole had next is = omega arith
