-- The commands of several callers done in order, one caller's behind another's.
use Rattle.std.proofs.Common.{◌≡◌, false, ℕ, ◌+◌, ◌≤◌, List, [], ◌∷◌, ◌++◌, length, min, refl, sym, ap, ◌∙◌, subst, arith, append-nil, length-append}
use Rattle.std.specs.List.{AllByRecursion}
use Rattle.boss_model.specs.declared.state.Actuator.{Actuator}
use Rattle.boss_model.specs.Limits.{last_number}
use Rattle.boss_model.specs.State.{State}
use Rattle.def_history.specs.declared.entry.Entry.{Entry}
use Rattle.def_history.specs.History.{events, run, IsLegal}
use Rattle.def_history.specs.Made.{done_by}
use Rattle.def_history.proofs.Going.{events_append, legal_append, run_append}
use Rattle.boss_shared.specs.declared.asked.Asked.{Asked}
use Rattle.boss_shared.specs.Together.{IsReplied}
use Rattle.boss_shared.proofs.Together.{all_more, answered, answered_append, answered_whole, IsFine}
use Rattle.boss_memory_keeper.proofs.Steps.{count_more}

-- these callers' commands were done, and the machine is as they left it
pub record HasServed (plant : List Actuator) (start now : State) (before count : ℕ) (group : List Asked) : Type 0 where
  pub legal : IsLegal plant (answered group) start
  pub state_is : now ≡ run plant (answered group) start
  pub counted : count ≡ min (before + length (events plant (answered group) start)) last_number
  pub fine : AllByRecursion IsFine group
  pub told : AllByRecursion (IsReplied false) group

pub served_more : (plant : List Actuator) (start now next : State) (before count later : ℕ) (group : List Asked) (asked : Asked) → HasServed plant start now before count group →
    IsLegal plant (done_by asked.session asked.commands asked.answers.items) now → next ≡ run plant (done_by asked.session asked.commands asked.answers.items) now →
    later ≡ min (count + length (events plant (done_by asked.session asked.commands asked.answers.items) now)) last_number →
    IsFine asked → IsReplied false asked → HasServed plant start next before later (group ++ asked ∷ [])
served_more plant start now next before count later group asked served legal state counted fine told =
    let one : List Entry = done_by asked.session asked.commands asked.answers.items in
    let so : List Entry = answered group in
    let more : answered (group ++ asked ∷ []) ≡ so ++ one = answered_append group (asked ∷ []) ∙ ap (λ es. so ++ es) (append-nil one) in
    let many : length (events plant (answered (group ++ asked ∷ [])) start) ≡ length (events plant so start) + length (events plant one now) =
    ap (λ es. length (events plant es start)) more
    ∙ ap length (events_append plant so one start)
    ∙ length-append (events plant so start) (events plant one (run plant so start))
    ∙ ap (λ s. length (events plant so start) + length (events plant one s)) (sym served.state_is) in
    record {
      legal = subst (λ es. IsLegal plant es start) (sym more)
          (legal_append plant so one start (answered_whole group) served.legal (subst (IsLegal plant one) served.state_is legal));
      state_is = state ∙ ap (run plant one) served.state_is ∙ sym (run_append plant so one start) ∙ ap (λ es. run plant es start) (sym more);
      counted = count_more count (before + length (events plant so start)) (length (events plant one now)) later
          (before + length (events plant (answered (group ++ asked ∷ [])) start)) served.counted counted (omega (arith, many));
      fine = all_more IsFine group asked served.fine fine;
      told = all_more (IsReplied false) group asked served.told told;
    }

pub served_nothing : (plant : List Actuator) (s : State) (count : ℕ) → count ≤ last_number → HasServed plant s s count count []
served_nothing plant s count few = record { legal = tt; state_is = refl; counted = omega arith; fine = tt; told = tt }
