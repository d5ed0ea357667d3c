-- The answers of a legal history from a sound opening can be told.
use Rattle.std.proofs.Common.{◌≡◌, ℕ, ◌≤◌, List, [], ◌∷◌, ◌++◌, length, Option, Some, None, sym, subst, arith}
use Rattle.std.specs.List.{AllByRecursion}
use Rattle.boss_model.specs.declared.answer.Answer.{Answer}
use Rattle.boss_model.specs.declared.command.Command.{Command}
use Rattle.boss_model.specs.declared.state.Actuator.{Actuator}
use Rattle.boss_model.specs.Catalogue.{actuators, Catalogue}
use Rattle.boss_model.specs.Machine.{step}
use Rattle.boss_model.specs.Sound.{IsSound}
use Rattle.boss_model.specs.State.{State}
use Rattle.boss_model.specs.Tellable.{IsTellable}
use Rattle.law_soundness.proofs.StepSound.{step-sound}
use Rattle.law_machine.proofs.Tellable.{tellable}
use Rattle.def_history.specs.declared.entry.Entry.{Entry}
use Rattle.def_history.specs.declared.entry.Entry.TheVariants.{Did, Broke}
use Rattle.def_history.specs.declared.entry.Tried.{Tried}
use Rattle.def_history.specs.declared.outcome.Outcome.{Outcome}
use Rattle.def_history.specs.declared.outcome.Outcome.TheVariants.{Done, Stopped, DiskFault, NoMemory, Denied}
use Rattle.def_history.specs.History.{after_entry, run, IsLegal}
use Rattle.def_history.specs.Made.{made_by, done_by, made_by_all, mark_by}
use Rattle.def_history.proofs.Going.{legal_front}
use Rattle.def_history.proofs.Sound.{legal-sound}
use Rattle.boss_shared.specs.Calls.{IsTold, RestFits}

legal_behind : (plant : List Actuator) (xs ys : List Entry) (s : State) → IsLegal plant (xs ++ ys) s → IsLegal plant ys (run plant xs s)
legal_behind plant [] ys s legal = legal
legal_behind plant (Did session command moment answer ∷ xs) ys s legal = legal_behind plant xs ys (after_entry plant (Did session command moment answer) s) legal.2
legal_behind plant (Broke session commands others ∷ xs) ys s legal = legal_behind plant xs ys s legal.2

module _ (catalogue : Catalogue) where
  entry_told : (session : ℕ) (command : Command) (moment : ℕ) (answer : Answer) (s : State) → IsSound (actuators catalogue) s →
      IsLegal (actuators catalogue) (Did session command moment answer ∷ []) s → IsTellable catalogue answer
  entry_told session command moment answer s sound legal =
      subst (IsTellable catalogue) (sym legal.0.1) (tellable catalogue s session command moment sound legal.0.0.0 legal.0.0.1)

  told : (session : ℕ) (command : Command) (moment : ℕ) (outcome : Outcome) (s : State) → IsSound (actuators catalogue) s →
      IsLegal (actuators catalogue) (made_by session command moment outcome) s → IsTold catalogue outcome
  told session command moment (Done answer) s sound legal = entry_told session command moment answer s sound legal
  told session command moment Stopped s sound legal = tt
  told session command moment DiskFault s sound legal = tt
  told session command moment NoMemory s sound legal = tt
  told session command moment (Denied index rule) s sound legal = tt

  done_told : (session : ℕ) (calls : List (Command × ℕ)) (answers : List Answer) (s : State) → IsSound (actuators catalogue) s →
      IsLegal (actuators catalogue) (done_by session calls answers) s → length answers ≤ length calls → AllByRecursion (IsTellable catalogue) answers
  done_told session [] [] s sound legal few = tt
  done_told session [] (answer ∷ answers) s sound legal few = absurd (omega arith)
  done_told session (call ∷ calls) [] s sound legal few = tt
  done_told session (call ∷ calls) (answer ∷ answers) s sound legal few = (
    subst (IsTellable catalogue) (sym legal.0.1) (tellable catalogue s session call.0 call.1 sound legal.0.0.0 legal.0.0.1),
    done_told session calls answers (step (actuators catalogue) session call.0 call.1 s).state
        (step-sound (actuators catalogue) session call.0 call.1 s legal.0.0.0 legal.0.0.1 sound) legal.2 (omega arith),
  )

few_done : (calls : List (Command × ℕ)) (done : ℕ) (rest : Option Outcome) → RestFits calls done rest → done ≤ length calls
few_done calls done None fits = omega arith
few_done calls done (Some (Done answer)) fits = absurd fits
few_done calls done (Some Stopped) fits = omega arith
few_done calls done (Some DiskFault) fits = omega arith
few_done calls done (Some NoMemory) fits = let less = fits.0 in omega arith
few_done calls done (Some (Denied index rule)) fits = omega arith

module _ (plant : List Actuator) (opening : State) (before : List Entry) (session : ℕ) where
  pub call_told : (command : Command) (moment : ℕ) (outcome : Outcome) → IsSound plant opening →
      IsLegal plant (before ++ made_by session command moment outcome) opening →
      (catalogue : Catalogue) → actuators catalogue ≡ plant → IsTold catalogue outcome
  call_told command moment outcome sound legal catalogue is =
      let made : List Entry = made_by session command moment outcome in
      told catalogue session command moment outcome (run plant before opening)
      (subst (λ p. IsSound p (run plant before opening)) (sym is) (legal-sound plant before opening sound (legal_front plant before made opening legal)))
      (subst (λ p. IsLegal p made (run plant before opening)) (sym is) (legal_behind plant before made opening legal))

  pub calls_told : (others : List Tried) (calls : List (Command × ℕ)) (answers : List Answer) (done : ℕ) (rest : Option Outcome) → IsSound plant opening →
      IsLegal plant (before ++ made_by_all others session calls answers rest) opening → length answers ≡ done → RestFits calls done rest →
      (catalogue : Catalogue) → actuators catalogue ≡ plant → AllByRecursion (IsTellable catalogue) answers
  calls_told others calls answers done rest sound legal many fits catalogue is =
      let made : List Entry = made_by_all others session calls answers rest in
      let few : done ≤ length calls = few_done calls done rest fits in
      let behind : IsLegal plant made (run plant before opening) = legal_behind plant before made opening legal in
      done_told catalogue session calls answers (run plant before opening)
      (subst (λ p. IsSound p (run plant before opening)) (sym is) (legal-sound plant before opening sound (legal_front plant before made opening legal)))
      (subst (λ p. IsLegal p (done_by session calls answers) (run plant before opening)) (sym is)
      (legal_front plant (done_by session calls answers) (mark_by others session calls rest) (run plant before opening) behind))
      (omega arith)
