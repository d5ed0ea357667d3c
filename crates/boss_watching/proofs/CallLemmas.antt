-- What one call for the notices of a process adds, and where it goes on.
use Rattle.std.proofs.Common.{◌≡◌, ℕ, ◌≤◌, Bool, List, [], ◌∷◌, ◌++◌, ap, sym, ◌∙◌, subst, append-nil, Some}
use Rattle.boss_model.specs.declared.answer.Answer.{Answer}
use Rattle.boss_model.specs.declared.answer.Answer.TheVariants as answer
use Rattle.boss_model.specs.declared.command.Command.{Command}
use Rattle.boss_model.specs.declared.command.Command.TheVariants as command
use Rattle.boss_model.specs.declared.notice.Notice.{Notice}
use Rattle.boss_model.specs.declared.state.Actuator.{Actuator}
use Rattle.boss_model.specs.State.{State}
use Rattle.boss_lock.specs.Places.{entries_at}
use Rattle.def_history.specs.declared.entry.Entry.{Entry}
use Rattle.def_history.specs.declared.entry.Entry.TheVariants.{Did, Broke}
use Rattle.def_history.specs.declared.outcome.Outcome.TheVariants.{Done, DiskFault}
use Rattle.def_history.specs.History.{deeds, run, IsLegal}
use Rattle.def_history.specs.Made.{made_by}
use Rattle.def_lanes.proofs.Choices.{deeds-append}
use Rattle.boss_shared.specs.Passes.{IsPassOf, Turn}
use Rattle.boss_watching.specs.Notes.{sent}
use Rattle.boss_watching.proofs.Pages.{IsPage, page-of-call, only-page}

module _ (plant : List Actuator) (opening : State) (seen : List Entry) (mine : List ℕ) (now : List Entry) (own : List ℕ) (stopped : Bool) (session from moment : ℕ) where
  module _ (name asked : List ℕ) (given told : Answer) (same : asked ≡ name) (is : given ≡ told)
      (turn : Turn plant opening seen mine now own (made_by session (command.Notices (Some asked) from 64) moment (Done given)) stopped) where
    pub asked-done : deeds (entries_at now own) ≡ deeds (entries_at seen mine) ++ Did session (command.Notices (Some name) from 64) moment told ∷ []
    asked-done =
        ap deeds turn.entries ∙ deeds-append (entries_at seen mine) (Did session (command.Notices (Some asked) from 64) moment given ∷ [])
        ∙ ap (λ n. deeds (entries_at seen mine) ++ Did session (command.Notices (Some n) from 64) moment given ∷ []) same
        ∙ ap (λ a. deeds (entries_at seen mine) ++ Did session (command.Notices (Some name) from 64) moment a ∷ []) is

    pub asked-page : IsPassOf plant opening seen mine → 1 ≤ from → IsPage from told (sent name (run plant seen opening)) (sent name (run plant now opening))
    asked-page pass some = subst (λ a. IsPage from a (sent name (run plant seen opening)) (sent name (run plant now opening))) is
        (subst (λ n. IsPage from given (sent n (run plant seen opening)) (sent n (run plant now opening))) same
        (subst (λ log. IsPage from given (sent asked (run plant seen opening)) (sent asked (run plant log opening))) (sym turn.ends)
        (page-of-call plant opening seen turn.before session asked from moment given pass.sound (subst (λ log. IsLegal plant log opening) turn.ends turn.legal) turn.goes_on some)))

    pub asked-nothing-else : IsPassOf plant opening seen mine → 1 ≤ from → ((first next : ℕ) (list : List Notice) → told ≡ answer.Notices first next list → ⊥) → ⊥
    asked-nothing-else pass some other = only-page from (sent name (run plant seen opening)) (sent name (run plant now opening)) told (asked-page pass some) other

  pub asked-broken : (c : Command) → Turn plant opening seen mine now own (made_by session c moment DiskFault) stopped → deeds (entries_at now own) ≡ deeds (entries_at seen mine)
  asked-broken c turn = ap deeds turn.entries ∙ deeds-append (entries_at seen mine) (Broke session ((c, moment) ∷ []) [] ∷ []) ∙ append-nil (deeds (entries_at seen mine))
