-- What a keeper owes where commands are done.
use Rattle.std.proofs.Common.{◌≡◌, Bool, true, false, ◌||◌, ℕ, List, [], ◌++◌, Option, Some, None, refl, sym, ap, ◌∙◌, subst, append-nil}
use Rattle.boss_model.specs.declared.answer.Answer.{Answer}
use Rattle.boss_model.specs.declared.command.Command.{Command}
use Rattle.boss_model.specs.declared.event.Event.{Event}
use Rattle.boss_model.specs.declared.state.Actuator.{Actuator}
use Rattle.boss_model.specs.State.{Persistent, State}
use Rattle.def_history.specs.declared.entry.Entry.{Entry}
use Rattle.def_history.specs.declared.outcome.Outcome.{Outcome}
use Rattle.def_history.specs.declared.outcome.Outcome.TheVariants.{Done, Stopped, DiskFault, NoMemory, Denied}
use Rattle.def_history.specs.History.{events, is_broken, run, IsLegal}
use Rattle.def_history.specs.Made.{done_by, mark_by, made_by_all}
use Rattle.boss_shared.specs.Calls.{has_failed_rest}
use Rattle.boss_shared.specs.Keeping.{Keeps}
use Rattle.boss_shared.proofs.Holding.{none_tried, tried_same}
use Rattle.boss_shared.proofs.Walks.{walks_once}

module _ {V : Type 0} (plant : V → List Actuator) (state : V → State) (stopped : V → Bool) (faults : V → ℕ)
    (leaves : V → Persistent → Persistent → Type 0) (passes : V → V → Persistent → Persistent → Type 0) (keeps : V → List Event → Type 0) where
  never : (v : V) → stopped v ≡ true → stopped v ≡ false → ⊥
  never v on off = let clash : true ≡ false = sym on ∙ off in cc

  pub done_keeps : (old new : V) (made : List Entry) → stopped old ≡ false → stopped new ≡ false → plant new ≡ plant old → faults new ≡ faults old →
      is_broken made ≡ false → IsLegal (plant old) made (state old) → state new ≡ run (plant old) made (state old) →
      leaves new (state new).persistent (state new).persistent → passes old new (state old).persistent (state new).persistent →
      ((before : List Event) → keeps old before → keeps new (before ++ events (plant old) made (state old))) → Keeps plant state stopped faults leaves passes keeps old new made
  done_keeps old new made off on same stood whole legal ran there went gains = record {
    legal = legal;
    same_plant = same;
    marked = on ∙ sym (λ i. off i || whole i);
    none = λ was. absurd (never old was off);
    still = λ was. absurd (never old was off);
    state_is = λ _. ran;
    rose = λ _ stops. absurd (never new stops on);
    stood = λ _. stood;
    images = λ _ _ before _. (
      0,
      none_tried made whole,
      subst (λ (q : State × State). leaves new q.0.persistent q.1.persistent)
          (λ i. (ran i, (ran ∙ sym (tried_same (plant old) made (state old) whole)) i)) there,
    );
    images_stay = λ was. absurd (never old was off);
    through = λ _ before _. walks_once (plant old) passes (state old) old made new (
      0,
      none_tried made whole,
      subst (λ (s : State). passes old new (state old).persistent s.persistent) (ran ∙ sym (tried_same (plant old) made (state old) whole)) went,
    );
    gained = λ _. gains;
  }

mark_none : (session : ℕ) (calls : List (Command × ℕ)) (rest : Option Outcome) → has_failed_rest rest ≡ false → mark_by [] session calls rest ≡ []
mark_none session calls None fine = refl
mark_none session calls (Some (Done answer)) fine = refl
mark_none session calls (Some Stopped) fine = refl
mark_none session calls (Some DiskFault) fine = absurd cc
mark_none session calls (Some NoMemory) fine = refl
mark_none session calls (Some (Denied index rule)) fine = refl

pub made_fine : (session : ℕ) (calls : List (Command × ℕ)) (answers : List Answer) (rest : Option Outcome) → has_failed_rest rest ≡ false →
    made_by_all [] session calls answers rest ≡ done_by session calls answers
made_fine session calls answers rest fine = ap (λ es. done_by session calls answers ++ es) (mark_none session calls rest fine) ∙ append-nil (done_by session calls answers)
