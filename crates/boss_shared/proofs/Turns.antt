-- What a pass has after a turn.
use Rattle.std.proofs.Common.{◌≡◌, Bool, true, false, ◌||◌, ℕ, List, [], ◌∷◌, ◌++◌, length, Option, Some, None, refl, sym, ap, ◌∙◌, subst, append-nil}
use mathlib.Core.List.{IsPrefix}
use Rattle.boss_model.specs.declared.answer.Answer.{Answer}
use Rattle.boss_model.specs.declared.command.Command.{Command}
use Rattle.boss_model.specs.declared.state.Actuator.{Actuator}
use Rattle.boss_model.specs.Sound.{IsSound}
use Rattle.boss_model.specs.State.{State}
use Rattle.boss_lock.specs.Places.{numbers_from, ArePlacesOf, entries_at}
use Rattle.boss_lock.specs.Seats.{Lock, Standing, IsSeatOf, found, own_entries, with_turn, after_turn}
use Rattle.boss_lock.proofs.Histories.{prefix_more}
use Rattle.def_history.specs.declared.entry.Entry.{Entry}
use Rattle.def_history.specs.declared.entry.Entry.TheVariants.{Did, Broke}
use Rattle.def_history.specs.declared.entry.Tried.{Tried}
use Rattle.def_history.specs.declared.outcome.Outcome.{Outcome}
use Rattle.def_history.specs.declared.outcome.Outcome.TheVariants.{Done, Stopped, DiskFault, NoMemory, Denied}
use Rattle.def_history.specs.History.{is_broken, IsLegal, deeds}
use Rattle.def_history.specs.Made.{made_by, done_by, mark_by, made_by_all}
use Rattle.def_history.proofs.Going.{broken_append}
use Rattle.boss_shared.specs.Calls.{is_stopped, has_failed, is_stopped_rest, has_failed_rest}
use Rattle.boss_shared.specs.Gates.{denial_of}
use Rattle.boss_shared.specs.Passes.{Batch, FailsBy, IsPassOf, Turn, TurnsBy}
use Rattle.boss_shared.specs.Together.{IsPaired}

-- a seat after a turn in which it found a history, and made these entries
pub record Took {T : Type 0} (seat mid after : Standing T Entry) (made : List Entry) : Type 0 where
  pub entered : mid ≡ with_turn seat (found mid)
  pub goes_on : IsPrefix seat.seen (found mid)
  pub left : after ≡ after_turn mid made
  pub own : own_entries after ≡ own_entries mid ++ made
  pub places : ArePlacesOf after.places after.seen

pub turn_of : {T : Type 0} (plant : List Actuator) (opening : State) (seat mid after : Standing T Entry) (made : List Entry) (stopped : Bool) →
    Took seat mid after made → IsLegal plant (found mid ++ made) opening → stopped ≡ is_broken (found mid) →
    Turn plant opening seat.seen seat.places after.seen after.places made stopped
turn_of plant opening seat mid after made stopped t legal is = record {
  before = found mid;
  goes_on = t.goes_on;
  ends = ap (λ s. s.seen) t.left;
  places = ap (λ s. s.places) t.left ∙ ap (λ s. s.places ++ numbers_from (length (found mid)) (length made)) t.entered;
  entries = t.own ∙ ap (λ s. entries_at s.seen s.places ++ made) t.entered;
  legal = subst (λ log. IsLegal plant log opening) (sym (ap (λ s. s.seen) t.left)) legal;
  stopped_is = is;
}

pub owned_after : {T : Type 0} (plant : List Actuator) (opening : State) (lock : Lock T) (seat mid after : Standing T Entry) (made : List Entry) →
    Took seat mid after made → IsSeatOf lock seat → IsPaired seat.parts → IsPaired lock.seats → IsSound plant opening → IsLegal plant (found mid ++ made) opening →
    IsSeatOf lock after × (after.turn ≡ None) × IsPassOf plant opening after.seen after.places × IsPaired after.parts × IsPaired lock.seats
owned_after plant opening lock seat mid after made t own paired seats sound legal = (
  (ap (λ s. s.table) t.left ∙ ap (λ s. s.table) t.entered ∙ own.0, ap (λ s. s.start) t.left ∙ ap (λ s. s.start) t.entered ∙ own.1),
  ap (λ s. s.turn) t.left,
  record { sound = sound; legal = subst (λ log. IsLegal plant log opening) (sym (ap (λ s. s.seen) t.left)) legal; places = t.places },
  subst IsPaired (sym (ap (λ s. s.parts) t.left ∙ ap (λ s. s.parts) t.entered)) paired,
  seats,
)

-- ---- one command

-- a turn is what its caller is told of it, where nothing is denied
pub turns_by : (plant : List Actuator) (opening : State) (seen : List Entry) (mine : List ℕ) (now : List Entry) (own : List ℕ)
    (session : ℕ) (command : Command) (moment : ℕ) (outcome : Outcome) → denial_of outcome ≡ None →
    Turn plant opening seen mine now own (made_by session command moment outcome) (is_stopped outcome) →
    TurnsBy plant opening seen mine now own session command moment outcome
turns_by plant opening seen mine now own session command moment (Done answer) undenied t = t
turns_by plant opening seen mine now own session command moment Stopped undenied t = t
turns_by plant opening seen mine now own session command moment DiskFault undenied t = t
turns_by plant opening seen mine now own session command moment NoMemory undenied t = t
turns_by plant opening seen mine now own session command moment (Denied index rule) undenied t = absurd cc

pub fails_by : (was now : Bool) (rest : Option Outcome) → now ≡ has_failed_rest rest → FailsBy was now rest
fails_by was now None is = is
fails_by was now (Some (Done answer)) is = is
fails_by was now (Some Stopped) is = is
fails_by was now (Some DiskFault) is = is
fails_by was now (Some NoMemory) is = is
fails_by was now (Some (Denied index rule)) is = λ on. let clash : true ≡ false = sym on ∙ is in absurd cc

broken_made : (session : ℕ) (command : Command) (moment : ℕ) (outcome : Outcome) →
    (is_stopped outcome || is_broken (made_by session command moment outcome)) ≡ has_failed outcome
broken_made session command moment (Done answer) = refl
broken_made session command moment Stopped = refl
broken_made session command moment DiskFault = refl
broken_made session command moment NoMemory = refl
broken_made session command moment (Denied index rule) = refl

pub failed_of : (session : ℕ) (command : Command) (moment : ℕ) (outcome : Outcome) (before now : List Entry) →
    now ≡ before ++ made_by session command moment outcome → is_stopped outcome ≡ is_broken before → is_broken now ≡ has_failed outcome
failed_of session command moment outcome before now ends stopped =
    ap is_broken ends ∙ broken_append before (made_by session command moment outcome)
    ∙ ap (λ b. b || is_broken (made_by session command moment outcome)) (sym stopped) ∙ broken_made session command moment outcome

-- ---- several commands

pub deeds_append : (xs ys : List Entry) → deeds (xs ++ ys) ≡ deeds xs ++ deeds ys
deeds_append [] ys = refl
deeds_append (Did session command moment answer ∷ xs) ys = ap (λ es. Did session command moment answer ∷ es) (deeds_append xs ys)
deeds_append (Broke session commands others ∷ xs) ys = deeds_append xs ys

deeds_done : (session : ℕ) (calls : List (Command × ℕ)) (answers : List Answer) → deeds (done_by session calls answers) ≡ done_by session calls answers
deeds_done session [] answers = refl
deeds_done session (call ∷ calls) [] = refl
deeds_done session (call ∷ calls) (answer ∷ answers) = ap (λ es. Did session call.0 call.1 answer ∷ es) (deeds_done session calls answers)

deeds_mark : (others : List Tried) (session : ℕ) (calls : List (Command × ℕ)) (rest : Option Outcome) → deeds (mark_by others session calls rest) ≡ []
deeds_mark others session calls None = refl
deeds_mark others session calls (Some (Done answer)) = refl
deeds_mark others session calls (Some Stopped) = refl
deeds_mark others session calls (Some DiskFault) = refl
deeds_mark others session calls (Some NoMemory) = refl
deeds_mark others session calls (Some (Denied index rule)) = refl

pub broken_done : (session : ℕ) (calls : List (Command × ℕ)) (answers : List Answer) → is_broken (done_by session calls answers) ≡ false
broken_done session [] answers = refl
broken_done session (call ∷ calls) [] = refl
broken_done session (call ∷ calls) (answer ∷ answers) = broken_done session calls answers

pub broken_mark : (others : List Tried) (session : ℕ) (calls : List (Command × ℕ)) (rest : Option Outcome) →
    (is_stopped_rest rest || is_broken (mark_by others session calls rest)) ≡ has_failed_rest rest
broken_mark others session calls None = refl
broken_mark others session calls (Some (Done answer)) = refl
broken_mark others session calls (Some Stopped) = refl
broken_mark others session calls (Some DiskFault) = refl
broken_mark others session calls (Some NoMemory) = refl
broken_mark others session calls (Some (Denied index rule)) = refl

deeds_made : (others : List Tried) (session : ℕ) (calls : List (Command × ℕ)) (answers : List Answer) (rest : Option Outcome) →
    deeds (made_by_all others session calls answers rest) ≡ done_by session calls answers
deeds_made others session calls answers rest =
    deeds_append (done_by session calls answers) (mark_by others session calls rest)
    ∙ (λ i. deeds_done session calls answers i ++ deeds_mark others session calls rest i) ∙ append-nil (done_by session calls answers)

pub broken_made_all : (others : List Tried) (session : ℕ) (calls : List (Command × ℕ)) (answers : List Answer) (rest : Option Outcome) →
    is_broken (made_by_all others session calls answers rest) ≡ is_broken (mark_by others session calls rest)
broken_made_all others session calls answers rest =
    broken_append (done_by session calls answers) (mark_by others session calls rest) ∙ ap (λ b. b || is_broken (mark_by others session calls rest)) (broken_done session calls answers)

-- one turn in which several commands were done is what their caller is told of them
pub batch_of_turn : (plant : List Actuator) (opening : State) (seen : List Entry) (mine : List ℕ) (now : List Entry) (own : List ℕ)
    (others : List Tried) (session : ℕ) (calls : List (Command × ℕ)) (answers : List Answer) (rest : Option Outcome) →
    Turn plant opening seen mine now own (made_by_all others session calls answers rest) (is_stopped_rest rest) →
    Batch plant opening seen mine now own session calls answers rest
batch_of_turn plant opening seen mine now own others session calls answers rest t =
    let made : List Entry = made_by_all others session calls answers rest in record {
      goes_on = subst (λ log. IsPrefix seen log) (sym t.ends) (prefix_more seen t.before made t.goes_on);
      deeds_are = ap deeds t.entries ∙ deeds_append (entries_at seen mine) made ∙ ap (λ es. deeds (entries_at seen mine) ++ es) (deeds_made others session calls answers rest);
      legal = t.legal;
      failed = fails_by (is_broken seen) (is_broken now) rest (ap is_broken t.ends ∙ broken_append t.before made ∙ (λ i. sym t.stopped_is i || broken_made_all others session calls answers rest i) ∙ broken_mark others session calls rest);
    }
