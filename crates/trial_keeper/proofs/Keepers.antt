-- What a keeper owes for a call where it had stopped, and where its disk fails; and what one without a disk may answer.
use Rattle.std.proofs.Common.{◌≡◌, Bool, true, false, ◌||◌, ℕ, List, [], ◌∷◌, length, inl, Ok, Err, None, Result, IfOk, OnOk, refl, sym, ap, ◌∙◌, subst}
use Rattle.std.specs.List.{AllByRecursion}
use Rattle.boss_model.specs.declared.answer.Answer.{Answer}
use Rattle.boss_model.specs.declared.command.Command.{Command}
use Rattle.boss_model.specs.declared.event.Event.{Event}
use Rattle.boss_model.specs.declared.state.Actuator.{Actuator}
use Rattle.boss_model.specs.State.{Persistent, State}
use Rattle.boss_outside.specs.Counts.{Rose}
use Rattle.def_history.specs.declared.entry.Entry.{Entry}
use Rattle.def_history.specs.declared.entry.Entry.TheVariants.{Broke}
use Rattle.def_history.specs.declared.outcome.Outcome.{Outcome}
use Rattle.def_history.specs.declared.outcome.Outcome.TheVariants.{Done, Stopped, DiskFault, NoMemory, Denied}
use Rattle.def_history.specs.declared.entry.Tried.{Tried}
use Rattle.def_history.specs.History.{is_broken, MayCall, MayTry}
use Rattle.def_history.specs.Made.{made_by}
use Rattle.boss_shared.specs.Calls.{is_stopped}
use Rattle.boss_shared.specs.Gates.{denial_of}
use Rattle.boss_shared.specs.Keeping.{Keeps}
use Rattle.boss_shared.proofs.Walks.{walks_once}

module _ {V : Type 0} (plant : V → List Actuator) (state : V → State) (stopped : V → Bool) (faults : V → ℕ)
    (leaves : V → Persistent → Persistent → Type 0) (passes : V → V → Persistent → Persistent → Type 0) (keeps : V → List Event → Type 0) where
  never : (v : V) → stopped v ≡ true → stopped v ≡ false → ⊥
  never v on off = let clash : true ≡ false = sym on ∙ off in cc

  pub idle_keeps : (v : V) (made : List Entry) → stopped v ≡ true → made ≡ [] → Keeps plant state stopped faults leaves passes keeps v v made
  idle_keeps v made on nil = subst (Keeps plant state stopped faults leaves passes keeps v v) (sym nil) (record {
    legal = tt;
    same_plant = refl;
    marked = on ∙ sym (ap (λ b. b || false) on);
    none = λ _. refl;
    still = λ _. refl;
    state_is = λ off. absurd (never v on off);
    rose = λ off _. absurd (never v on off);
    stood = λ _. refl;
    images = λ off. absurd (never v on off);
    images_stay = λ _ first second there. there;
    through = λ off. absurd (never v on off);
    gained = λ off. absurd (never v on off);
  })

  pub fault_keeps : (old new : V) (session : ℕ) (calls : List (Command × ℕ)) (others : List Tried) (made : List Entry) → stopped old ≡ false → stopped new ≡ true → plant new ≡ plant old →
      Rose (faults old) (faults new) → AllByRecursion (MayCall (plant old)) calls → AllByRecursion (MayTry (plant old)) others → made ≡ Broke session calls others ∷ [] →
      ((second : Persistent) → leaves new (state old).persistent second) → ((second : Persistent) → passes old new (state old).persistent second) →
      Keeps plant state stopped faults leaves passes keeps old new made
  fault_keeps old new session calls others made off on same rose may more is there goes = subst (Keeps plant state stopped faults leaves passes keeps old new) (sym is) (record {
    legal = ((may, more), refl, tt);
    same_plant = same;
    marked = on ∙ sym (ap (λ b. b || true) off);
    none = λ was. absurd (never old was off);
    still = λ was. absurd (never old was off);
    state_is = λ not. absurd (never new on not);
    rose = λ _ _. rose;
    stood = λ equal. absurd (never new on (equal ∙ off));
    images = λ _ _ before _. (length calls, (inl refl, tt), there _);
    images_stay = λ was. absurd (never old was off);
    through = λ _ before _. walks_once (plant old) passes (state old) old (Broke session calls others ∷ []) new (length calls, (inl refl, tt), goes _);
    gained = λ not. absurd (never new on not);
  })

-- where there is no disk, a command is answered or wants memory
pub is_answered : (session moment : ℕ) (asked : Command) (outcome : Outcome) → is_stopped outcome ≡ false → is_broken (made_by session asked moment outcome) ≡ false → denial_of outcome ≡ None →
    ((answer : Answer) → outcome ≡ Done answer → ⊥) → (outcome ≡ NoMemory → ⊥) → ⊥
is_answered session moment asked (Done answer) goes whole undenied not_done not_wanting = not_done answer refl
is_answered session moment asked Stopped goes whole undenied not_done not_wanting = absurd cc
is_answered session moment asked DiskFault goes whole undenied not_done not_wanting = absurd cc
is_answered session moment asked NoMemory goes whole undenied not_done not_wanting = not_wanting refl
is_answered session moment asked (Denied index rule) goes whole undenied not_done not_wanting = absurd cc

pub on_ok : {T E P : Type 0} (result : Result T E) (value : T) → result ≡ Ok value → OnOk result P → P
on_ok (Ok value) given is held = held
on_ok (Err error) given is held = absurd cc

pub if_ok : {A E : Type 0} {P Q : A → Type 0} (r : Result A E) → IfOk r P → ((a : A) → P a → Q a) → IfOk r Q
if_ok (Ok a) has each = each a has
if_ok (Err e) has each = tt

pub value_of : {A E : Type 0} (P : A → Type 0) (r : Result A E) (value : A) → r ≡ Ok value → IfOk r P → P value
value_of {A = A} {E = E} P r value is has = subst (λ (it : Result A E). IfOk it P) is has
