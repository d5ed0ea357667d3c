-- A value that stands for a history stands for a longer one after a call.
use Rattle.std.proofs.Common.{◌≡◌, Bool, true, false, ◌||◌, ℕ, List, [], ◌∷◌, ◌++◌, refl, sym, ap, ◌∙◌, subst, append_assoc, append-nil}
use Rattle.boss_model.specs.declared.event.Event.{Event}
use Rattle.boss_model.specs.declared.state.Actuator.{Actuator}
use Rattle.boss_model.specs.Sound.{IsSound}
use Rattle.boss_model.specs.State.{Persistent, State}
use Rattle.boss_outside.specs.Counts.{Rose}
use Rattle.def_history.specs.declared.entry.Entry.{Entry}
use Rattle.def_history.specs.declared.entry.Entry.TheVariants.{Did, Broke}
use Rattle.def_history.specs.History.{events, is_broken, IsLegal, run, run_tried}
use Rattle.def_history.proofs.Going.{run_append, events_append, broken_append, tried_append, tried_whole, legal_append}
use Rattle.boss_shared.specs.Keeping.{Keeps, IsHeld}
use Rattle.boss_shared.specs.Walking.{AreTried, shortened, Walks}
use Rattle.boss_shared.proofs.Walks.{walks_join, walks_nowhere}

-- a history without a mark stays as it is
pub whole_shortened : (tried : ℕ) (log : List Entry) → is_broken log ≡ false → shortened tried log ≡ log
whole_shortened tried [] whole = refl
whole_shortened tried (Did session command moment answer ∷ log) whole = ap (λ es. Did session command moment answer ∷ es) (whole_shortened tried log whole)
whole_shortened tried (Broke session commands others ∷ log) whole = absurd cc

pub shortened_append : (tried : ℕ) (log made : List Entry) → is_broken log ≡ false → shortened tried (log ++ made) ≡ log ++ shortened tried made
shortened_append tried [] made whole = refl
shortened_append tried (Did session command moment answer ∷ log) made whole =
    ap (λ es. Did session command moment answer ∷ es) (shortened_append tried log made whole)
shortened_append tried (Broke session commands others ∷ log) made whole = absurd cc

-- where no disk failed, all that was tried was done
pub tried_same : (plant : List Actuator) (made : List Entry) (s : State) → is_broken made ≡ false → run_tried plant (shortened 0 made) s ≡ run plant made s
tried_same plant made s whole = ap (λ es. run_tried plant es s) (whole_shortened 0 made whole) ∙ tried_whole plant made s whole

pub none_tried : (made : List Entry) → is_broken made ≡ false → AreTried 0 made
none_tried [] whole = tt
none_tried (Did session command moment answer ∷ made) whole = none_tried made whole
none_tried (Broke session commands others ∷ made) whole = absurd cc

-- what was tried behind a history without a mark
pub tried_behind : (tried : ℕ) (log made : List Entry) → is_broken log ≡ false → AreTried tried made → AreTried tried (log ++ made)
tried_behind tried [] made whole are = are
tried_behind tried (Did session command moment answer ∷ log) made whole are = tried_behind tried log made whole are
tried_behind tried (Broke session commands others ∷ log) made whole are = absurd cc

module _ {V : Type 0} (plant : V → List Actuator) (state : V → State) (stopped : V → Bool) (faults : V → ℕ)
    (leaves : V → Persistent → Persistent → Type 0) (passes : V → V → Persistent → Persistent → Type 0) (keeps : V → List Event → Type 0) where
  -- a value that stands for nothing yet
  pub holds_first : (v : V) → stopped v ≡ false → IsSound (plant v) (state v) → leaves v (state v).persistent (state v).persistent →
      (before : List Event) × keeps v before → IsHeld plant state stopped faults leaves passes keeps v v []
  holds_first v off sound images known = record {
    sound = sound;
    known = known;
    legal = tt;
    same_plant = refl;
    marked = off;
    state_is = λ _. refl;
    rose = λ on. let clash : true ≡ false = sym on ∙ off in absurd cc;
    stood = λ _. refl;
    images = (0, tt, images);
    through = walks_nowhere (plant v) passes (state v) v;
    gained = λ _ before has. subst (keeps v) (sym (append-nil before)) has;
  }

  stopped_holds : (start old new : V) (log made : List Entry) → stopped old ≡ true → IsHeld plant state stopped faults leaves passes keeps start old log →
      Keeps plant state stopped faults leaves passes keeps old new made → IsHeld plant state stopped faults leaves passes keeps start new (log ++ made)
  stopped_holds start old new log made s h k =
      let on : stopped new ≡ true = k.marked ∙ ap (λ b. b || is_broken made) s in
      let never : stopped new ≡ false → ⊥ = λ off. let clash : true ≡ false = sym on ∙ off in cc in
      let same : log ++ made ≡ log = ap (λ m. log ++ m) (k.none s) ∙ append-nil log in
      subst (λ l. IsHeld plant state stopped faults leaves passes keeps start new l) (sym same) (record {
        sound = h.sound;
        known = h.known;
        legal = h.legal;
        same_plant = k.same_plant ∙ h.same_plant;
        marked = on ∙ sym s ∙ h.marked;
        state_is = λ off. absurd (never off);
        rose = λ _. subst (λ n. Rose (faults start) n) (sym (k.stood (on ∙ sym s))) (h.rose s);
        stood = λ off. absurd (never off);
        images = (h.images.0, h.images.1, k.images_stay s _ _ h.images.2);
        through = subst (λ value. Walks (plant start) passes (state start) start log value) (sym (k.still s)) h.through;
        gained = λ off. absurd (never off);
      })

  running_holds : (start old new : V) (log made : List Entry) → stopped old ≡ false → IsHeld plant state stopped faults leaves passes keeps start old log →
      Keeps plant state stopped faults leaves passes keeps old new made → IsHeld plant state stopped faults leaves passes keeps start new (log ++ made)
  running_holds start old new log made s h k =
      let whole : is_broken log ≡ false = sym h.marked ∙ s in
      let p : plant old ≡ plant start = h.same_plant in
      let d : state old ≡ run (plant start) log (state start) = h.state_is s in
      let legal : IsLegal (plant start) made (run (plant start) log (state start)) =
      subst (λ (q : List Actuator × State). IsLegal q.0 made q.1) (λ i. (p i, d i)) k.legal in
      let ran : run (plant old) made (state old) ≡ run (plant start) (log ++ made) (state start) =
      (λ i. run (p i) made (d i)) ∙ sym (run_append (plant start) log made (state start)) in
      let tried : (n : ℕ) → run_tried (plant old) (shortened n made) (state old) ≡ run_tried (plant start) (shortened n (log ++ made)) (state start) =
      λ n. (λ i. run_tried (p i) (shortened n made) (d i)) ∙ sym (tried_append (plant start) log (shortened n made) (state start) whole)
      ∙ ap (λ es. run_tried (plant start) es (state start)) (sym (shortened_append n log made whole)) in
      let here : leaves old (state old).persistent (state old).persistent =
      subst (λ (q : State × State). leaves old q.0.persistent q.1.persistent)
      (λ i. (sym d i, (ap (λ es. run_tried (plant start) es (state start)) (whole_shortened h.images.0 log whole) ∙ tried_whole (plant start) log (state start) whole ∙ sym d) i)) h.images.2 in
      let left = k.images s here (h.known.0 ++ events (plant start) log (state start)) (h.gained s h.known.0 h.known.1) in
      record {
        sound = h.sound;
        known = h.known;
        legal = legal_append (plant start) log made (state start) whole h.legal legal;
        same_plant = k.same_plant ∙ p;
        marked = k.marked ∙ ap (λ b. b || is_broken made) (h.marked) ∙ sym (broken_append log made);
        state_is = λ off. k.state_is off ∙ ran;
        rose = λ on. subst (λ n. Rose n (faults new)) (h.stood s) (k.rose s on);
        stood = λ off. k.stood (off ∙ sym s) ∙ h.stood s;
        images = (
          left.0,
          tried_behind left.0 log made whole left.1,
          subst (λ (q : State × State). leaves new q.0.persistent q.1.persistent) (λ i. (ran i, tried left.0 i)) left.2,
        );
        through = walks_join (plant start) passes (state start) start old new log made h.through
            (subst (λ (q : List Actuator × State). Walks q.0 passes q.1 old made new) (λ i. (p i, d i))
            (k.through s (h.known.0 ++ events (plant start) log (state start)) (h.gained s h.known.0 h.known.1)));
        gained = λ off before has.
            let all : (before ++ events (plant start) log (state start)) ++ events (plant old) made (state old) ≡ before ++ events (plant start) (log ++ made) (state start) =
            append_assoc before (events (plant start) log (state start)) (events (plant old) made (state old))
            ∙ ap (λ es. before ++ es) ((λ i. events (plant start) log (state start) ++ events (p i) made (d i)) ∙ sym (events_append (plant start) log made (state start))) in
            subst (keeps new) all (k.gained off (before ++ events (plant start) log (state start)) (h.gained s before has));
      }

  -- a value that is found to be the one that is held
  pub held_as : (start held found : V) (log : List Entry) → found ≡ held → IsHeld plant state stopped faults leaves passes keeps start held log →
      IsHeld plant state stopped faults leaves passes keeps start found log
  held_as start held found log same h = subst (λ value. IsHeld plant state stopped faults leaves passes keeps start value log) (sym same) h

  pub holds_on : (start old new : V) (log made : List Entry) → IsHeld plant state stopped faults leaves passes keeps start old log →
      Keeps plant state stopped faults leaves passes keeps old new made → IsHeld plant state stopped faults leaves passes keeps start new (log ++ made)
  holds_on start old new log made h k = cases (stopped old) refl
    where
      cases : (b : Bool) → stopped old ≡ b → IsHeld plant state stopped faults leaves passes keeps start new (log ++ made)
      cases true s = stopped_holds start old new log made s h k
      cases false s = running_holds start old new log made s h k
