-- Histories go on where they stopped.
use Rattle.std.proofs.Common.{◌≡◌, false, ◌||◌, List, [], ◌∷◌, ◌++◌, Option, Some, None, refl, ap, ◌∙◌}
use Rattle.boss_model.specs.declared.event.Event.{Event}
use Rattle.boss_model.specs.declared.state.Actuator.{Actuator}
use Rattle.boss_model.specs.State.{State}
use Rattle.def_history.specs.declared.entry.Entry.{Entry}
use Rattle.def_history.specs.declared.entry.Entry.TheVariants.{Did, Broke}
use Rattle.def_history.specs.History.{after_entry, run, run_tried, if_event, events_of_entry, events, is_broken, IsLegal, deeds}

pub run_append : (plant : List Actuator) (xs ys : List Entry) (s : State) → run plant (xs ++ ys) s ≡ run plant ys (run plant xs s)
run_append plant [] ys s = refl
run_append plant (x ∷ xs) ys s = run_append plant xs ys (after_entry plant x s)

if_event-append : (event : Option Event) (xs ys : List Event) → if_event event (xs ++ ys) ≡ if_event event xs ++ ys
if_event-append None xs ys = refl
if_event-append (Some event) xs ys = refl

pub events_append : (plant : List Actuator) (xs ys : List Entry) (s : State) → events plant (xs ++ ys) s ≡ events plant xs s ++ events plant ys (run plant xs s)
events_append plant [] ys s = refl
events_append plant (x ∷ xs) ys s =
    ap (if_event (events_of_entry plant x s)) (events_append plant xs ys (after_entry plant x s))
    ∙ if_event-append (events_of_entry plant x s) (events plant xs (after_entry plant x s)) (events plant ys (run plant xs (after_entry plant x s)))

pub broken_append : (xs ys : List Entry) → is_broken (xs ++ ys) ≡ (is_broken xs || is_broken ys)
broken_append [] ys = refl
broken_append (Did session command moment answer ∷ xs) ys = broken_append xs ys
broken_append (Broke session commands others ∷ xs) ys = refl

pub tried_append : (plant : List Actuator) (xs ys : List Entry) (s : State) → is_broken xs ≡ false →
    run_tried plant (xs ++ ys) s ≡ run_tried plant ys (run plant xs s)
tried_append plant [] ys s whole = refl
tried_append plant (Did session command moment answer ∷ xs) ys s whole = tried_append plant xs ys (after_entry plant (Did session command moment answer) s) whole
tried_append plant (Broke session commands others ∷ xs) ys s whole = absurd cc

pub tried_whole : (plant : List Actuator) (xs : List Entry) (s : State) → is_broken xs ≡ false → run_tried plant xs s ≡ run plant xs s
tried_whole plant [] s whole = refl
tried_whole plant (Did session command moment answer ∷ xs) s whole = tried_whole plant xs (after_entry plant (Did session command moment answer) s) whole
tried_whole plant (Broke session commands others ∷ xs) s whole = absurd cc

pub legal_append : (plant : List Actuator) (xs ys : List Entry) (s : State) → is_broken xs ≡ false → IsLegal plant xs s → IsLegal plant ys (run plant xs s) →
    IsLegal plant (xs ++ ys) s
legal_append plant [] ys s whole first after = after
legal_append plant (Did session command moment answer ∷ xs) ys s whole first after =
    (first.0, tt, legal_append plant xs ys (after_entry plant (Did session command moment answer) s) whole first.2 after)
legal_append plant (Broke session commands others ∷ xs) ys s whole first after = absurd cc

front-nil : (xs ys : List Entry) → xs ++ ys ≡ [] → xs ≡ []
front-nil [] ys is = refl
front-nil (x ∷ xs) ys is = absurd cc

pub legal_front : (plant : List Actuator) (xs ys : List Entry) (s : State) → IsLegal plant (xs ++ ys) s → IsLegal plant xs s
legal_front plant [] ys s legal = tt
legal_front plant (Did session command moment answer ∷ xs) ys s legal =
    (legal.0, tt, legal_front plant xs ys (after_entry plant (Did session command moment answer) s) legal.2)
legal_front plant (Broke session commands others ∷ xs) ys s legal = (legal.0, front-nil xs ys legal.1, legal_front plant xs ys s legal.2)

never-nil : (xs : List Entry) (y : Entry) (ys : List Entry) → xs ++ y ∷ ys ≡ [] → ⊥
never-nil [] y ys is = cc
never-nil (x ∷ xs) y ys is = cc

pub mark-last : (plant : List Actuator) (xs : List Entry) (y : Entry) (ys : List Entry) (s : State) → IsLegal plant (xs ++ y ∷ ys) s → is_broken xs ≡ false
mark-last plant [] y ys s legal = refl
mark-last plant (Did session command moment answer ∷ xs) y ys s legal = mark-last plant xs y ys (after_entry plant (Did session command moment answer) s) legal.2
mark-last plant (Broke session commands others ∷ xs) y ys s legal = absurd (never-nil xs y ys legal.1)

pub deeds-run : (plant : List Actuator) (xs : List Entry) (s : State) → run plant (deeds xs) s ≡ run plant xs s
deeds-run plant [] s = refl
deeds-run plant (Did session command moment answer ∷ xs) s = deeds-run plant xs (after_entry plant (Did session command moment answer) s)
deeds-run plant (Broke session commands others ∷ xs) s = deeds-run plant xs s

pub deeds-events : (plant : List Actuator) (xs : List Entry) (s : State) → events plant (deeds xs) s ≡ events plant xs s
deeds-events plant [] s = refl
deeds-events plant (Did session command moment answer ∷ xs) s =
    ap (if_event (events_of_entry plant (Did session command moment answer) s)) (deeds-events plant xs (after_entry plant (Did session command moment answer) s))
deeds-events plant (Broke session commands others ∷ xs) s = deeds-events plant xs s
