-- The states that the fronts of a history lead to.
use Rattle.std.proofs.Common.{◌≡◌, ℕ, ◌+◌, List, [], ◌∷◌, ◌++◌, length, take, Option, Some, None, refl, sym, ap, ◌∙◌, arith, append_assoc, length-append}
use Rattle.std.specs.List.{fold, AllByRecursion}
use Rattle.std.proofs.lemmas.List.{take_at}
use Rattle.std.proofs.lemmas.List.Folds.{fold_stays}
use Rattle.std.proofs.lemmas.List.Sums.{fold-append}
use Rattle.boss_model.specs.declared.event.Event.{Event}
use Rattle.boss_model.specs.declared.state.Actuator.{Actuator}
use Rattle.boss_model.specs.Acts.{replay, replay_next}
use Rattle.boss_model.specs.Run.{replay_all}
use Rattle.boss_model.specs.State.{Persistent, first_persistent}
use Rattle.def_feed.specs.Histories.{IsAfter, IsHistory}

module _ (plant : List Actuator) where
  -- events that lead somewhere begin with one that does
  first-leads : (d end : Persistent) (e : Event) (events : List Event) (found : Option Persistent) → replay plant e d ≡ found →
      fold (replay_next plant) found events ≡ Some end → (after : Persistent) × (replay plant e d ≡ Some after)
  first-leads d end e events None is leads =
      let no : ◌≡◌ {A = Option Persistent} None (Some end) = sym (fold_stays (replay_next plant) None (λ x. refl) events) ∙ leads in absurd cc
  first-leads d end e events (Some after) is leads = (after, is)

  module _ (history : List Event) where
    -- the state after a front of the history
    leads-to : (front rest : List Event) (count : ℕ) (d : Persistent) → history ≡ front ++ rest → length front ≡ count → IsAfter plant history count d →
        replay_all plant first_persistent front ≡ Some d
    leads-to front rest count d is long after =
        let begins : take count history ≡ front = ap (take count) is ∙ take_at front rest count long in
        ap (replay_all plant first_persistent) (sym begins) ∙ after.leads

    after-front : (front rest : List Event) (count : ℕ) (d : Persistent) → history ≡ front ++ rest → length front ≡ count → replay_all plant first_persistent front ≡ Some d →
        IsAfter plant history count d
    after-front front rest count d is long leads =
        let begins : take count history ≡ front = ap (take count) is ∙ take_at front rest count long in
        let all : length history ≡ length front + length rest = ap length is ∙ length-append front rest in
        record { within = omega arith; leads = ap (replay_all plant first_persistent) begins ∙ leads }

    -- one event more
    pub one-more : IsHistory plant history → (front rest : List Event) (e : Event) (count : ℕ) (d : Persistent) → history ≡ front ++ e ∷ rest → length front ≡ count →
        IsAfter plant history count d → (after : Persistent) × (replay plant e d ≡ Some after) × IsAfter plant history (count + 1) after
    one-more whole front rest e count d is long now =
        let here : replay_all plant first_persistent front ≡ Some d = leads-to front (e ∷ rest) count d is long now in
        let onward : fold (replay_next plant) (replay plant e d) rest ≡ Some whole.end =
        ap (λ found. fold (replay_next plant) found (e ∷ rest)) (sym here) ∙ sym (fold-append (replay_next plant) (Some first_persistent) front (e ∷ rest))
        ∙ ap (replay_all plant first_persistent) (sym is) ∙ whole.leads in
        let next = first-leads d whole.end e rest (replay plant e d) refl onward in
        let longer : history ≡ (front ++ e ∷ []) ++ rest = is ∙ sym (append_assoc front (e ∷ []) rest) in
        let many : length (front ++ e ∷ []) ≡ count + 1 = omega (arith, length-append front (e ∷ [])) in
        let there : replay_all plant first_persistent (front ++ e ∷ []) ≡ Some next.0 =
        fold-append (replay_next plant) (Some first_persistent) front (e ∷ []) ∙ ap (λ found. replay_next plant found e) here ∙ next.1 in
        (next.0, next.1, after-front (front ++ e ∷ []) rest (count + 1) next.0 longer many there)

-- what holds of each event of a history, of one of them
pub at-front : (P : Event → Type 0) (front rest : List Event) (e : Event) → AllByRecursion P (front ++ e ∷ rest) → P e
at-front P [] rest e all = all.0
at-front P (x ∷ front) rest e all = at-front P front rest e all.1
