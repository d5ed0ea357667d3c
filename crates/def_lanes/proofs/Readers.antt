-- What a reader takes from works that agree with a history.
use Rattle.std.proofs.Common.{◌≡◌, inl, inr, ℕ, Bool, true, false, cond, List, [], ◌∷◌, refl, ap, ◌∙◌}
use Rattle.std.specs.List.{AllByRecursion, filter}
use Rattle.std.proofs.lemmas.Bool.{cases_Bool, or_parts, both_ways}
use Rattle.boss_model.specs.declared.state.Actuator.{Actuator}
use Rattle.def_history.specs.declared.entry.Entry.{Entry}
use Rattle.def_history.specs.History.{deeds}
use Rattle.def_lanes.specs.Lanes.{Lane, of_session, of_nobody, lane_of, is_lane, in_lane}
use Rattle.def_lanes.specs.Parts.{Agreed}
use Rattle.def_lanes.specs.Works.{Work, visit, beat, drive, lane_of_work, IsAbsent, AreApart, served_in, HaveOwnSessions, is_done_by}
use Rattle.def_lanes.proofs.Lists.{each-map}
use Rattle.def_lanes.proofs.Owners.{is_lane-self}

-- ---- nothing was done that is no work

pub nobody-absent : (works : List Work) → IsAbsent of_nobody works
nobody-absent [] = tt
nobody-absent (visit served course ∷ works) = ((λ is. cc), nobody-absent works)
nobody-absent (beat waited course ∷ works) = ((λ is. cc), nobody-absent works)
nobody-absent (drive driver calls waited course ∷ works) = ((λ is. cc), nobody-absent works)

none-passes : {X : Type 0} (test : X → Bool) (xs : List X) → filter test xs ≡ [] → AllByRecursion (λ x. test x ≡ false) xs
none-passes test [] none = tt
none-passes test (x ∷ xs) none = let both = none-step (test x) x (filter test xs) none in (both.0, none-passes test xs both.1)
  where
    none-step : {X : Type 0} (b : Bool) (x : X) (ys : List X) → cond b (x ∷ ys) ys ≡ [] → (b ≡ false) × (ys ≡ [])
    none-step true x ys none = absurd cc
    none-step false x ys none = (refl, none)

-- what holds of each item for every index
each-every : {X I : Type 0} (P : I → X → Type 0) (xs : List X) → ((i : I) → AllByRecursion (P i) xs) → AllByRecursion (λ x. (i : I) → P i x) xs
each-every P [] all = tt
each-every P (x ∷ xs) all = ((λ i. (all i).0), each-every P xs (λ i. (all i).1))

not-done : (lane : Lane) (works : List Work) → is_done_by works lane ≡ false → IsAbsent lane works
not-done lane [] none = tt
not-done lane (work ∷ works) none =
    let parts = or_parts (is_lane lane (lane_of_work work)) (is_done_by works lane) none in
    ((λ is. both_ways (is_lane lane (lane_of_work work)) parts.0 (ap (is_lane lane) is ∙ is_lane-self lane)), not-done lane works parts.1)

done-step : (plant : List Actuator) (works : List Work) (entry : Entry) →
    ((nobody : (lane : Lane) × (is_done_by works lane ≡ false)) → in_lane plant nobody.0 entry ≡ false) → is_done_by works (lane_of plant entry) ≡ true
done-step plant works entry others = elim (cases_Bool (is_done_by works (lane_of plant entry))) [
  | inl is ↦ is
  | inr other ↦ absurd (both_ways (in_lane plant (lane_of plant entry) entry) (others (lane_of plant entry, other)) (is_lane-self (lane_of plant entry)))
]

-- all that was done was done by one of the works
pub all-done : (plant : List Actuator) (says : Work → List Entry → Type 0) (entries : List Entry) (works : List Work) → Agreed plant says entries works →
    AllByRecursion (λ entry. is_done_by works (lane_of plant entry) ≡ true) (deeds entries)
all-done plant says entries works agreed =
    each-map (λ entry. (nobody : (lane : Lane) × (is_done_by works lane ≡ false)) → in_lane plant nobody.0 entry ≡ false) (λ entry. is_done_by works (lane_of plant entry) ≡ true)
    (done-step plant works) (deeds entries)
    (each-every (λ (nobody : (lane : Lane) × (is_done_by works lane ≡ false)) entry. in_lane plant nobody.0 entry ≡ false) (deeds entries)
    (λ nobody. none-passes (in_lane plant nobody.0) (deeds entries) (agreed.none nobody.0 (not-done nobody.0 works nobody.1))))

-- ---- each connection has a session of its own

others-sessions : (session : ℕ) (works : List Work) → IsAbsent (of_session session) works → AllByRecursion (λ other. ¬ (other.session ≡ session)) (served_in works)
others-sessions session [] absent = tt
others-sessions session (visit served course ∷ works) absent = ((λ same. absent.0 (ap of_session same)), others-sessions session works absent.1)
others-sessions session (beat waited course ∷ works) absent = others-sessions session works absent.1
others-sessions session (drive driver calls waited course ∷ works) absent = others-sessions session works absent.1

pub own-sessions : (works : List Work) → AreApart works → HaveOwnSessions (served_in works)
own-sessions [] apart = tt
own-sessions (visit served course ∷ works) apart = (others-sessions served.session works apart.0, own-sessions works apart.1)
own-sessions (beat waited course ∷ works) apart = own-sessions works apart.1
own-sessions (drive driver calls waited course ∷ works) apart = own-sessions works apart.1
