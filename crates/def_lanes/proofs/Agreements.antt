-- Works agree with the entries of their lanes, also after a join.
use Rattle.std.proofs.Common.{◌≡◌, List, [], ◌∷◌, ◌++◌, refl, ap, sym, ◌∙◌, subst}
use Rattle.std.specs.List.{AllByRecursion, filter}
use Rattle.std.proofs.lemmas.Bool.{cond-true, cond-false, false_from_ne_true}
use Rattle.boss_model.specs.declared.state.Actuator.{Actuator}
use Rattle.def_history.specs.declared.entry.Entry.{Entry}
use Rattle.def_history.specs.History.{deeds}
use Rattle.def_lanes.specs.Lanes.{Lane, lane_of, is_lane, in_lane, done_in}
use Rattle.def_lanes.specs.Parts.{Joined, Agreed}
use Rattle.def_lanes.specs.Works.{Work, lane_of_work, IsAbsent, AreStrange}
use Rattle.def_lanes.proofs.Lists.{each-append, each-parts, each-both}
use Rattle.def_lanes.proofs.Owners.{is_lane-self, same-lane, strange-turned, apart-append}

module _ (plant : List Actuator) (says : Work → List Entry → Type 0) where
  pub agreed-both : (old other new : List Entry) (xs ys : List Work) → Agreed plant says old xs → Agreed plant says other ys → Joined old other new → AreStrange xs ys →
      Agreed plant says new (xs ++ ys)
  agreed-both old other new xs ys first then join strange = record {
    each = each-append (λ x. says x (done_in plant (lane_of_work x) new)) xs ys
        (each-both (λ x. says x (done_in plant (lane_of_work x) old)) (λ x. IsAbsent (lane_of_work x) ys) (λ x. says x (done_in plant (lane_of_work x) new))
        (λ x said absent. subst (says x) (sym (join.kept (in_lane plant (lane_of_work x)) (then.none (lane_of_work x) absent))) said) xs first.each strange)
        (each-both (λ y. says y (done_in plant (lane_of_work y) other)) (λ y. IsAbsent (lane_of_work y) xs) (λ y. says y (done_in plant (lane_of_work y) new))
        (λ y said absent. subst (says y) (sym (join.taken_in (in_lane plant (lane_of_work y)) (first.none (lane_of_work y) absent))) said) ys then.each (strange-turned xs ys strange));
    none = λ lane absent. let apart = each-parts (λ work. ¬ (lane_of_work work ≡ lane)) xs ys absent in
        join.kept (in_lane plant lane) (then.none lane apart.1) ∙ first.none lane apart.0;
    apart = apart-append xs ys first.apart then.apart strange;
  }

  pub agreed-nothing : (entries : List Entry) → deeds entries ≡ [] → Agreed plant says entries []
  agreed-nothing entries none = record { each = tt; none = λ lane absent. ap (filter (in_lane plant lane)) none; apart = tt }

-- all entries of one lane are in it, and in no other
pub all-in : (plant : List Actuator) (lane : Lane) (entries : List Entry) → AllByRecursion (λ entry. lane_of plant entry ≡ lane) entries → filter (in_lane plant lane) entries ≡ entries
all-in plant lane [] all = refl
all-in plant lane (entry ∷ entries) all =
    cond-true (in_lane plant lane entry) (entry ∷ filter (in_lane plant lane) entries) (filter (in_lane plant lane) entries) (ap (is_lane lane) all.0 ∙ is_lane-self lane)
    ∙ ap (λ rest. entry ∷ rest) (all-in plant lane entries all.1)

pub none-in : (plant : List Actuator) (lane other : Lane) → ¬ (lane ≡ other) → (entries : List Entry) → AllByRecursion (λ entry. lane_of plant entry ≡ lane) entries →
    filter (in_lane plant other) entries ≡ []
none-in plant lane other differ [] all = refl
none-in plant lane other differ (entry ∷ entries) all =
    cond-false (in_lane plant other entry) (entry ∷ filter (in_lane plant other) entries) (filter (in_lane plant other) entries)
    (false_from_ne_true (in_lane plant other entry) (λ is. differ (sym (same-lane other (lane_of plant entry) is ∙ all.0))))
    ∙ none-in plant lane other differ entries all.1

-- what was done in one lane is all that its work is asked for
pub agreed-one : (plant : List Actuator) (says : Work → List Entry → Type 0) (work : Work) (entries : List Entry) → deeds entries ≡ entries →
    AllByRecursion (λ entry. lane_of plant entry ≡ lane_of_work work) entries → says work entries → Agreed plant says entries (work ∷ [])
agreed-one plant says work entries whole of_lane said = record {
  each = (subst (says work) (sym (ap (filter (in_lane plant (lane_of_work work))) whole ∙ all-in plant (lane_of_work work) entries of_lane)) said, tt);
  none = λ lane absent. ap (filter (in_lane plant lane)) whole ∙ none-in plant (lane_of_work work) lane absent.0 entries of_lane;
  apart = (tt, tt);
}
