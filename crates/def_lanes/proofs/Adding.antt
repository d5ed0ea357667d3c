-- What a call added in one lane: nothing, as another call says it, and two calls one after the other.
use Rattle.std.proofs.Common.{◌≡◌, ℕ, List, [], ◌++◌, refl, sym, ◌∙◌}
use Rattle.std.proofs.lemmas.List.{append-nil}
use Rattle.boss_model.specs.declared.state.Actuator.{Actuator}
use Rattle.def_history.specs.declared.entry.Entry.{Entry}
use Rattle.def_history.specs.History.{deeds}
use Rattle.def_lanes.specs.Lanes.{Lane, lane_of}
use Rattle.def_lanes.specs.Parts.{Added, AreTimed}
use Rattle.def_lanes.proofs.Choices.{joined-append}
use Rattle.def_lanes.proofs.Lists.{each-append}
use Rattle.def_lanes.proofs.PartLemmas.{timed-joined, more_behind}

module _ (plant : List Actuator) (lane : Lane) (clocking : Type 0) where
  pub added-nothing : (says : List Entry → Type 0) (old new : List Entry) (given given' gains : List ℕ) → deeds new ≡ deeds old → says [] →
      (clocking → given' ≡ given ++ gains) → Added plant lane says clocking gains old new given given'
  added-nothing says old new given given' gains same said gave = record {
    more = [];
    grew = same ∙ sym (append-nil (deeds old));
    of_lane = tt;
    agrees = said;
    gave = gave;
    timed = refl;
  }

  pub added-says : (moments : List ℕ) (says asked : List Entry → Type 0) → ((more : List Entry) → AreTimed moments more → says more → asked more) → (old new : List Entry) (given given' : List ℕ) →
      Added plant lane says clocking moments old new given given' → Added plant lane asked clocking moments old new given given'
  added-says moments says asked then old new given given' added = record {
    more = added.more;
    grew = added.grew;
    of_lane = added.of_lane;
    agrees = then added.more added.timed added.agrees;
    gave = added.gave;
    timed = added.timed;
  }

  pub added-then : (moments later : List ℕ) (first then both : List Entry → Type 0) → ((xs ys : List Entry) → first xs → then ys → both (xs ++ ys)) →
      (old mid new : List Entry) (given given' given'' : List ℕ) → Added plant lane first clocking moments old mid given given' →
      Added plant lane then clocking later mid new given' given'' → Added plant lane both clocking (moments ++ later) old new given given''
  added-then moments later first then both together old mid new given given' given'' one other = record {
    more = one.more ++ other.more;
    grew = more_behind (deeds new) (deeds old) (deeds mid) one.more other.more one.grew other.grew;
    of_lane = each-append (λ entry. lane_of plant entry ≡ lane) one.more other.more one.of_lane other.of_lane;
    agrees = together one.more other.more one.agrees other.agrees;
    gave = λ told. more_behind given'' given given' moments later (one.gave told) (other.gave told);
    timed = timed-joined moments later one.more other.more (one.more ++ other.more) (joined-append one.more other.more) one.timed other.timed;
  }
