-- A journal that opens cleanly is opened at what it opens to.
use Rattle.std.proofs.Common.{◌≡◌, ℕ, ◌+◌, ◌<◌, min, List, [], length, refl, ap, ◌∙◌, arith}
use Rattle.def_log.specs.InForce.{InForce, Foreign, Neither, First, Second}
use Rattle.def_log.specs.Kinds.{kind_of, in_force}
use Rattle.boss_model.specs.declared.event.Event.{Event}
use Rattle.boss_model.specs.declared.state.Actuator.{Actuator}
use Rattle.boss_model.specs.Limits.{last_number}
use Rattle.boss_model.specs.Settle.{opened}
use Rattle.boss_model.specs.State.{Persistent, State, first_persistent}
use Rattle.boss_opening.specs.Opens.{OpenedAt}
use Rattle.def_disk_pair.specs.Contents.{joined, HoldsCleanly}
use Rattle.def_disk_pair.specs.Pairs.{HasEvents, IsNew, OfThatInForce, OpensCleanly}
use Rattle.def_disk_pair.proofs.Disks.{clean_opens, opens_to_one, stands_for_one}
use Rattle.boss_disk_pair.specs.Images.{OpensTo}

module _ (plant : List Actuator) (digest : List ℕ) (d : Persistent) (count : ℕ) (first second : List ℕ) where
  -- what stands on a clean pair has as many events
  abbrev Counted : (i : InForce) → Type 0
  Counted i = (from : Persistent) × (before : ℕ) × (events : List Event)
      × OfThatInForce (HasEvents plant digest from before events) (λ bytes. IsNew bytes × (from ≡ first_persistent) × (before ≡ 0) × (events ≡ [])) i first second
      × (count ≡ before + length events)

  counted-so : (i : InForce) → OfThatInForce (HoldsCleanly plant digest d count) (λ bytes. IsNew bytes × (d ≡ first_persistent) × (count ≡ 0)) i first second → Counted i
  counted-so Foreign it = absurd it
  counted-so Neither it = (first_persistent, 0, [], (it.0, refl, refl, refl), it.2)
  counted-so First it = (it.from, it.before, joined it.batches, (it.batches, d, it.held, refl), it.counted)
  counted-so Second it = (it.from, it.before, joined it.batches, (it.batches, d, it.held, refl), it.counted)

  pub number-so : (s : State) (number : ℕ) → count < last_number → OpensCleanly plant digest d count first second → OpenedAt plant digest first second s number → number ≡ count
  number-so s number few clean at =
      let so = counted-so (in_force (kind_of first) (kind_of second)) clean in
      let same = stands_for_one plant digest first second so.0 at.from so.1 at.before so.2 at.events so.3 at.stands in
      let counts : count ≡ at.before + length at.events = so.4 ∙ ap (λ n. n + length so.2) same.1 ∙ ap (λ es. at.before + length es) same.2 in
      let number_is : number ≡ min (at.before + length at.events) last_number = at.number_is in
      omega arith

pub state-so : (plant : List Actuator) (digest : List ℕ) (d : Persistent) (first second : List ℕ) (s : State) (number : ℕ) → OpensTo plant digest d first second → OpenedAt plant digest first second s number →
    s ≡ opened plant d
state-so plant digest d first second s number to at =
    let same : at.lasting ≡ d = opens_to_one plant digest first second at.lasting d (at.from, at.before, at.events, at.stands, at.leads) (clean_opens plant digest first second d to.0 to.1) in
    at.state_is ∙ ap (opened plant) same
