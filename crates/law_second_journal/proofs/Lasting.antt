-- What a journal is opened at is sound: what its disk starts from is, and each of its events keeps it so.
use Rattle.std.proofs.Common.{◌≡◌, ℕ, true, List, [], ◌∷◌, ◌++◌, Option, Some, None, inl, inr, refl, sym, subst}
use Rattle.std.specs.Prelude.{fold}
use Rattle.std.specs.List.{AllByRecursion}
use Rattle.boss_model.specs.declared.event.Event.{Event}
use Rattle.boss_model.specs.declared.state.Actuator.{Actuator}
use Rattle.boss_model.specs.Acts.{replay, replay_next}
use Rattle.boss_model.specs.Run.{replay_all}
use Rattle.boss_model.specs.Settle.{opened}
use Rattle.boss_model.specs.Sound.{IsSound, IsSoundPersistent}
use Rattle.boss_model.specs.State.{Persistent, State, first_persistent}
use Rattle.def_bytes.specs.Batches.{IsBatch}
use Rattle.def_bytes.specs.Events.{event}
use Rattle.def_log.specs.InForce.{InForce, Foreign, Neither, First, Second}
use Rattle.def_log.specs.Kinds.{kind_of, in_force}
use Rattle.def_disk_pair.specs.Contents.{joined}
use Rattle.def_disk_pair.specs.Fronts.{IsFront}
use Rattle.def_disk_pair.specs.Pairs.{HasEvents, IsNew, OfThatInForce}
use Rattle.law_soundness.proofs.Opened.{first-sound, opened-sound}
use Rattle.law_effects.proofs.Redone.{replay-sound}
use Rattle.boss_opening.specs.Opens.{OpenedAt}
use Rattle.boss_bounds.proofs.Spellings.{effective-modest, event-spelled}

abbrev Fit : List Event → Type 0
Fit events = AllByRecursion (λ e. event.fits e ≡ true) events

-- ---- events that can be spelled, one after another

none-stays : (plant : List Actuator) (es : List Event) (to : Persistent) → fold (replay_next plant) None es ≡ Some to → ⊥
none-stays plant [] to is = cc
none-stays plant (e ∷ es) to is = none-stays plant es to is

each-sound : (plant : List Actuator) (es : List Event) (from to : Persistent) → IsSoundPersistent plant from → Fit es → replay_all plant from es ≡ Some to → IsSoundPersistent plant to
each-sound plant [] from to sound fit is = let same : from ≡ to = cc in subst (IsSoundPersistent plant) same sound
each-sound plant (e ∷ es) from to sound fit is = by (λ next then rest. each-sound plant es next to then fit.1 rest) (replay plant e from) refl is
  where
    by : ((next : Persistent) → IsSoundPersistent plant next → replay_all plant next es ≡ Some to → IsSoundPersistent plant to) →
        (found : Option Persistent) → replay plant e from ≡ found → fold (replay_next plant) found es ≡ Some to → IsSoundPersistent plant to
    by others None none rest = absurd (none-stays plant es to rest)
    by others (Some next) led rest =
        let spelled = event-spelled e fit.0 (effective-modest plant e from next sound led) in
        others next (replay-sound plant e from sound spelled.moment next spelled.act led) rest

both-fit : (xs ys : List Event) → Fit xs → Fit ys → Fit (xs ++ ys)
both-fit [] ys fit too = too
both-fit (x ∷ xs) ys fit too = (fit.0, both-fit xs ys fit.1 too)

batches-fit : (batches : List (List Event)) → AllByRecursion IsBatch batches → Fit (joined batches)
batches-fit [] are = tt
batches-fit (batch ∷ batches) are = both-fit batch (joined batches) are.0.fitting (batches-fit batches are.1)

-- ---- what a pair stands for

module _ (plant : List Actuator) (digest : List ℕ) (from : Persistent) (before : ℕ) (events : List Event) where
  abbrev Begins : Type 0
  Begins = IsSoundPersistent plant from × Fit events

  front-sound : (version : ℕ) (front : List ℕ) → IsFront plant digest version from before front → IsSoundPersistent plant from
  front-sound version front (inl plain) = subst (IsSoundPersistent plant) (sym plain.first_state) (first-sound plant)
  front-sound version front (inr kept) = kept.1.sound

  of-disk : (bytes : List ℕ) → HasEvents plant digest from before events bytes → Begins
  of-disk bytes has = (
    front-sound has.2.version has.2.front has.2.course.is_front,
    subst Fit (sym has.3) (batches-fit has.0 has.2.course.each),
  )

  of-new : (from ≡ first_persistent) × (events ≡ []) → Begins
  of-new is = (subst (IsSoundPersistent plant) (sym is.0) (first-sound plant), subst Fit (sym is.1) tt)

  of-pair : (i : InForce) (first second : List ℕ) →
      OfThatInForce (HasEvents plant digest from before events) (λ bytes. IsNew bytes × (from ≡ first_persistent) × (before ≡ 0) × (events ≡ [])) i first second → Begins
  of-pair Foreign first second it = absurd it
  of-pair Neither first second it = of-new (it.1, it.3)
  of-pair First first second it = of-disk first it
  of-pair Second first second it = of-disk second it

pub opened-at-sound : (plant : List Actuator) (digest first second : List ℕ) (s : State) (number : ℕ) → OpenedAt plant digest first second s number → IsSound plant s
opened-at-sound plant digest first second s number at =
    let begins = of-pair plant digest at.from at.before at.events (in_force (kind_of first) (kind_of second)) first second at.stands in
    subst (IsSound plant) (sym at.state_is) (opened-sound plant at.lasting (each-sound plant at.events at.from at.lasting begins.0 begins.1 at.leads))
