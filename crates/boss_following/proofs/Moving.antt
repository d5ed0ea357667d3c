-- What is owed for a step.
use Rattle.std.proofs.Common.{◌≡◌, inl, inr, ◌⊎◌, ℕ, zero, suc, ◌+◌, ◌≤◌, Bool, true, false, List, [], ◌∷◌, ◌++◌, length, Option, Some, None, Result, Ok, Err, refl, sym, ap, ◌∙◌, subst, arith}
use Rattle.std.specs.Prelude.{unwrap_or}
use Rattle.boss_disk.specs.declared.disk.Disk as disk
use Rattle.boss_disk_pair.specs.Causes.{Counts, counts_of}
use Rattle.boss_disk_pair.specs.Rests.{counted}
use Rattle.boss_durable.specs.declared.durable.Durable.{Durable}
use Rattle.boss_durable.specs.declared.followed.Followed.{Followed}
use Rattle.boss_durable.specs.declared.followed.Followed.TheVariants as followed
use Rattle.boss_durable.specs.Followed.{CountsFollowed, FollowedCause, Follows, has_failed, may_last, Takes, was_stopped}
use Rattle.boss_durable.specs.Redone.{after}
use Rattle.boss_durable.specs.Words.{keeps, lasting, passes}
use Rattle.boss_durable.proofs.Doing.{keeps_passes}
use Rattle.boss_following.specs.declared.following.Following.{Following}
use Rattle.boss_following.specs.declared.place.Place.TheVariants.{Between}
use Rattle.boss_following.specs.declared.stop.Stop.{Stop}
use Rattle.boss_following.specs.declared.stop.Stop.TheVariants.{Gap, BadLine, DiskFault, NoMemory}
use Rattle.boss_following.specs.Moves.{done_by, is_disk_fault, IsKept, MayLast, StepCause, Steps}
use Rattle.boss_following.specs.Places.{place_of, spot}
use Rattle.boss_following.specs.Steps.{Made, Moves}
use Rattle.boss_following.proofs.Bytes.{one-made, one-kept}
use Rattle.boss_model.specs.Acts.{replay}
use Rattle.boss_model.specs.declared.event.Act.TheVariants.{Tick}
use Rattle.boss_model.specs.declared.event.Event.{Event}
use Rattle.boss_model.specs.declared.state.Actuator.{Actuator}
use Rattle.boss_model.specs.Limits.{last_number}
use Rattle.boss_model.specs.Sound.{IsSoundPersistent}
use Rattle.boss_model.specs.State.{Persistent}
use Rattle.boss_snapshot.specs.Spells.{SpellsState}
use Rattle.def_bytes.specs.Events.{event}
use Rattle.def_feed.specs.Followers.{between, Follower, IsState, Next, Step, Whole}

clash : {A : Type 0} (b : Bool) → b ≡ true → b ≡ false → A
clash b on off = let both : true ≡ false = sym on ∙ off in absurd cc

-- ---- what an answer of the journal comes to

still-cause : (before now : Counts) (result : Result Unit Stop) → is_disk_fault result ≡ false → now ≡ before → StepCause before now result
still-cause before now (Ok done) fine same = same
still-cause before now (Err (Gap have found)) fine same = same
still-cause before now (Err BadLine) fine same = same
still-cause before now (Err DiskFault) fine same = clash true refl fine
still-cause before now (Err NoMemory) fine same = same

done-cause : (before now : Counts) (answer : Followed) → was_stopped answer ≡ false → FollowedCause before now answer → StepCause before now (done_by answer)
done-cause before now followed.Done tried cause = cause
done-cause before now followed.NotEffective tried cause = cause
done-cause before now followed.NotSound tried cause = cause
done-cause before now followed.Stopped tried cause = clash true refl tried
done-cause before now followed.DiskFault tried cause = cause
done-cause before now followed.NoMemory tried cause = cause

done-stops : (answer : Followed) → is_disk_fault (done_by answer) ≡ has_failed answer
done-stops followed.Done = refl
done-stops followed.NotEffective = refl
done-stops followed.NotSound = refl
done-stops followed.Stopped = refl
done-stops followed.DiskFault = refl
done-stops followed.NoMemory = refl

many-events : (n : ℕ) → (events : List Event) × (length events ≡ n)
many-events zero = ([], refl)
many-events (suc n) = let more = many-events n in (record { moment = 0; act = Tick } ∷ more.0, ap suc more.1)

module _ {D : Type 0} {g : disk.Ghosts D} where
  -- ---- the journal was not touched

  pub idle : (plant : List Actuator) (step : Step) (durable : Durable D g) (from to : Following) (result : Result Unit Stop) → durable.disks.stopped ≡ false →
      is_disk_fault result ≡ false → Moves plant (spot durable from) step (spot durable to) result → Steps plant step durable from durable to result
  idle plant step durable from to result going fine moves = record {
    moves = moves;
    keeps_on = λ before held still. (before, held);
    images = λ before held. (lasting durable, keeps_passes durable before held, inl refl);
    cause = still-cause (counts_of durable.disks) (counts_of durable.disks) result fine refl;
    stops = going ∙ sym fine;
    same_plant = refl;
    limit = refl;
    digest = refl;
  }

  -- ---- an event

  -- what lasts and what is known are as they were
  as-before : (old new : Durable D g) → new.engine ≡ old.engine → new.disks.events ≡ old.disks.events → (lasting new ≡ lasting old) × (new.disks.events ≡ old.disks.events)
  as-before old new same count = (ap (λ r. r.state.persistent) same, count)

  module _ (old new : Durable D g) (from to : Following) (e : Event) (bytes : List ℕ) (fits : event.fits e ≡ true) (is : bytes ≡ event.text e)
      (there : to.place ≡ Between) (few : old.disks.events + 1 ≤ last_number) where
    event-moves : (answer : Followed) → was_stopped answer ≡ false → CountsFollowed old.disks.events new.disks.events answer → Follows old new e answer →
        Moves old.engine.plant (spot old from) (Next bytes) (spot new to) (done_by answer)
    event-moves followed.Done tried count follows = (
      lasting new,
      record { made = e; fits = fits; spelled = is; leads = follows.leads },
      let one : new.disks.events ≡ old.disks.events + 1 = omega (arith, count, few) in
          λ i. record { lasting = lasting new; count = one i; place = place_of (there i) to.state.items },
    )
    event-moves followed.NotEffective tried count follows = (
      (λ d led. let same = one-made e led.made bytes fits led.fits is led.spelled in
          let none : Some d ≡ None = sym led.leads ∙ ap (λ x. replay old.engine.plant x (lasting old)) (sym same) ∙ follows.0 in absurd cc),
      as-before old new follows.1.engine count,
    )
    event-moves followed.NotSound tried count follows = absurd follows
    event-moves followed.Stopped tried count follows = clash true refl tried
    event-moves followed.DiskFault tried count follows = (tt, tt)
    event-moves followed.NoMemory tried count follows = (tt, as-before old new follows.engine count)

    event-keeps : (answer : Followed) → Follows old new e answer → (before : List Event) → keeps old before → is_disk_fault (done_by answer) ≡ false → IsKept new
    event-keeps followed.Done follows before held fine = (before ++ e ∷ [], follows.gained before held)
    event-keeps followed.NotEffective follows before held fine = (before, follows.1.stays before held)
    event-keeps followed.NotSound follows before held fine = absurd follows
    event-keeps followed.Stopped follows before held fine = clash true refl fine
    event-keeps followed.DiskFault follows before held fine = clash true refl fine
    event-keeps followed.NoMemory follows before held fine = (before, follows.stays before held)

    -- what may last of an event
    event-may : passes old new (lasting old) (after old.engine.plant e (lasting old)) → MayLast old.engine.plant (spot old from) (Next bytes) old new
    event-may run = (after old.engine.plant e (lasting old), run, by (replay old.engine.plant e (lasting old)) refl)
      where
        by : (led : Option Persistent) → replay old.engine.plant e (lasting old) ≡ led →
            (unwrap_or (replay old.engine.plant e (lasting old)) (lasting old) ≡ lasting old)
            ⊎ ((next : Follower) × Made old.engine.plant (spot old from) (Next bytes) next × (unwrap_or (replay old.engine.plant e (lasting old)) (lasting old) ≡ next.lasting))
        by None led = inl (ap (λ found. unwrap_or found (lasting old)) led)
        by (Some d) led = inr (
          between d (old.disks.events + 1),
          (d, record { made = e; fits = fits; spelled = is; leads = led }, refl),
          ap (λ found. unwrap_or found (lasting old)) led,
        )

    event-images : (answer : Followed) → passes old new (lasting old) (may_last answer (lasting old) (after old.engine.plant e (lasting old))) →
        MayLast old.engine.plant (spot old from) (Next bytes) old new
    event-images followed.Done run = event-may run
    event-images followed.NotEffective run = (lasting old, run, inl refl)
    event-images followed.NotSound run = (lasting old, run, inl refl)
    event-images followed.Stopped run = (lasting old, run, inl refl)
    event-images followed.DiskFault run = event-may run
    event-images followed.NoMemory run = (lasting old, run, inl refl)

    pub event-steps : (answer : Followed) → was_stopped answer ≡ false → CountsFollowed old.disks.events new.disks.events answer → Follows old new e answer →
        ((before : List Event) → keeps old before → passes old new (lasting old) (may_last answer (lasting old) (after old.engine.plant e (lasting old)))) →
        FollowedCause (counts_of old.disks) (counts_of new.disks) answer → has_failed answer ≡ new.disks.stopped →
        new.engine.plant ≡ old.engine.plant → new.log_limit ≡ old.log_limit → new.disks.digest ≡ old.disks.digest →
        Steps old.engine.plant (Next bytes) old from new to (done_by answer)
    event-steps answer tried count follows runs cause stops plant limit digest = record {
      moves = event-moves answer tried count follows;
      keeps_on = event-keeps answer follows;
      images = λ before held. event-images answer (runs before held);
      cause = done-cause (counts_of old.disks) (counts_of new.disks) answer tried cause;
      stops = sym (done-stops answer ∙ stops);
      same_plant = plant;
      limit = limit;
      digest = digest;
    }

  -- ---- a state

  module _ (old new : Durable D g) (from to : Following) (d : Persistent) (number : ℕ) (bytes : List ℕ) (spells : SpellsState 2 d bytes)
      (there : to.place ≡ Between) (few : number ≤ last_number) where
    is-state : IsSoundPersistent old.engine.plant d → IsState old.engine.plant bytes d
    is-state sound = record { fits = spells.fits; spelled = spells.is; sound = sound }

    state-moves : (answer : Followed) → was_stopped answer ≡ false → (answer ≡ followed.Done → new.disks.events ≡ number) → Takes old new d number answer →
        Moves old.engine.plant (spot old from) (Whole number bytes) (spot new to) (done_by answer)
    state-moves followed.Done tried count takes = (
      d,
      is-state takes.sound,
      let all = count refl in
          λ i. record { lasting = (takes.opens i).state.persistent; count = all i; place = place_of (there i) to.state.items },
    )
    state-moves followed.NotEffective tried count takes = absurd takes
    state-moves followed.NotSound tried count takes = (
      (λ other state. takes.0 (subst (IsSoundPersistent old.engine.plant) (one-kept other d bytes state.fits spells.fits state.spelled spells.is) state.sound)),
      (ap (λ (x : Durable D g). lasting x) takes.1, ap (λ (x : Durable D g). x.disks.events) takes.1),
    )
    state-moves followed.Stopped tried count takes = clash true refl tried
    state-moves followed.DiskFault tried count takes = (tt, tt)
    state-moves followed.NoMemory tried count takes = (tt, (ap (λ (x : Durable D g). lasting x) takes, ap (λ (x : Durable D g). x.disks.events) takes))

    state-keeps : (answer : Followed) → Takes old new d number answer → (before : List Event) → keeps old before → is_disk_fault (done_by answer) ≡ false → IsKept new
    state-keeps followed.Done takes before held fine =
        let any = many-events number in
        let same : counted (length any.0) ≡ number = omega (arith, any.1, few) in
        (any.0, takes.gained before any.0 held same)
    state-keeps followed.NotEffective takes before held fine = absurd takes
    state-keeps followed.NotSound takes before held fine = (before, subst (λ (x : Durable D g). keeps x before) (sym takes.1) held)
    state-keeps followed.Stopped takes before held fine = clash true refl fine
    state-keeps followed.DiskFault takes before held fine = clash true refl fine
    state-keeps followed.NoMemory takes before held fine = (before, subst (λ (x : Durable D g). keeps x before) (sym takes) held)

    -- what may last of a state
    state-may : IsSoundPersistent old.engine.plant d → passes old new (lasting old) d → MayLast old.engine.plant (spot old from) (Whole number bytes) old new
    state-may sound run = (d, run, inr (between d number, (d, is-state sound, refl), refl))

    state-images : (answer : Followed) → Takes old new d number answer → passes old new (lasting old) (may_last answer (lasting old) d) →
        MayLast old.engine.plant (spot old from) (Whole number bytes) old new
    state-images followed.Done takes run = state-may takes.sound run
    state-images followed.NotEffective takes run = (lasting old, run, inl refl)
    state-images followed.NotSound takes run = (lasting old, run, inl refl)
    state-images followed.Stopped takes run = (lasting old, run, inl refl)
    state-images followed.DiskFault takes run = state-may takes.0 run
    state-images followed.NoMemory takes run = (lasting old, run, inl refl)

    pub state-steps : (answer : Followed) → was_stopped answer ≡ false → (answer ≡ followed.Done → new.disks.events ≡ number) → Takes old new d number answer →
        ((before : List Event) → keeps old before → passes old new (lasting old) (may_last answer (lasting old) d)) →
        FollowedCause (counts_of old.disks) (counts_of new.disks) answer → has_failed answer ≡ new.disks.stopped →
        new.engine.plant ≡ old.engine.plant → new.log_limit ≡ old.log_limit → new.disks.digest ≡ old.disks.digest →
        Steps old.engine.plant (Whole number bytes) old from new to (done_by answer)
    state-steps answer tried count takes runs cause stops plant limit digest = record {
      moves = state-moves answer tried count takes;
      keeps_on = state-keeps answer takes;
      images = λ before held. state-images answer takes (runs before held);
      cause = done-cause (counts_of old.disks) (counts_of new.disks) answer tried cause;
      stops = sym (done-stops answer ∙ stops);
      same_plant = plant;
      limit = limit;
      digest = digest;
    }
