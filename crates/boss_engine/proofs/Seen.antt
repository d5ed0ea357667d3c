-- The state that an engine is in has what outlasts a stop, whether its points are open or not.
use Rattle.std.proofs.Common.{◌≡◌, ℕ, suc, ◌+◌, ◌==◌, ◌∙◌, Bool, true, false, not, ◌&&◌, Option, Some, None, is_some, List, [], ◌∷◌, length, map, refl, ap, sym, subst, arith}
use Rattle.std.specs.Prelude.{find, unwrap_or}
use Rattle.std.specs.Option.{option_map_or}
use Rattle.std.specs.List.{list_any, range_with_len, AllByRecursion}
use Rattle.boss_model.specs.declared.state.Actuator.{Actuator}
use Rattle.boss_model.specs.Catalogue.{driver_of}
use Rattle.boss_model.specs.Lists.{member}
use Rattle.boss_model.specs.Sound.{IsSound, IsSoundPersistent}
use Rattle.boss_model.specs.Settle.{opened}
use Rattle.boss_model.specs.State.{Persistent}
use Rattle.boss_model.specs.Target.{target}
use Rattle.law_soundness.proofs.Opened.{opened-sound}
use Rattle.law_time.proofs.Filters.{any-map}
use Rattle.boss_marks.specs.Marks.{IsEarly}
use Rattle.boss_marks.proofs.Early.{early-fresh}
use Rattle.boss_marks.proofs.Least.{is_some-find}
use Rattle.boss_engine.specs.declared.machine.Machine.{Machine}
use Rattle.boss_engine.specs.Inside.{CanAct, HasPlaces, seen_state, state_of}
use Rattle.boss_persistent.specs.Lasting.{persistent_of}
use Rattle.boss_engine.specs.Waiting.{drivers_of}

pub seen-persistent : (plant : List Actuator) (m : Machine) (is_open : Bool) → (seen_state plant m is_open).persistent ≡ persistent_of m.lasting
seen-persistent plant m true = refl
seen-persistent plant m false = refl

pub seen-sound : (plant : List Actuator) (m : Machine) (is_open : Bool) → IsSound plant (seen_state plant m is_open) → IsSoundPersistent plant (persistent_of m.lasting)
seen-sound plant m true sound = sound.persistent
seen-sound plant m false sound = sound.persistent

pub seen-act : (plant : List Actuator) (m : Machine) (is_open : Bool) → IsSound plant (seen_state plant m is_open) → HasPlaces plant m → CanAct plant m
seen-act plant m is_open sound places = record { sound = seen-sound plant m is_open sound; places = places }

-- the drivers of all points, one after another
drivers-from : (driver : ℕ → ℕ) (place : ℕ) (plant : List Actuator) → ((k : ℕ) → driver (place + k) ≡ driver_of plant k) → map driver (range_with_len place (length plant)) ≡ drivers_of plant
drivers-from driver place [] each = refl
drivers-from driver place (x ∷ xs) each =
    let here : driver place ≡ x.driver = ap driver (let same : place ≡ place + 0 = omega arith in same) ∙ each 0 in
    λ i. here i ∷ drivers-from driver (place + 1) xs (λ k. ap driver (let same : place + 1 + k ≡ place + suc k = omega arith in same) ∙ each (suc k)) i

pub all-drivers : (plant : List Actuator) → map (driver_of plant) (range_with_len 0 (length plant)) ≡ drivers_of plant
all-drivers plant = drivers-from (driver_of plant) 0 plant (λ k. ap (driver_of plant) (let same : 0 + k ≡ k = omega arith in same))

-- no failed write is tried again before a moment, whether the points are open or not
pub seen-early : (plant : List Actuator) (m : Machine) (is_open : Bool) (next : ℕ) → AllByRecursion (IsEarly next) m.marks.proxies → AllByRecursion (IsEarly next) (seen_state plant m is_open).proxies
seen-early plant m true next all = all
seen-early plant m false next all = early-fresh next (target plant (persistent_of m.lasting)) (range_with_len 0 (length plant))

-- where each point is wanted, each driver that has a point has a want
pub all-wanted : (plant : List Actuator) (driver : ℕ) → list_any (λ actuator. actuator.driver == driver) plant ≡ is_some (find (λ point. driver_of plant point == driver) (range_with_len 0 (length plant)))
all-wanted plant driver =
    sym (is_some-find (driver_of plant) driver (range_with_len 0 (length plant)) ∙ ap (member driver) (all-drivers plant) ∙ any-map (λ other. other == driver) (λ actuator. actuator.driver) plant)

-- ---- an event that is done again

module _ (plant : List Actuator) (old new : Machine) (marks : new.marks ≡ old.marks) (attached : new.attached ≡ old.attached) where
  state-same : persistent_of new.lasting ≡ persistent_of old.lasting → state_of new ≡ state_of old
  state-same same = λ i. record { persistent = same i; attached = (attached i).items; proxies = (marks i).proxies; wants = (marks i).wants }

  pub seen-same : (is_open : Bool) → persistent_of new.lasting ≡ persistent_of old.lasting → seen_state plant new is_open ≡ seen_state plant old is_open
  seen-same true same = state-same same
  seen-same false same = ap (opened plant) same

  pub seen-again : (is_open effective : Bool) (done : Option Persistent) → effective ≡ is_some done → persistent_of new.lasting ≡ unwrap_or done (persistent_of old.lasting) →
      seen_state plant new (is_open && not effective) ≡ option_map_or (opened plant) done (seen_state plant old is_open)
  seen-again true effective (Some d) is after = ap (λ b. seen_state plant new (not b)) is ∙ ap (opened plant) after
  seen-again false effective (Some d) is after = ap (opened plant) after
  seen-again true effective None is after = ap (λ b. seen_state plant new (not b)) is ∙ state-same after
  seen-again false effective None is after = ap (opened plant) after

  pub seen-still : (is_open effective : Bool) (done : Option Persistent) → effective ≡ is_some done → persistent_of new.lasting ≡ unwrap_or done (persistent_of old.lasting) →
      IsSoundPersistent plant (persistent_of new.lasting) → IsSound plant (seen_state plant old is_open) → IsSound plant (seen_state plant new (is_open && not effective))
  seen-still false effective found is after sound was = opened-sound plant (persistent_of new.lasting) sound
  seen-still true effective (Some d) is after sound was =
      subst (λ (b : Bool). IsSound plant (seen_state plant new (not b))) (sym is) (opened-sound plant (persistent_of new.lasting) sound)
  seen-still true effective None is after sound was =
      subst (λ (b : Bool). IsSound plant (seen_state plant new (not b))) (sym is) (subst (IsSound plant) (sym (state-same after)) was)
