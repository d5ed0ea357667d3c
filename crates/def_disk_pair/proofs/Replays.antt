-- Events done again, one part after another.
use Rattle.std.proofs.Common.{◌≡◌, List, [], ◌∷◌, ◌++◌, Option, Some, None, refl, sym, ap, ◌∙◌, append_assoc, append-nil}
use Rattle.std.specs.Prelude.{fold}
use Rattle.std.specs.List.{AllByRecursion}
use Rattle.std.proofs.lemmas.List.Sums.{fold-append}
use Rattle.boss_model.specs.declared.event.Event.{Event}
use Rattle.boss_model.specs.declared.state.Actuator.{Actuator}
use Rattle.boss_model.specs.Acts.{replay_next}
use Rattle.boss_model.specs.Run.{replay_all}
use Rattle.boss_model.specs.State.{Persistent}
use Rattle.def_disk_pair.specs.Contents.{joined}

pub some-is : {A : Type 0} (x y : A) → Some x ≡ Some y → x ≡ y
some-is x y is = cc

module _ (plant : List Actuator) where
  none_stays : (events : List Event) → fold (replay_next plant) None events ≡ None
  none_stays [] = refl
  none_stays (e ∷ events) = none_stays events

  -- a state between
  between : (found : Option Persistent) (ys : List Event) (to : Persistent) → fold (replay_next plant) found ys ≡ Some to →
      (mid : Persistent) × (found ≡ Some mid) × (replay_all plant mid ys ≡ Some to)
  between None ys to is = absurd (let no : ◌≡◌ {A = Option Persistent} None (Some to) = sym (none_stays ys) ∙ is in cc)
  between (Some mid) ys to is = (mid, refl, is)

  pub replay_split : (d : Persistent) (xs ys : List Event) (to : Persistent) → replay_all plant d (xs ++ ys) ≡ Some to →
      (mid : Persistent) × (replay_all plant d xs ≡ Some mid) × (replay_all plant mid ys ≡ Some to)
  replay_split d xs ys to is = between (replay_all plant d xs) ys to (sym (fold-append (replay_next plant) (Some d) xs ys) ∙ is)

  pub replay_join : (d : Persistent) (xs ys : List Event) (mid : Persistent) → replay_all plant d xs ≡ Some mid →
      replay_all plant d (xs ++ ys) ≡ replay_all plant mid ys
  replay_join d xs ys mid is = fold-append (replay_next plant) (Some d) xs ys ∙ ap (λ found. fold (replay_next plant) found ys) is

pub all_join : {X : Type 0} (P : X → Type 0) (xs ys : List X) → AllByRecursion P xs → AllByRecursion P ys → AllByRecursion P (xs ++ ys)
all_join P [] ys all more = more
all_join P (x ∷ xs) ys all more = (all.0, all_join P xs ys all.1 more)

pub joined_more : (batches : List (List Event)) (events : List Event) → joined (batches ++ events ∷ []) ≡ joined batches ++ events
joined_more [] events = append-nil events
joined_more (b ∷ batches) events = ap (λ xs. b ++ xs) (joined_more batches events) ∙ sym (append_assoc b (joined batches) events)

pub all_split : {X : Type 0} (P : X → Type 0) (xs ys : List X) → AllByRecursion P (xs ++ ys) → AllByRecursion P xs × AllByRecursion P ys
all_split P [] ys all = (tt, all)
all_split P (x ∷ xs) ys all = let rest = all_split P xs ys all.1 in ((all.0, rest.0), rest.1)
