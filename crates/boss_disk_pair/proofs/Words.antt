-- What the words on pairs give.
use Rattle.std.proofs.Common.{◌≡◌, inl, inr, ℕ, ◌+◌, ◌<◌, Bool, true, false, List, length, Result, Ok, Err, OnOk, OnErr, refl, sym, ◌∙◌, subst, arith}
use Rattle.boss_model.specs.declared.state.Actuator.{Actuator}
use Rattle.boss_model.specs.Limits.{last_number}
use Rattle.boss_model.specs.State.{Persistent}
use Rattle.boss_disk.specs.declared.disk.Disk as disk
use Rattle.boss_disk.specs.Legs.{Legs, LeaveBoth}
use Rattle.boss_disk.specs.Story.{Story}
use Rattle.boss_disk.specs.Window.{Window, settled, IsImage}
use Rattle.boss_disk.proofs.Legs.{then_legs, weaker_legs, legs_last}
use Rattle.boss_disk.proofs.Torn.{synced_image}
use Rattle.def_disk_pair.specs.Contents.{joined}
use Rattle.def_disk_pair.specs.Pairs.{OpensCleanly}
use Rattle.boss_disk_pair.specs.declared.two_disks.TwoDisks.{TwoDisks}
use Rattle.boss_disk_pair.specs.Causes.{first_disk, second_disk}
use Rattle.boss_disk_pair.specs.Images.{OpensEither, OpensToOne}
use Rattle.boss_disk_pair.specs.Orders.{InOrder, first_of, second_of, stories_of}
use Rattle.boss_disk_pair.specs.Rests.{Resting, rests, leaves, stories, passes, changes}
use Rattle.boss_disk_pair.proofs.Appends.{rest_holds}
use Rattle.boss_disk_pair.proofs.Forced.{from_order, opens_in}
use Rattle.boss_disk_pair.proofs.Orders.{in_order, both_leave, both_left, both_stand}

-- ---- without a pair

-- what holds after a call that did its work, and after one that failed
pub either_way : {T E P : Type 0} (r : Result T E) → OnOk r P → OnErr r P → P
either_way (Ok x) done failed = done
either_way (Err e) done failed = failed

wider : (plant : List Actuator) (digest : List ℕ) (d e : Persistent) (first second : List ℕ) → OpensToOne plant digest d d first second → OpensToOne plant digest d e first second
wider plant digest d e first second (inl opens) = inl opens
wider plant digest d e first second (inr opens) = inl opens

second_wider : (plant : List Actuator) (digest : List ℕ) (d e : Persistent) (first second : List ℕ) → OpensToOne plant digest d d first second → OpensToOne plant digest e d first second
second_wider plant digest d e first second (inl opens) = inr opens
second_wider plant digest d e first second (inr opens) = inr opens

either_wider : (plant : List Actuator) (digest : List ℕ) (d : Persistent) (new_plant : List Actuator) (new_digest : List ℕ) (e : Persistent) (first second : List ℕ) →
    OpensToOne plant digest d d first second → OpensEither plant digest d new_plant new_digest e first second
either_wider plant digest d new_plant new_digest e first second (inl opens) = inl opens
either_wider plant digest d new_plant new_digest e first second (inr opens) = inl opens

-- what holds of the bytes of two disks, said of the disks in their order
of_disks : {D X : Type 0} (P : X → X → Type 0) (f : D → X) (second : Bool) (one other : D) → InOrder P second (f one) (f other) → P (f (first_of second one other)) (f (second_of second one other))
of_disks P f false one other here = here
of_disks P f true one other here = here

last_in_order : (Q : Window → Window → Type 0) (second : Bool) (one other : Story) → Q (stories_of second one other).first.window (stories_of second one other).second.window
    → InOrder Q second one.window other.window
last_in_order Q false one other here = here
last_in_order Q true one other here = here

-- ---- a pair at rest

-- what a crash leaves of two disks that were synced is what a read gives
pub synced_leaves : (plant : List Actuator) (digest : List ℕ) (second : Bool) (reads : List ℕ) (window : Window) (other : List ℕ) (beside : Window) (d after : Persistent) (count : ℕ) →
    window ≡ settled reads → beside ≡ settled other → InOrder (OpensCleanly plant digest d count) second reads other → InOrder (LeaveBoth (OpensToOne plant digest d after)) second window beside
synced_leaves plant digest second reads window other beside d after count synced too opens =
    both_leave (OpensToOne plant digest d after) second window beside
    (λ a b one two.
    subst (λ x. InOrder (OpensToOne plant digest d after) second x b) (sym (synced_image window reads a synced one))
    (subst (λ y. InOrder (OpensToOne plant digest d after) second reads y) (sym (synced_image beside other b too two))
    (in_order (OpensCleanly plant digest d count) (OpensToOne plant digest d after) second reads other (λ x y opens. inl (count, opens)) opens)))

module _ (plant : List Actuator) (digest seed : List ℕ) (version : ℕ) (second : Bool) (generation number place : ℕ) (reads : List ℕ) (window : Window)
    (other : List ℕ) (beside : Window) (stopped : Bool) (d : Persistent) (count : ℕ)
    (rest : Resting plant digest seed version second generation number place reads window other beside stopped d count) where
  pub held_opens : InOrder (OpensCleanly plant digest d (rest.before + length (joined rest.batches))) second reads other
  held_opens =
      opens_in plant digest second reads other d _ (from_order second reads other rest.is_in_force)
      (rest_holds plant digest rest.whole version rest.front rest.from rest.before rest.batches d reads rest.log.tail rest.course rest.log.is)

  pub at_rest_leaves : InOrder (LeaveBoth (OpensToOne plant digest d d)) second window beside
  at_rest_leaves = synced_leaves plant digest second reads window other beside d d _ rest.log.synced rest.synced held_opens

  -- where the number of events is not at its end, it is that of the pair
  exact_count : count < last_number → rest.before + length (joined rest.batches) ≡ count
  exact_count few = let same = rest.counts ∙ rest.events in omega (arith, few, same)

  pub count_opens : count < last_number → InOrder (OpensCleanly plant digest d count) second reads other
  count_opens few = subst (λ n. InOrder (OpensCleanly plant digest d n) second reads other) (exact_count few) held_opens

-- ---- words

module _ {D : Type 0} {g : disk.Ghosts D} where
  pub rests_leaves : (pair : TwoDisks D g) (plant : List Actuator) (d : Persistent) (count : ℕ) → rests pair plant d count → leaves pair plant d d
  unfolding rests leaves
  rests_leaves pair plant d count at_rest = λ told. at_rest_leaves _ _ _ _ _ _ _ _ _ _ _ _ _ _ _ (at_rest told)

  pub rests_passes : (pair : TwoDisks D g) (plant : List Actuator) (d : Persistent) (count : ℕ) → rests pair plant d count → passes pair pair plant d d
  unfolding rests passes
  rests_passes pair plant d count at_rest = λ told. (
    refl,
    both_stand (LeaveBoth (OpensToOne plant pair.digest d d)) pair.second (g.story pair.journal.disk) (g.story pair.spare)
        (at_rest_leaves _ _ _ _ _ _ _ _ _ _ _ _ _ _ _ (at_rest told)),
  )

  -- ---- runs

  abbrev Passing : TwoDisks D g → TwoDisks D g → List Actuator → Persistent → Persistent → Type 0
  Passing old new plant a b = (new.digest ≡ old.digest) × Legs (LeaveBoth (OpensToOne plant old.digest a b)) (stories old) (stories new)

  weaker_passes : (old new : TwoDisks D g) (plant : List Actuator) (a b c e : Persistent) →
      ((first second : List ℕ) → OpensToOne plant old.digest a b first second → OpensToOne plant old.digest c e first second) →
      Passing old new plant a b → Passing old new plant c e
  weaker_passes old new plant a b c e gives run = (
    run.0,
    weaker_legs {Q = LeaveBoth (OpensToOne plant old.digest a b)} {R = LeaveBoth (OpensToOne plant old.digest c e)}
        (λ first second leave x y one other. gives x y (leave x y one other)) run.1,
  )

  join_passes : (old mid new : TwoDisks D g) (plant : List Actuator) (a b : Persistent) → Passing old mid plant a b → Passing mid new plant a b → Passing old new plant a b
  join_passes old mid new plant a b one two = (
    two.0 ∙ one.0,
    then_legs one.1 (subst (λ digest. Legs (LeaveBoth (OpensToOne plant digest a b)) (stories mid) (stories new)) one.0 two.1),
  )

  pub passes_wider : (old new : TwoDisks D g) (plant : List Actuator) (d e : Persistent) → passes old new plant d d → passes old new plant d e
  unfolding passes
  passes_wider old new plant d e run = λ told. weaker_passes old new plant d d d e (wider plant old.digest d e) (run told)

  pub passes_before : (old mid new : TwoDisks D g) (plant : List Actuator) (d e : Persistent) → passes old mid plant d d → passes mid new plant d e → passes old new plant d e
  unfolding passes
  passes_before old mid new plant d e one two = λ told.
      join_passes old mid new plant d e (weaker_passes old mid plant d d d e (wider plant old.digest d e) (one told)) (two told)

  pub passes_behind : (old mid new : TwoDisks D g) (plant : List Actuator) (d e : Persistent) → passes old mid plant d e → passes mid new plant e e → passes old new plant d e
  unfolding passes
  passes_behind old mid new plant d e one two = λ told.
      join_passes old mid new plant d e (one told) (weaker_passes mid new plant e e d e (second_wider plant mid.digest e d) (two told))

  pub passes_leaves : (old new : TwoDisks D g) (plant : List Actuator) (a b : Persistent) → passes old new plant a b → leaves new plant a b
  unfolding passes leaves
  passes_leaves old new plant a b run = λ told.
      let both = run told in
      subst (λ digest. InOrder (LeaveBoth (OpensToOne plant digest a b)) new.second (g.story new.journal.disk).window (g.story new.spare).window) (sym both.0)
      (last_in_order (LeaveBoth (OpensToOne plant old.digest a b)) new.second (g.story new.journal.disk) (g.story new.spare) (legs_last both.1))

  pub leaves_wider : (pair : TwoDisks D g) (plant : List Actuator) (d e : Persistent) → leaves pair plant d d → leaves pair plant d e
  unfolding leaves
  leaves_wider pair plant d e left = λ told.
      in_order (LeaveBoth (OpensToOne plant pair.digest d d)) (LeaveBoth (OpensToOne plant pair.digest d e)) pair.second (g.story pair.journal.disk).window (g.story pair.spare).window
      (λ x y leave a b one other. wider plant pair.digest d e a b (leave a b one other)) (left told)

  -- ---- another plant

  -- nothing changes
  pub rests_changes : (pair : TwoDisks D g) (plant : List Actuator) (d : Persistent) (count : ℕ) (new_plant : List Actuator) (digest : List ℕ) (e : Persistent) →
      rests pair plant d count → changes pair pair plant d new_plant digest e
  unfolding rests changes
  rests_changes pair plant d count new_plant digest e at_rest = λ told.
      both_stand (LeaveBoth (OpensEither plant pair.digest d new_plant digest e)) pair.second (g.story pair.journal.disk) (g.story pair.spare)
      (in_order (LeaveBoth (OpensToOne plant pair.digest d d)) (LeaveBoth (OpensEither plant pair.digest d new_plant digest e)) pair.second
      (g.story pair.journal.disk).window (g.story pair.spare).window
      (λ x y leave a b one other. either_wider plant pair.digest d new_plant digest e a b (leave a b one other))
      (at_rest_leaves _ _ _ _ _ _ _ _ _ _ _ _ _ _ _ (at_rest told)))

  -- what the disks hold in the end
  pub changes_left : (old new : TwoDisks D g) (plant : List Actuator) (d : Persistent) (new_plant : List Actuator) (digest : List ℕ) (e : Persistent) → g.tells →
      IsImage (g.story new.journal.disk).window (g.reads new.journal.disk) → IsImage (g.story new.spare).window (g.reads new.spare) →
      changes old new plant d new_plant digest e → OpensEither plant old.digest d new_plant digest e (g.reads (first_disk new)) (g.reads (second_disk new))
  unfolding changes
  changes_left old new plant d new_plant digest e told held beside run =
      let P : List ℕ → List ℕ → Type 0 = OpensEither plant old.digest d new_plant digest e in
      of_disks P g.reads new.second new.journal.disk new.spare
      (both_left P new.second (g.story new.journal.disk).window (g.story new.spare).window (g.reads new.journal.disk) (g.reads new.spare)
      (last_in_order (LeaveBoth P) new.second (g.story new.journal.disk) (g.story new.spare) (legs_last (run told))) held beside)
