-- What is known of a pair that was found, of what was known of its disks.
use Rattle.std.proofs.Common.{◌≡◌, ℕ, List, sym, ap, subst, ◌∙◌}
use Rattle.std.specs.Prelude.{Result, Ok, Err, IfOk}
use Rattle.boss_disk.specs.declared.disk.Disk as disk
use Rattle.boss_disk.specs.Story.{Story}
use Rattle.boss_disk.specs.Window.{settled}
use Rattle.boss_pair_find.specs.declared.finding.Found.{Found}
use Rattle.boss_pair_find.specs.declared.finding.Found.TheVariants.{New, Plain, State}
use Rattle.boss_pair_find.specs.declared.refusal.DurableRefusal.{DurableRefusal}
use Rattle.boss_pair_find.specs.Finds.{Finds, Starts, IsSettled, IsClean, first_back, second_back}
use Rattle.boss_pair_find.proofs.Orders.{into_order, both_in_order}
use Rattle.def_log.specs.InForce.{Neither}
use Rattle.def_log.specs.Kinds.{kind_of, in_force}
use Rattle.boss_model.specs.declared.state.Actuator.{Actuator}
use Rattle.boss_model.specs.State.{Persistent, first_persistent}
use Rattle.def_disk_pair.specs.Contents.{HoldsCleanly}
use Rattle.def_disk_pair.specs.Pairs.{IsNew, OfThatInForce, OpensCleanly}
use Rattle.boss_disk_pair.specs.declared.two_disks.TwoDisks.{TwoDisks}
use Rattle.boss_disk_pair.specs.Causes.{first_disk, second_disk}
use Rattle.boss_disk_pair.specs.Reads.{is_settled, is_clean}

-- where neither disk is in force, a clean pair stands for the first state
new_clean : (plant : List Actuator) (digest : List ℕ) (d : Persistent) (count : ℕ) (first second : List ℕ) → in_force (kind_of first) (kind_of second) ≡ Neither →
    OpensCleanly plant digest d count first second → (d ≡ first_persistent) × (count ≡ 0)
new_clean plant digest d count first second none opens =
    let new : IsNew first × (d ≡ first_persistent) × (count ≡ 0) =
    subst (λ i. OfThatInForce (HoldsCleanly plant digest d count) (λ bytes. IsNew bytes × (d ≡ first_persistent) × (count ≡ 0)) i first second) none opens in
    (new.1, new.2)

-- all that was written of a disk is synced
abbrev Synced : {D : Type 0} (g : disk.Ghosts D) → D → Type 0
Synced g held = (g.story held).window ≡ settled (g.reads held)

still_synced : {D : Type 0} (g : disk.Ghosts D) (was now : D) → g.reads now ≡ g.reads was → g.story now ≡ g.story was → Synced g was → Synced g now
still_synced g was now reads story synced = ap (λ (s : Story). s.window) story ∙ synced ∙ ap settled (sym reads)

module _ {D : Type 0} {g : disk.Ghosts D} where
  pair_settled : (pair : TwoDisks D g) → Synced g (first_disk pair) → Synced g (second_disk pair) → is_settled pair
  unfolding is_settled
  pair_settled pair one other = λ told. both_in_order (Synced g) pair.second pair.journal.disk pair.spare one other

  pub found_settled : (result : Result (Found D g) ((D × D) × DurableRefusal)) (first second : D) → g.reads (first_back result) ≡ g.reads first →
      g.reads (second_back result) ≡ g.reads second → g.story (first_back result) ≡ g.story first → g.story (second_back result) ≡ g.story second →
      Synced g first → Synced g second → IfOk result IsSettled
  found_settled (Ok (New one other)) first second a b x y synced too = tt
  found_settled (Ok (Plain pair)) first second a b x y synced too =
      pair_settled pair (still_synced g first (first_disk pair) a x synced) (still_synced g second (second_disk pair) b y too)
  found_settled (Ok (State pair base)) first second a b x y synced too =
      pair_settled pair (still_synced g first (first_disk pair) a x synced) (still_synced g second (second_disk pair) b y too)
  found_settled (Err refused) first second a b x y synced too = tt

  module _ (plant : List Actuator) (digest : List ℕ) (d : Persistent) (count : ℕ) where
    pair_clean : (pair : TwoDisks D g) (first second : List ℕ) → pair.digest ≡ digest → g.reads (first_disk pair) ≡ first → g.reads (second_disk pair) ≡ second →
        OpensCleanly plant digest d count first second → is_clean pair plant d count
    unfolding is_clean
    pair_clean pair first second same a b opens = λ told.
        into_order g.reads (OpensCleanly plant pair.digest d count) pair.second pair.journal.disk pair.spare
        (subst (λ x. OpensCleanly plant x d count (g.reads (first_disk pair)) (g.reads (second_disk pair))) (sym same)
        (subst (λ x. OpensCleanly plant digest d count x (g.reads (second_disk pair))) (sym a)
        (subst (λ y. OpensCleanly plant digest d count first y) (sym b) opens)))

    pub found_clean : (result : Result (Found D g) ((D × D) × DurableRefusal)) (first second : List ℕ) → IfOk result (Finds digest first second) →
        IfOk result (Starts digest) → g.reads (first_back result) ≡ first → g.reads (second_back result) ≡ second →
        OpensCleanly plant digest d count first second → IfOk result (IsClean plant d count)
    found_clean (Ok (New one other)) first second finds starts a b opens = new_clean plant digest d count first second finds.0 opens
    found_clean (Ok (Plain pair)) first second finds starts a b opens = pair_clean pair first second starts.first.catalogue a b opens
    found_clean (Ok (State pair base)) first second finds starts a b opens = pair_clean pair first second starts.catalogue a b opens
    found_clean (Err refused) first second finds starts a b opens = tt
