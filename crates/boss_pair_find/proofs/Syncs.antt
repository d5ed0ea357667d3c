-- What a crash leaves while both disks are synced.
use Rattle.std.proofs.Common.{◌≡◌, List, ℕ, sym, ap, subst, ◌∙◌}
use Rattle.std.specs.Prelude.{Result, Ok, Err, OnOk}
use Rattle.boss_disk.specs.Legs.{Legs, LeaveBoth}
use Rattle.boss_disk.specs.Runs.{Leaves, Since}
use Rattle.boss_disk.specs.Story.{Story, Steps}
use Rattle.boss_disk.specs.Window.{Window, IsImage, settled}
use Rattle.boss_disk.proofs.Legs.{then_legs, images_beside_first, images_beside_second}
use Rattle.boss_disk.proofs.Runs.{stands, tries_on}
use Rattle.boss_disk.proofs.Torn.{settled_image}
use Rattle.boss_pair_find.specs.Two.{two, MightLeave}

-- a sync leaves what might have been left before
pub sync_run : {T E : Type 0} (reads : List ℕ) (old new : Story) (result : Result T E) → IsImage old.window reads →
    Steps (settled reads) old.window old new result → Since (IsImage old.window) old new
sync_run reads old new result holds steps =
    tries_on {Q = Leaves (IsImage old.window)} old old new result
    (stands old (λ bytes image. image)) steps
    (λ bytes image. subst (IsImage old.window) (sym (settled_image reads bytes image)) holds)
    (λ bytes image. image)

module _ (one other : Story) where
  pub first_syncs : (mid : Story) → Since (IsImage one.window) one mid → Legs (LeaveBoth (MightLeave one.window other.window)) (two one other) (two mid other)
  first_syncs mid run =
      images_beside_second (MightLeave one.window other.window) (IsImage one.window) one mid other (λ a b first second. (first, second)) run

  pub both_sync : (mid last : Story) → Since (IsImage one.window) one mid → Since (IsImage other.window) other last →
      Legs (LeaveBoth (MightLeave one.window other.window)) (two one other) (two mid last)
  both_sync mid last run more =
      then_legs (first_syncs mid run)
      (images_beside_first (MightLeave one.window other.window) (IsImage other.window) other last mid (λ a b first second. (run.last a first, second)) more)

-- both are synced once the second is
pub both_settle : {T E : Type 0} (reads held now : List ℕ) (window before : Window) (old new : Story) (result : Result T E) → window ≡ settled reads → now ≡ held →
    Steps (settled held) before old new result → OnOk result ((window ≡ settled reads) × (new.window ≡ settled now))
both_settle reads held now window before old new (Ok x) synced same steps = (synced, steps.done.window ∙ ap settled (sym same))
both_settle reads held now window before old new (Err e) synced same steps = tt
