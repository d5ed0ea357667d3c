-- A pair at rest whose disk in force is synced.
use Rattle.std.proofs.Common.{◌≡◌, inl, ℕ, Bool, List, Result, sym, ◌∙◌, subst}
use Rattle.boss_model.specs.declared.state.Actuator.{Actuator}
use Rattle.boss_model.specs.State.{Persistent}
use Rattle.boss_disk.specs.Runs.{Leaves, Since}
use Rattle.boss_disk.specs.Story.{Story, Steps}
use Rattle.boss_disk.specs.Window.{Window, IsImage, settled}
use Rattle.boss_disk.proofs.Runs.{stands, tries_on}
use Rattle.boss_disk.proofs.Torn.{settled_image, synced_image}
use Rattle.def_disk_pair.specs.Pairs.{OpensCleanly}
use Rattle.boss_disk_pair.specs.Images.{OpensToOne}
use Rattle.boss_disk_pair.specs.Orders.{InOrder}
use Rattle.boss_disk_pair.specs.Rests.{Resting}
use Rattle.boss_disk_pair.proofs.Orders.{in_order}
use Rattle.boss_disk_pair.proofs.Words.{held_opens}

-- what a crash leaves meanwhile is what a read gives
pub synced_run : {T E : Type 0} (reads : List ℕ) (old new : Story) (result : Result T E) → old.window ≡ settled reads
    → Steps (settled reads) old.window old new result → Since (λ bytes. bytes ≡ reads) old new
synced_run {T} {E} reads old new result synced steps =
    let here : Leaves (λ bytes. bytes ≡ reads) (settled reads) = λ bytes image. settled_image reads bytes image in
    let there : Leaves (λ bytes. bytes ≡ reads) old.window = subst (Leaves (λ bytes. bytes ≡ reads)) (sym synced) here in
    tries_on {Q = Leaves (λ bytes. bytes ≡ reads)} old old new result (stands old there) steps here there

module _ (plant : List Actuator) (digest seed : List ℕ) (version : ℕ) (second : Bool) (generation number place : ℕ) (reads : List ℕ) (window : Window)
    (other : List ℕ) (beside : Window) (stopped : Bool) (d : Persistent) (count : ℕ)
    (rest : Resting plant digest seed version second generation number place reads window other beside stopped d count) where
  -- it rests as before
  pub confirmed_rests : (v at : ℕ) (now : List ℕ) (last : Window) → v ≡ version → at ≡ place → now ≡ reads → last ≡ settled reads →
      Resting plant digest seed v second generation number at now last other beside stopped d count
  confirmed_rests v at now last kept there same settles =
      subst (λ (q : ℕ × ℕ × List ℕ × Window). Resting plant digest seed q.0 second generation number q.1 q.2 q.3 other beside stopped d count)
      (λ i. (sym kept i, sym there i, sym same i, sym (settles ∙ sym rest.log.synced) i)) rest

  -- and a crash leaves what it stands for
  pub confirming_leaves : (a b : List ℕ) → a ≡ reads → IsImage beside b → InOrder (OpensToOne plant digest d d) second a b
  confirming_leaves a b is image =
      subst (λ x. InOrder (OpensToOne plant digest d d) second x b) (sym is)
      (subst (λ y. InOrder (OpensToOne plant digest d d) second reads y) (sym (synced_image beside other b rest.synced image))
      (in_order (OpensCleanly plant digest d _) (OpensToOne plant digest d d) second reads other (λ x y opens. inl (_, opens))
      (held_opens plant digest seed version second generation number place reads window other beside stopped d count rest)))
