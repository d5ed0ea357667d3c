-- What a crash may leave of disks while what they stand for is taken over.
use Rattle.std.proofs.Common.{◌≡◌, inl, ℕ, List, length, sym, ap, ◌∙◌, subst}
use Rattle.boss_changing.specs.Adoptions.{adopted_of}
use Rattle.boss_disk.specs.declared.disk.Disk as disk
use Rattle.boss_disk.specs.Legs.{Legs, LeaveBoth, stand}
use Rattle.boss_disk_pair.specs.Causes.{first_disk, second_disk}
use Rattle.boss_disk_pair.specs.Images.{OpensEither, OpensTo}
use Rattle.boss_disk_pair.specs.Rests as pair
use Rattle.boss_disk_pair.specs.Rests.{counted, stories}
use Rattle.boss_durable.specs.declared.durable.Durable.{Durable}
use Rattle.boss_durable.specs.Words.{changes, keeps, lasting, leaves}
use Rattle.boss_jobs.proofs.OpenedLemmas.{left-stands, many-events, some-events, within-last}
use Rattle.boss_model.specs.Catalogue.{Catalogue, actuators}
use Rattle.boss_model.specs.declared.event.Event.{Event}
use Rattle.boss_model.specs.declared.state.Actuator.{Actuator}
use Rattle.boss_opening.specs.Opens.{digest_of}
use Rattle.boss_pair_find.specs.Two.{two}
use Rattle.boss_pair_find.proofs.Orders.{stories_are}
use Rattle.boss_adopt_jobs.specs.Adoptions.{OpensToEither, taken_over}

module _ {D : Type 0} (d : disk.Ghosts D) (old new : Catalogue) (durable : Durable D d)
    (plant : durable.engine.plant ≡ actuators old) (digest : durable.disks.digest ≡ digest_of old)
    (held : (any : List Event) → counted (length any) ≡ durable.disks.events → keeps durable any)
    (left : leaves durable (lasting durable) (lasting durable)) where
  given-back : (back : Durable D d) (disks : D × D) → (disks.0 ≡ first_disk back.disks) × (disks.1 ≡ second_disk back.disks) →
      stories back.disks ≡ two (d.story disks.0) (d.story disks.1)
  given-back back disks parts =
      stories_are d.story back.disks.second back.disks.journal.disk back.disks.spare ∙ (λ i. two (d.story (sym parts.0 i)) (d.story (sym parts.1 i)))

  -- the adopted state was to be written
  pub changed-moves : (back : Durable D d) (disks : D × D) → (disks.0 ≡ first_disk back.disks) × (disks.1 ≡ second_disk back.disks) → d.tells →
      ((before : List Event) → keeps durable before → changes durable back (actuators new) (digest_of new) (adopted_of old new durable)) →
      Legs (LeaveBoth (OpensToEither old new (lasting durable))) (stories durable.disks) (two (d.story disks.0) (d.story disks.1))
  unfolding changes pair.changes
  changed-moves back disks parts told images =
      let number = durable.disks.events in
      let kept : keeps durable (some-events number) = held (some-events number) (ap counted (many-events number) ∙ within-last number durable.disks.few) in
      subst (λ at. Legs (LeaveBoth (OpensToEither old new (lasting durable))) (stories durable.disks) at) (given-back back disks parts)
      (subst
      (λ (q : List Actuator × List ℕ). Legs (LeaveBoth (OpensEither q.0 q.1 (lasting durable) (actuators new) (digest_of new) (taken_over old new (lasting durable)))) (stories durable.disks) (stories back.disks))
      (λ i. (plant i, digest i)) (images (some-events number) kept told))

  -- nothing was
  pub still-moves : (disks : D × D) → (disks.0 ≡ first_disk durable.disks) × (disks.1 ≡ second_disk durable.disks) → d.tells →
      Legs (LeaveBoth (OpensToEither old new (lasting durable))) (stories durable.disks) (two (d.story disks.0) (d.story disks.1))
  still-moves disks parts told =
      subst (λ at. Legs (LeaveBoth (OpensToEither old new (lasting durable))) (stories durable.disks) at) (given-back durable disks parts)
      (stand (stories durable.disks)
      (λ a b at there. inl (subst (λ (q : List Actuator × List ℕ). OpensTo q.0 q.1 (lasting durable) a b) (λ i. (plant i, digest i)) (left-stands d durable told left a b at there))))
