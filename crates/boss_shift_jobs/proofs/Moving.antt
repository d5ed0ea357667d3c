-- What a crash may leave of disks while the moments of what they stand for are taken back.
use Rattle.std.proofs.Common.{◌≡◌, inl, inr, ℕ, List, length, refl, sym, ap, ◌∙◌, subst}
use Rattle.boss_disk.specs.declared.disk.Disk as disk
use Rattle.boss_disk.specs.Legs.{Legs, LeaveBoth, stand}
use Rattle.boss_disk.proofs.Legs.{weaker_legs}
use Rattle.boss_disk_pair.specs.Causes.{first_disk, second_disk}
use Rattle.boss_disk_pair.specs.Images.{OpensTo, OpensToOne}
use Rattle.boss_disk_pair.specs.Rests as pair
use Rattle.boss_disk_pair.specs.Rests.{counted, stories}
use Rattle.boss_durable.specs.declared.durable.Durable.{Durable}
use Rattle.boss_durable.specs.declared.followed.Followed.{Followed}
use Rattle.boss_durable.specs.declared.followed.Followed.TheVariants.{Done, NotEffective, NotSound, Stopped, DiskFault, NoMemory}
use Rattle.boss_durable.specs.Followed.{may_last}
use Rattle.boss_durable.specs.Words.{keeps, lasting, leaves, passes}
use Rattle.boss_jobs.proofs.OpenedLemmas.{left-stands, many-events, some-events, within-last}
use Rattle.boss_jobs.proofs.RunLemmas.{one-as}
use Rattle.boss_model.specs.Catalogue.{Catalogue, actuators}
use Rattle.boss_model.specs.declared.event.Event.{Event}
use Rattle.boss_model.specs.declared.state.Actuator.{Actuator}
use Rattle.boss_model.specs.State.{Persistent}
use Rattle.boss_opening.specs.Opens.{digest_of}
use Rattle.boss_pair_find.specs.Two.{two}
use Rattle.boss_pair_find.proofs.Orders.{stories_are}
use Rattle.law_shift.specs.Shifted.{shifted}
use Rattle.boss_shift_jobs.specs.Shifts.{OpensToEither}

-- what may last after any answer is one of the two states
one-of-two : (taken : Followed) (plant : List Actuator) (digest : List ℕ) (a b : Persistent) (first second : List ℕ) → OpensToOne plant digest a (may_last taken a b) first second →
    OpensToOne plant digest a b first second
one-of-two Done plant digest a b first second it = it
one-of-two DiskFault plant digest a b first second it = it
one-of-two NotEffective plant digest a b first second it = elim it [ inl one ↦ inl one | inr other ↦ inl other ]
one-of-two NotSound plant digest a b first second it = elim it [ inl one ↦ inl one | inr other ↦ inl other ]
one-of-two Stopped plant digest a b first second it = elim it [ inl one ↦ inl one | inr other ↦ inl other ]
one-of-two NoMemory plant digest a b first second it = elim it [ inl one ↦ inl one | inr other ↦ inl other ]

module _ {D : Type 0} (d : disk.Ghosts D) (catalogue : Catalogue) (durable : Durable D d)
    (plant : durable.engine.plant ≡ actuators catalogue) (digest : durable.disks.digest ≡ digest_of catalogue)
    (held : (any : List Event) → counted (length any) ≡ durable.disks.events → keeps durable any)
    (left : leaves durable (lasting durable) (lasting durable)) where
  given-back : (back : Durable D d) (disks : D × D) → (disks.0 ≡ first_disk back.disks) × (disks.1 ≡ second_disk back.disks) →
      stories back.disks ≡ two (d.story disks.0) (d.story disks.1)
  given-back back disks parts =
      stories_are d.story back.disks.second back.disks.journal.disk back.disks.spare ∙ (λ i. two (d.story (sym parts.0 i)) (d.story (sym parts.1 i)))

  -- nothing was written
  pub still-stays : (disks : D × D) → (disks.0 ≡ first_disk durable.disks) × (disks.1 ≡ second_disk durable.disks) → d.tells →
      Legs (LeaveBoth (OpensTo (actuators catalogue) (digest_of catalogue) (lasting durable))) (stories durable.disks) (two (d.story disks.0) (d.story disks.1))
  still-stays disks parts told =
      subst (λ at. Legs (LeaveBoth (OpensTo (actuators catalogue) (digest_of catalogue) (lasting durable))) (stories durable.disks) at) (given-back durable disks parts)
      (stand (stories durable.disks)
      (λ a b at there. subst (λ (q : List Actuator × List ℕ). OpensTo q.0 q.1 (lasting durable) a b) (λ i. (plant i, digest i)) (left-stands d durable told left a b at there)))

  module _ (by : ℕ) where
    pub still-moves : (disks : D × D) → (disks.0 ≡ first_disk durable.disks) × (disks.1 ≡ second_disk durable.disks) → d.tells →
        Legs (LeaveBoth (OpensToEither catalogue by (lasting durable))) (stories durable.disks) (two (d.story disks.0) (d.story disks.1))
    still-moves disks parts told = weaker_legs (λ first second leave a b at there. inl (leave a b at there)) (still-stays disks parts told)

    -- the other state was to be written
    pub taken-moves : (back : Durable D d) (disks : D × D) (taken : Followed) → (disks.0 ≡ first_disk back.disks) × (disks.1 ≡ second_disk back.disks) → d.tells →
        ((before : List Event) → keeps durable before → passes durable back (lasting durable) (may_last taken (lasting durable) (shifted by (lasting durable)))) →
        Legs (LeaveBoth (OpensToEither catalogue by (lasting durable))) (stories durable.disks) (two (d.story disks.0) (d.story disks.1))
    unfolding passes pair.passes
    taken-moves back disks taken parts told images =
        let number = durable.disks.events in
        let kept : keeps durable (some-events number) = held (some-events number) (ap counted (many-events number) ∙ within-last number durable.disks.few) in
        let to = shifted by (lasting durable) in
        subst (λ at. Legs (LeaveBoth (OpensToEither catalogue by (lasting durable))) (stories durable.disks) at) (given-back back disks parts)
        (weaker_legs
        (λ first second leave a b at there.
        one-as durable.engine.plant (actuators catalogue) durable.disks.digest (digest_of catalogue) (lasting durable) (lasting durable) to to a b plant digest refl refl
        (one-of-two taken durable.engine.plant durable.disks.digest (lasting durable) to a b (leave a b at there)))
        (images (some-events number) kept told).1)
