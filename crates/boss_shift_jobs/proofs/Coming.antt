-- What comes of a journal that was opened, by what became of the state that its disks were to have, and by what they hold once they are back.
use Rattle.std.proofs.Common.{◌≡◌, inl, inr, true, false, ℕ, ◌+◌, ◌≤◌, ◌<◌, List, length, refl, sym, ap, subst, ◌∙◌}
use Rattle.boss_model.specs.Catalogue.{Catalogue, actuators}
use Rattle.boss_model.specs.declared.event.Event.{Event}
use Rattle.boss_model.specs.declared.state.Actuator.{Actuator}
use Rattle.boss_model.specs.Limits.{last_number}
use Rattle.boss_model.specs.Sound.{IsSoundPersistent}
use Rattle.boss_model.specs.State.{Persistent}
use Rattle.boss_outside.specs.Counts.{Rose}
use Rattle.boss_outside.specs.declared.sink.Sink as sink
use Rattle.boss_disk.specs.declared.disk.Disk as disk
use Rattle.def_disk_pair.specs.Pairs.{OpensCleanly}
use Rattle.boss_disk_pair.specs.Causes.{counts_of, first_disk, second_disk}
use Rattle.boss_disk_pair.specs.Images.{OpensTo, OpensToOne}
use Rattle.boss_disk_pair.specs.Rests.{counted}
use Rattle.boss_durable.specs.declared.durable.Durable.{Durable}
use Rattle.boss_durable.specs.declared.followed.Followed.{Followed}
use Rattle.boss_durable.specs.declared.followed.Followed.TheVariants.{Done, NotEffective, NotSound, Stopped, DiskFault, NoMemory}
use Rattle.boss_durable.specs.Followed.{FollowedCause, lasts_after, may_last, Takes, was_stopped}
use Rattle.boss_durable.specs.Words.{keeps, lasting, leaves}
use Rattle.boss_opening.specs.Opens.{digest_of}
use Rattle.boss_jobs.specs.Jobs.{TellsLine}
use Rattle.boss_jobs.specs.Journals.{on_disks, Pair}
use Rattle.boss_jobs.proofs.OpenedLemmas.{many-events, some-events, within-last}
use Rattle.boss_jobs.proofs.Refusals.{both, one-rose}
use Rattle.boss_jobs.proofs.RunLemmas.{one-as, opens-as}
use Rattle.law_shift.specs.Shifted.{MayShift, shifted}
use Rattle.boss_shift_jobs.specs.Lines.{shifted_line, too_far_line}
use Rattle.boss_shift_jobs.specs.Shifts.{ComesTo, OpensAfter, OpensUnder}
use Rattle.boss_shift_jobs.specs.Telling.{TellsTaken}

wrong : {P : Type 0} → true ≡ false → P
wrong e = absurd cc

-- ---- disks that came back of an engine

one-state : (plant : List Actuator) (digest : List ℕ) (d : Persistent) (first second : List ℕ) → OpensToOne plant digest d d first second → OpensTo plant digest d first second
one-state plant digest d first second it = elim it [ inl one ↦ one | inr other ↦ other ]

module _ {D : Type 0} (d : disk.Ghosts D) where
  -- those of a value at rest open to what lasts of it, and others to what they may leave
  pub record Closed (durable : Durable D d) (disks : D × D) : Type 0 where
    pub parts : (disks.0 ≡ first_disk durable.disks) × (disks.1 ≡ second_disk durable.disks)
    pub opens : d.tells → (events : List Event) → keeps durable events → length events < last_number →
        OpensCleanly durable.engine.plant durable.disks.digest (lasting durable) (length events) (d.reads disks.0) (d.reads disks.1)
    pub left : d.tells → (a b : Persistent) → leaves durable a b → OpensToOne durable.engine.plant durable.disks.digest a b (d.reads disks.0) (d.reads disks.1)

  -- the disks of the value, as a pair
  abbrev pub of_durable : Durable D d → Pair
  of_durable durable = on_disks d (first_disk durable.disks, second_disk durable.disks)

  counts-so : (durable : Durable D d) (disks : D × D) → Closed durable disks → (on_disks d disks).faults ≡ both (counts_of durable.disks)
  counts-so durable disks closed = λ i. both (record { first = d.faults (closed.parts.0 i); second = d.faults (closed.parts.1 i) })

  -- they open to what lasts of it
  to-lasting : (durable : Durable D d) (disks : D × D) (plant : List Actuator) (digest : List ℕ) (to : Persistent) → Closed durable disks →
      leaves durable (lasting durable) (lasting durable) → durable.engine.plant ≡ plant → durable.disks.digest ≡ digest → lasting durable ≡ to →
      d.tells → OpensTo plant digest to (d.reads disks.0) (d.reads disks.1)
  to-lasting durable disks plant digest to closed left plant_is digest_is to_is told =
      one-state plant digest to (d.reads disks.0) (d.reads disks.1)
      (one-as durable.engine.plant plant durable.disks.digest digest (lasting durable) to (lasting durable) to (d.reads disks.0) (d.reads disks.1)
      plant_is digest_is to_is to_is (closed.left told (lasting durable) (lasting durable) left))

module _ {D K : Type 0} (d : disk.Ghosts D) (k : sink.Ghosts K) (catalogue : Catalogue) (by : ℕ) (durable : Durable D d)
    (plant : durable.engine.plant ≡ actuators catalogue) (digest : durable.disks.digest ≡ digest_of catalogue)
    (held : (any : List Event) → counted (length any) ≡ durable.disks.events → keeps durable any)
    (left : leaves durable (lasting durable) (lasting durable))
    (before after : K) (status : ℕ) where
  abbrev number : ℕ
  number = durable.disks.events

  abbrev to : Persistent
  to = shifted by (lasting durable)

  abbrev any : List Event
  any = some-events number

  kept : keeps durable any
  kept = held any (ap counted (many-events number) ∙ within-last number durable.disks.few)

  -- ---- the value came back as it was

  module _ (back : Durable D d) (disks : D × D) (closed : Closed d back disks) (same : back ≡ durable) where
    -- the disks open to what lasts
    still : d.tells → OpensUnder catalogue (lasting durable) (on_disks d disks)
    still told =
        to-lasting d back disks (actuators catalogue) (digest_of catalogue) (lasting durable) closed (subst (λ v. leaves v (lasting v) (lasting v)) (sym same) left)
        (ap (λ v. v.engine.plant) same ∙ plant) (ap (λ v. v.disks.digest) same ∙ digest) (ap (λ v. lasting v) same) told

    -- after as many events
    still-after : d.tells → number < last_number → OpensAfter catalogue (lasting durable) number (on_disks d disks)
    still-after told few =
        opens-as back.engine.plant (actuators catalogue) back.disks.digest (digest_of catalogue) (lasting back) (lasting durable) (length any) number (d.reads disks.0) (d.reads disks.1)
        (ap (λ v. v.engine.plant) same ∙ plant) (ap (λ v. v.disks.digest) same ∙ digest) (ap (λ v. lasting v) same) (many-events number)
        (closed.opens told any (subst (λ v. keeps v any) (sym same) kept) (subst (λ n. n < last_number) (sym (many-events number)) few))

    no-rise : (on_disks d disks).faults ≡ (of_durable d durable).faults
    no-rise = counts-so d back disks closed ∙ ap (λ v. both (counts_of v.disks)) same

    pub lacked-so : status ≡ 8 → after ≡ before → ComesTo k catalogue by (lasting durable) number (of_durable d durable) (on_disks d disks) before after status
    lacked-so is untold = inr (inr (inr (record {
      status_is = is;
      told = untold;
      opens = still;
      faults = no-rise;
    })))

    pub too-far-so : (most : ℕ) → ¬ MayShift by (lasting durable) → MayShift most (lasting durable) → ((other : ℕ) → MayShift other (lasting durable) → other ≤ most) →
        TellsLine k (too_far_line most) 15 before after status → ComesTo k catalogue by (lasting durable) number (of_durable d durable) (on_disks d disks) before after status
    too-far-so most refuses may greatest tells = inr (inl (record {
      refuses = refuses;
      most = most;
      may = may;
      greatest = greatest;
      tells = tells;
      opens = still;
      numbered = still-after;
      faults = no-rise;
    }))

  -- ---- the disks were to have the other state

  module _ (now : Durable D d) (disks : D × D) (closed : Closed d now disks) (may : MayShift by (lasting durable))
      (sound : IsSoundPersistent durable.engine.plant to)
      (same_plant : now.engine.plant ≡ durable.engine.plant) (same_digest : now.disks.digest ≡ durable.disks.digest) where
    of_catalogue : now.engine.plant ≡ actuators catalogue
    of_catalogue = same_plant ∙ plant

    under_digest : now.disks.digest ≡ digest_of catalogue
    under_digest = same_digest ∙ digest

    abbrev later : List Event
    later = some-events (number + 1)

    pub taken-so : (taken : Followed) → Takes durable now to (counted (number + 1)) taken → ((events : List Event) → keeps durable events →
        leaves now (lasts_after taken (lasting durable) to) (may_last taken (lasting durable) to)) → FollowedCause (counts_of durable.disks) (counts_of now.disks) taken →
        was_stopped taken ≡ false → TellsTaken k (shifted_line (counted (number + 1)) to) taken before after status →
        ComesTo k catalogue by (lasting durable) number (of_durable d durable) (on_disks d disks) before after status
    taken-so Done it leave cause going tells =
        let lasts : lasting now ≡ to = ap (λ e. e.state.persistent) it.opens in
        inl (record {
          may = may;
          tells = tells;
          opens = λ told.
              one-state (actuators catalogue) (digest_of catalogue) to (d.reads disks.0) (d.reads disks.1)
              (one-as now.engine.plant (actuators catalogue) now.disks.digest (digest_of catalogue) to to to to (d.reads disks.0) (d.reads disks.1)
              of_catalogue under_digest refl refl (closed.left told to to (leave any kept)));
          numbered = λ told few.
              opens-as now.engine.plant (actuators catalogue) now.disks.digest (digest_of catalogue) (lasting now) to (length later) (number + 1) (d.reads disks.0) (d.reads disks.1)
              of_catalogue under_digest lasts (many-events (number + 1))
              (closed.opens told later (it.gained any later kept (ap counted (many-events (number + 1)))) (subst (λ n. n < last_number) (sym (many-events (number + 1))) few));
          faults = counts-so d now disks closed ∙ ap both cause;
        })
    taken-so DiskFault it leave cause going tells = inr (inr (inl (record {
      may = may;
      status_is = tells.0;
      told = tells.1;
      opens = λ told.
          one-as now.engine.plant (actuators catalogue) now.disks.digest (digest_of catalogue) (lasting durable) (lasting durable) to to (d.reads disks.0) (d.reads disks.1)
          of_catalogue under_digest refl refl (closed.left told (lasting durable) to (leave any kept));
      faults = subst (Rose (both (counts_of durable.disks))) (sym (counts-so d now disks closed)) (one-rose (counts_of durable.disks) (counts_of now.disks) cause);
    })))
    taken-so NoMemory it leave cause going tells = lacked-so now disks closed it tells.0 tells.1
    taken-so Stopped it leave cause going tells = wrong going
    taken-so NotEffective it leave cause going tells = absurd it
    taken-so NotSound it leave cause going tells = absurd (it.0 sound)
