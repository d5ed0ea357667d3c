-- What comes of a journal that was opened, by the answer of the adoption and by what its disks hold once they are back.
use Rattle.std.proofs.Common.{◌≡◌, ◌≢◌, inl, inr, true, false, ℕ, ◌<◌, List, length, sym, ap, subst, ◌∙◌}
use Rattle.boss_model.specs.Catalogue.{Catalogue, actuators}
use Rattle.boss_model.specs.declared.event.Event.{Event}
use Rattle.boss_model.specs.declared.state.Actuator.{Actuator}
use Rattle.boss_model.specs.Limits.{last_number}
use Rattle.boss_model.specs.Settle.{opened}
use Rattle.boss_model.specs.State.{Persistent}
use Rattle.boss_outside.specs.Counts.{Rose}
use Rattle.boss_outside.specs.declared.sink.Sink as sink
use Rattle.boss_disk.specs.declared.disk.Disk as disk
use Rattle.def_disk_pair.specs.Pairs.{OpensCleanly}
use Rattle.boss_disk_pair.specs.Causes.{counts_of, first_disk, second_disk}
use Rattle.boss_disk_pair.specs.Images.{OpensEither, OpensTo, OpensToOne}
use Rattle.boss_disk_pair.specs.Rests.{counted}
use Rattle.boss_durable.specs.declared.durable.Durable.{Durable}
use Rattle.boss_durable.specs.Words.{keeps, lasting, leaves}
use Rattle.boss_opening.specs.Opens.{digest_of}
use Rattle.boss_adopting.specs.Counts.{removed}
use Rattle.boss_adopting.specs.declared.refusal.AdoptRefusal.{AdoptRefusal}
use Rattle.boss_adopting.specs.declared.refusal.AdoptRefusal.TheVariants as refusal
use Rattle.boss_changing.specs.Adoptions.{adopted_of, FaultCause, is_of_earlier, MayAdopt, Refuses}
use Rattle.boss_changing.specs.declared.fault.AdoptFault.{AdoptFault}
use Rattle.boss_changing.specs.declared.fault.AdoptFault.TheVariants as fault
use Rattle.boss_journal_lines.specs.Adoption.{adopted_line}
use Rattle.boss_jobs.specs.Jobs.{TellsLine}
use Rattle.boss_jobs.specs.Journals.{on_disks, Pair}
use Rattle.boss_jobs.proofs.OpenedLemmas.{many-events, some-events, within-last}
use Rattle.boss_jobs.proofs.Refusals.{both, one-rose}
use Rattle.boss_jobs.proofs.RunLemmas.{one-as, opens-as}
use Rattle.boss_adopt_jobs.specs.Adoptions.{ComesTo, OpensUnder, taken_over}
use Rattle.boss_adopt_jobs.specs.Telling.{TellsFault}

-- ---- answers apart

wrong : {P : Type 0} → true ≡ false → P
wrong e = absurd cc

refused-differs : (why : AdoptRefusal) → fault.Refused why ≢ fault.DiskFault
refused-differs why e = absurd cc

lack-differs : fault.NoMemory ≢ fault.DiskFault
lack-differs e = absurd cc

-- ---- disks that came back of an engine

one-state : (plant : List Actuator) (digest : List ℕ) (d : Persistent) (first second : List ℕ) → OpensToOne plant digest d d first second → OpensTo plant digest d first second
one-state plant digest d first second it = elim it [ inl one ↦ one | inr other ↦ other ]

module _ {D : Type 0} (d : disk.Ghosts D) where
  -- those of a value at rest open to what lasts of it, and others to what they may leave
  pub record Closed (durable : Durable D d) (disks : D × D) : Type 0 where
    pub parts : (disks.0 ≡ first_disk durable.disks) × (disks.1 ≡ second_disk durable.disks)
    pub opens : d.tells → (events : List Event) → keeps durable events → length events < last_number →
        OpensCleanly durable.engine.plant durable.disks.digest (lasting durable) (length events) (d.reads disks.0) (d.reads disks.1)
    pub left : d.tells → (a b : Persistent) → leaves durable a b → OpensToOne durable.engine.plant durable.disks.digest a b (d.reads disks.0) (d.reads disks.1)

  -- the disks of the value, as a pair
  abbrev pub of_durable : Durable D d → Pair
  of_durable durable = on_disks d (first_disk durable.disks, second_disk durable.disks)

  counts-so : (durable : Durable D d) (disks : D × D) → Closed durable disks → (on_disks d disks).faults ≡ both (counts_of durable.disks)
  counts-so durable disks closed = λ i. both (record { first = d.faults (closed.parts.0 i); second = d.faults (closed.parts.1 i) })

  -- they open to what lasts of it
  to-lasting : (durable : Durable D d) (disks : D × D) (plant : List Actuator) (digest : List ℕ) (to : Persistent) → Closed durable disks →
      leaves durable (lasting durable) (lasting durable) → durable.engine.plant ≡ plant → durable.disks.digest ≡ digest → lasting durable ≡ to →
      d.tells → OpensTo plant digest to (d.reads disks.0) (d.reads disks.1)
  to-lasting durable disks plant digest to closed left plant_is digest_is to_is told =
      one-state plant digest to (d.reads disks.0) (d.reads disks.1)
      (one-as durable.engine.plant plant durable.disks.digest digest (lasting durable) to (lasting durable) to (d.reads disks.0) (d.reads disks.1)
      plant_is digest_is to_is to_is (closed.left told (lasting durable) (lasting durable) left))

module _ {D K : Type 0} (d : disk.Ghosts D) (k : sink.Ghosts K) (old new : Catalogue) (durable : Durable D d)
    (plant : durable.engine.plant ≡ actuators old) (digest : durable.disks.digest ≡ digest_of old)
    (held : (any : List Event) → counted (length any) ≡ durable.disks.events → keeps durable any)
    (left : leaves durable (lasting durable) (lasting durable))
    (before after : K) (status : ℕ) where
  abbrev number : ℕ
  number = durable.disks.events

  abbrev any : List Event
  any = some-events number

  kept : keeps durable any
  kept = held any (ap counted (many-events number) ∙ within-last number durable.disks.few)

  -- ---- it was adopted

  module _ (now : Durable D d) (disks : D × D) (closed : Closed d now disks)
      (plant_is : now.engine.plant ≡ actuators new) (state_is : now.engine.state ≡ opened (actuators new) (adopted_of old new durable)) (digest_is : now.disks.digest ≡ digest_of new)
      (keeps_on : (any : List Event) → keeps durable any → keeps now any) (leaves_on : (any : List Event) → keeps durable any → leaves now (lasting now) (lasting now))
      (same : counts_of now.disks ≡ counts_of durable.disks) where
    pub adopted-so : MayAdopt old new (lasting durable) →
        TellsLine k (adopted_line number (length new.points) (length (removed old new)) (length (removed new old))) 0 before after status →
        ComesTo k old new (lasting durable) number (of_durable d durable) (on_disks d disks) before after status
    adopted-so may tells =
        let lasts : lasting now ≡ taken_over old new (lasting durable) = ap (λ s. s.persistent) state_is in
        inl (record {
          may = may;
          tells = tells;
          opens = λ told. to-lasting d now disks (actuators new) (digest_of new) (taken_over old new (lasting durable)) closed (leaves_on any kept) plant_is digest_is lasts told;
          counted = λ told few.
              opens-as now.engine.plant (actuators new) now.disks.digest (digest_of new) (lasting now) (taken_over old new (lasting durable)) (length any) number (d.reads disks.0) (d.reads disks.1)
              plant_is digest_is lasts (many-events number)
              (closed.opens told any (keeps_on any kept) (subst (λ n. n < last_number) (sym (many-events number)) few));
          faults = counts-so d now disks closed ∙ ap both same;
        })

  -- ---- it was not, and the value came back

  module _ (disks : D × D) where
    -- as it was: the disks open with the old catalogue to what lasts
    still : (back : Durable D d) → Closed d back disks → back ≡ durable → d.tells → OpensUnder old (lasting durable) (on_disks d disks)
    still back closed same told =
        to-lasting d back disks (actuators old) (digest_of old) (lasting durable) closed (subst (λ v. leaves v (lasting v) (lasting v)) (sym same) left)
        (ap (λ v. v.engine.plant) same ∙ plant) (ap (λ v. v.disks.digest) same ∙ digest) (ap (λ v. lasting v) same) told

    no-rise : (back : Durable D d) → Closed d back disks → back ≡ durable → (on_disks d disks).faults ≡ (of_durable d durable).faults
    no-rise back closed same = counts-so d back disks closed ∙ ap (λ v. both (counts_of v.disks)) same

    pub lacked-so : (back : Durable D d) → Closed d back disks → back ≡ durable → status ≡ 8 → after ≡ before →
        ComesTo k old new (lasting durable) number (of_durable d durable) (on_disks d disks) before after status
    lacked-so back closed same is untold = inr (inr (inr (record {
      status_is = is;
      told = untold;
      opens = still back closed same;
      faults = no-rise back closed same;
    })))

    module _ (back : Durable D d) (closed : Closed d back disks) where
      pub fault-so : (why : AdoptFault) → Refuses old new (lasting durable) why → (why ≢ fault.DiskFault → back ≡ durable) → is_of_earlier why ≡ false →
          FaultCause (counts_of durable.disks) (counts_of back.disks) why →
          (d.tells → (events : List Event) → keeps durable events → OpensEither (actuators old) (digest_of old) (lasting durable) (actuators new) (digest_of new) (adopted_of old new durable)
          (d.reads (first_disk back.disks)) (d.reads (second_disk back.disks))) →
          TellsFault k why before after status →
          ComesTo k old new (lasting durable) number (of_durable d durable) (on_disks d disks) before after status
      fault-so (fault.Refused (refusal.InUse name)) why same late cause images tells =
          let is = same (refused-differs (refusal.InUse name)) in
          inr (inl (record { refusal = refusal.InUse name; refuses = why; tells = tells; opens = still back closed is; faults = no-rise back closed is }))
      fault-so (fault.Refused (refusal.Unfit name)) why same late cause images tells =
          let is = same (refused-differs (refusal.Unfit name)) in
          inr (inl (record { refusal = refusal.Unfit name; refuses = why; tells = tells; opens = still back closed is; faults = no-rise back closed is }))
      fault-so (fault.Refused refusal.NoMemory) why same late cause images tells = absurd why
      fault-so fault.Stopped why same late cause images tells = wrong late
      fault-so fault.DiskFault why same late cause images tells = inr (inr (inl (record {
        may = why;
        status_is = tells.0;
        told = tells.1;
        opens = λ told. subst (λ (pair : List ℕ × List ℕ). OpensEither (actuators old) (digest_of old) (lasting durable) (actuators new) (digest_of new) (adopted_of old new durable) pair.0 pair.1)
            (λ i. (d.reads (sym closed.parts.0 i), d.reads (sym closed.parts.1 i))) (images told any kept);
        faults = subst (Rose (both (counts_of durable.disks))) (sym (counts-so d back disks closed)) (one-rose (counts_of durable.disks) (counts_of back.disks) cause);
      })))
      fault-so fault.NoMemory why same late cause images tells = lacked-so back closed (same lack-differs) tells.0 tells.1
