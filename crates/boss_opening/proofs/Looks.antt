-- What a check tells, put together from what its steps tell.
use Rattle.std.proofs.Common.{◌≡◌, ℕ, ◌+◌, min, List, [], length, refl, sym, ap, subst, ◌∙◌, arith}
use Rattle.std.specs.Prelude.{Result, Ok, Err, IfOk, IfErr}
use Rattle.boss_disk.specs.declared.disk.Disk as disk
use Rattle.boss_pair_find.specs.declared.refusal.DurableRefusal.{DurableRefusal}
use Rattle.boss_pair_find.specs.declared.refusal.DurableRefusal.TheVariants.{Damaged}
use Rattle.boss_pair_find.specs.Holds.{IsNewPair}
use Rattle.boss_pair_find.specs.Refusals.{PairCause}
use Rattle.boss_pair_find.specs.Two.{counts}
use Rattle.boss_model.specs.declared.state.Actuator.{Actuator}
use Rattle.boss_model.specs.Limits.{last_number}
use Rattle.boss_model.specs.State.{Persistent}
use Rattle.boss_opening.specs.declared.checking.Checked.{Checked}
use Rattle.boss_opening.specs.declared.checking.Checked.TheVariants.{New, Found}
use Rattle.boss_opening.specs.Checks.{CheckCause, ChecksLog, ChecksPair, IsCheck, IsSummed}
use Rattle.boss_opening.specs.Opens.{OpenRefuses}
use Rattle.boss_opening.specs.Reading.{IsOfLog, IsReadOn, ReadWhole}
use Rattle.boss_disk_pair.specs.declared.two_disks.TwoDisks.{TwoDisks}
use Rattle.boss_disk_pair.specs.Causes.{Counts, counts_of, first_disk, second_disk}
use Rattle.boss_disk_pair.specs.Reads.{is_damaged_at, reads_to}
use Rattle.boss_opening.proofs.GoingOn.{back_first, back_second, closed_counts, damaged_out, stands_out}
use Rattle.boss_opening.proofs.Openings.{of_log}
use Rattle.boss_opening.proofs.ReadOn.{stood_for}

module _ {D : Type 0} {g : disk.Ghosts D} where
  -- ---- a log

  pub summed : (old new : TwoDisks D g) (plant : List Actuator) (from to : Persistent) (many number now leases pending : ℕ) → IsReadOn old new → ReadWhole old new plant from many to →
      reads_to old plant from old.events [] from → number ≡ min (new.events + many) last_number → now ≡ to.now → leases ≡ length to.leases → pending ≡ length to.pending →
      IsSummed old plant from number now leases pending
  summed old new plant from to many number now leases pending read whole begins number_is now_is leases_are pending_are = record {
    events = whole.events;
    stands = stood_for old new read plant from old.events whole.events (whole.stands old.events begins);
    lasting = to;
    leads = whole.leads;
    sums = record {
      number_is = number_is ∙ ap (λ n. min (n + many) last_number) read.events ∙ ap (λ n. min (old.events + n) last_number) (sym whole.many);
      now_is = now_is;
      leases_are = leases_are;
      pending_are = pending_are;
    };
  }

  -- ---- the disks of a pair

  module _ (old new : TwoDisks D g) (plant : List Actuator) (from : Persistent) (back : D × D) (is : (back.0 ≡ first_disk new) × (back.1 ≡ second_disk new))
      (read : IsReadOn old new) where
    tells_so : (checked : Result Checked DurableRefusal) → IfOk checked (ChecksLog old plant from) → g.tells →
        (IsNewPair (g.reads (first_disk old)) (g.reads (second_disk old)) → ⊥) →
        IfOk checked (ChecksPair plant old.digest (g.reads (first_disk old)) (g.reads (second_disk old)))
    tells_so (Err why) found told not_new = tt
    tells_so (Ok New) found told not_new = absurd found
    tells_so (Ok (Found number now leases pending)) found told not_new = record {
      from = from;
      before = old.events;
      events = found.events;
      stands = stands_out old plant from old.events found.events found.stands told;
      lasting = found.lasting;
      leads = found.leads;
      sums = found.sums;
      not_new = not_new;
    }

    refuses_log : (checked : Result Checked DurableRefusal) → IfErr checked IsOfLog → IfErr checked (λ why. (place : ℕ) → why ≡ Damaged place → is_damaged_at old plant place) →
        g.tells → IfErr checked (OpenRefuses plant old.digest (g.reads (first_disk old)) (g.reads (second_disk old)))
    refuses_log (Ok checked) kind damaged told = tt
    refuses_log (Err why) kind damaged told =
        of_log plant old.digest (g.reads (first_disk old)) (g.reads (second_disk old)) why kind (λ place at. damaged_out old plant place (damaged place at) told)

    cause_so : (checked : Result Checked DurableRefusal) → IfOk checked (λ c. counts_of new ≡ counts_of old) → IfErr checked (PairCause (counts_of old) (counts_of new)) →
        CheckCause (counts_of old) (counts_of new) checked
    cause_so (Ok checked) fine cause = fine
    cause_so (Err why) fine cause = cause

    pub looked : (checked : Result Checked DurableRefusal) → IfOk checked (ChecksLog old plant from) → IfErr checked IsOfLog →
        IfErr checked (λ why. (place : ℕ) → why ≡ Damaged place → is_damaged_at old plant place) →
        IfOk checked (λ c. counts_of new ≡ counts_of old) → IfErr checked (PairCause (counts_of old) (counts_of new)) →
        (g.tells → IsNewPair (g.reads (first_disk old)) (g.reads (second_disk old)) → ⊥) →
        IsCheck g plant old.digest (first_disk old) (second_disk old) (back, checked)
    looked checked found kind damaged fine cause not_new = record {
      tells = λ told. tells_so checked found told (not_new told);
      refuses = λ told. refuses_log checked kind damaged told;
      first_reads = λ told. back_first old new back is read.order read.spare g.reads (read.reads told);
      second_reads = λ told. back_second old new back is read.order read.spare g.reads (read.reads told);
      first_story = λ told. back_first old new back is read.order read.spare g.story (read.windows told);
      second_story = λ told. back_second old new back is read.order read.spare g.story (read.windows told);
      cause = subst (λ (now : Counts). CheckCause (counts_of old) now checked) (closed_counts new back is) (cause_so checked fine cause);
    }

  -- ---- disks that were not read

  pub unlooked : (plant : List Actuator) (digest : List ℕ) (first second : D) (back : D × D) (why : DurableRefusal) → back.0 ≡ first → back.1 ≡ second →
      (g.tells → OpenRefuses plant digest (g.reads first) (g.reads second) why) →
      PairCause (counts (g.faults first) (g.faults second)) (counts (g.faults first) (g.faults second)) why →
      IsCheck g plant digest first second (back, Err why)
  unlooked plant digest first second back why one other refuses cause = record {
    tells = λ told. tt;
    refuses = refuses;
    first_reads = λ told. ap g.reads one;
    second_reads = λ told. ap g.reads other;
    first_story = λ told. ap g.story one;
    second_story = λ told. ap g.story other;
    cause = subst (λ x. PairCause (counts (g.faults first) (g.faults second)) (counts (g.faults x) (g.faults back.1)) why) (sym one)
        (subst (λ x. PairCause (counts (g.faults first) (g.faults second)) (counts (g.faults first) (g.faults x)) why) (sym other) cause);
  }
