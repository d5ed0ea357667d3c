-- A pair whose log is done again.
use Rattle.std.proofs.Common.{◌≡◌, ℕ, ◌+◌, min, Bool, true, false, List, [], length, refl, sym, ap, subst, ◌∙◌, arith, Some}
use Rattle.std.specs.Prelude.{Result, Ok, Err}
use Rattle.boss_disk.specs.declared.disk.Disk as disk
use Rattle.boss_disk.specs.Legs.{Legs, LeaveBoth, Two}
use Rattle.boss_durable.specs.declared.durable.Durable.{Durable}
use Rattle.boss_pair_find.specs.declared.refusal.DurableRefusal.{DurableRefusal}
use Rattle.boss_pair_find.specs.declared.refusal.DurableRefusal.TheVariants.{Damaged}
use Rattle.boss_pair_find.specs.Refusals.{IsOfBytes, PairCause}
use Rattle.boss_pair_find.specs.Two.{counts, two}
use Rattle.boss_pair_find.proofs.Orders.{first_stays, into_order, out_of_order, second_stays, stories_are}
use Rattle.boss_model.specs.declared.event.Event.{Event}
use Rattle.boss_model.specs.declared.state.Actuator.{Actuator}
use Rattle.boss_model.specs.Limits.{last_number}
use Rattle.boss_model.specs.Settle.{opened}
use Rattle.boss_model.specs.State.{Persistent, State}
use Rattle.def_disk_pair.specs.Pairs.{DamagedAt, OpensCleanly, StandsFor}
use Rattle.boss_disk_pair.specs.declared.two_disks.TwoDisks.{TwoDisks}
use Rattle.boss_disk_pair.specs.Causes.{CallCause, Counts, OneRose, counts_of, first_disk, second_disk}
use Rattle.boss_disk_pair.specs.Images.{OpensToOne}
use Rattle.boss_disk_pair.specs.Orders.{InOrder, first_of, second_of}
use Rattle.boss_disk_pair.specs.Reads.{ends_at, is_clean, is_damaged_at, is_settled, reads_to, stands_for}
use Rattle.boss_disk_pair.specs.Rests.{passes, rests, stories}
use Rattle.boss_opening.specs.Opens.{Finishing, IsUntouched, OpenedAt, Opening, Stays}
use Rattle.boss_opening.specs.Reading.{GoesOn, IsOfLog, IsReadOn, ReadWhole, ShutsCleanly}
use Rattle.boss_opening.proofs.Openings.{finished, finished_legs, of_damage, of_log, refused}
use Rattle.boss_opening.proofs.ReadOn.{still_settled, stood_for}
use Rattle.boss_opening.proofs.Rested.{counted_few, rests_as}

-- a call of a pair that was not stopped fails where a count rose
pub fault_rose : (T E : Type 0) (e : E) (stopped : Bool) (before mid now : Counts) → mid ≡ before → stopped ≡ false →
    CallCause {T = T} {E = E} stopped mid now (Err e) → OneRose before now
fault_rose T E e true before mid now same off cause = absurd cc
fault_rose T E e false before mid now same off cause = subst (λ (c : Counts). OneRose c now) same cause

module _ {D : Type 0} {g : disk.Ghosts D} where
  -- ---- once the gate is shut

  pub goes_on : (old mid new : TwoDisks D g) (plant : List Actuator) (from to : Persistent) (count : ℕ) → IsReadOn old mid → ReadWhole old mid plant from count to →
      reads_to old plant from old.events [] from → is_settled old →
      ((before : ℕ) (found : List Event) → ends_at mid plant from before found to → is_settled mid → length found ≡ count → rests new plant to (before + count)) →
      new.events ≡ min (mid.events + count) last_number → GoesOn old new plant from to
  goes_on old mid new plant from to count read whole begins synced rest number =
      let many = whole.many in
      let still = read.events in
      let counts_is : new.events ≡ min (old.events + count) last_number = number ∙ ap (λ n. min (n + count) last_number) still in
      record {
        events = whole.events;
        leads = whole.leads;
        stands = stood_for old mid read plant from old.events whole.events (whole.stands old.events begins);
        number = counts_is ∙ ap (λ n. min (old.events + n) last_number) (sym many);
        rest = rests_as new plant to (old.events + count) new.events (omega (arith, counts_is))
            (rest old.events whole.events (whole.ends old.events begins) (still_settled old mid read synced) many);
      }

  -- ---- the disks of a pair

  pub closed_counts : (pair : TwoDisks D g) (back : D × D) → (back.0 ≡ first_disk pair) × (back.1 ≡ second_disk pair) →
      counts_of pair ≡ counts (g.faults back.0) (g.faults back.1)
  closed_counts pair back is =
      ap (λ x. counts (g.faults x) (g.faults (second_disk pair))) (sym is.0) ∙ ap (λ x. counts (g.faults back.0) (g.faults x)) (sym is.1)

  -- what the one in force has still, the first disk has still and the second
  module _ (old new : TwoDisks D g) (back : D × D) (is : (back.0 ≡ first_disk new) × (back.1 ≡ second_disk new)) (order : new.second ≡ old.second) (spare : new.spare ≡ old.spare) where
    pub back_first : {X : Type 0} (f : D → X) → f new.journal.disk ≡ f old.journal.disk → f back.0 ≡ f (first_disk old)
    back_first f still =
        ap f is.0 ∙ ap (λ b. f (first_of b new.journal.disk new.spare)) order ∙ ap (λ x. f (first_of old.second new.journal.disk x)) spare
        ∙ first_stays f new.journal.disk old.journal.disk old.spare still old.second

    pub back_second : {X : Type 0} (f : D → X) → f new.journal.disk ≡ f old.journal.disk → f back.1 ≡ f (second_disk old)
    back_second f still =
        ap f is.1 ∙ ap (λ b. f (second_of b new.journal.disk new.spare)) order ∙ ap (λ x. f (second_of old.second new.journal.disk x)) spare
        ∙ second_stays f new.journal.disk old.journal.disk old.spare still old.second

  pub run_legs : (old new : TwoDisks D g) (plant : List Actuator) (d after : Persistent) → passes old new plant d after → g.tells →
      Legs (LeaveBoth (OpensToOne plant old.digest d after)) (two (g.story (first_disk old)) (g.story (second_disk old))) (two (g.story (first_disk new)) (g.story (second_disk new)))
  unfolding passes
  run_legs old new plant d after run told =
      subst (λ s. Legs (LeaveBoth (OpensToOne plant old.digest d after)) s (two (g.story (first_disk new)) (g.story (second_disk new)))) (stories_are g.story old.second old.journal.disk old.spare)
      (subst (λ s. Legs (LeaveBoth (OpensToOne plant old.digest d after)) (stories old) s) (stories_are g.story new.second new.journal.disk new.spare) (run told).1)

  -- what is said of the first disk and the second is said of the one in force and the other
  pub clean_pair : (pair : TwoDisks D g) (plant : List Actuator) (d : Persistent) (count : ℕ) →
      OpensCleanly plant pair.digest d count (g.reads (first_disk pair)) (g.reads (second_disk pair)) → is_clean pair plant d count
  unfolding is_clean
  clean_pair pair plant d count opens = λ told. into_order g.reads (OpensCleanly plant pair.digest d count) pair.second pair.journal.disk pair.spare opens

  pub stands_out : (pair : TwoDisks D g) (plant : List Actuator) (from : Persistent) (before : ℕ) (events : List Event) → stands_for pair plant from before events → g.tells →
      StandsFor plant pair.digest from before events (g.reads (first_disk pair)) (g.reads (second_disk pair))
  unfolding stands_for
  stands_out pair plant from before events stands told = out_of_order g.reads (StandsFor plant pair.digest from before events) pair.second pair.journal.disk pair.spare (stands told)

  pub damaged_out : (pair : TwoDisks D g) (plant : List Actuator) (place : ℕ) → is_damaged_at pair plant place → g.tells →
      DamagedAt plant pair.digest place (g.reads (first_disk pair)) (g.reads (second_disk pair))
  unfolding is_damaged_at
  damaged_out pair plant place damaged told = out_of_order g.reads (DamagedAt plant pair.digest place) pair.second pair.journal.disk pair.spare (damaged told)

  -- ---- what was opened

  module _ (old new : TwoDisks D g) (plant : List Actuator) (limit : ℕ) (from : Persistent) (s : State) (same_digest : new.digest ≡ old.digest) where
    pub went_on : (result : Result (Durable D g) ((D × D) × DurableRefusal)) → GoesOn old new plant from s.persistent → counts_of new ≡ counts_of old →
        Finishing plant s limit new result → Opening plant old.digest limit (first_disk old) (second_disk old) result
    went_on result goes same finishing =
        finished plant old.digest limit (first_disk old) (second_disk old) s new result finishing same_digest
        (λ told. record {
          from = from;
          before = old.events;
          events = goes.events;
          stands = stands_out old plant from old.events goes.events goes.stands told;
          lasting = s.persistent;
          leads = goes.leads;
          state_is = refl;
          number_is = goes.number;
        }) same

    pub went_on_cleanly : (result : Result (Durable D g) ((D × D) × DurableRefusal)) → g.tells →
        ((d : Persistent) (count : ℕ) → is_clean old plant d count → ShutsCleanly old new plant d count s.persistent (Ok tt)) →
        Finishing plant s limit new result → Stays plant old.digest (first_disk old) (second_disk old) result
    went_on_cleanly result told shuts finishing d count opens =
        let shut = shuts d count (clean_pair old plant d count opens) in (
          shut.after,
          shut.may,
          finished_legs plant old.digest limit (first_disk old) (second_disk old) s new result finishing same_digest told d shut.after shut.same
              (run_legs old new plant d shut.after shut.runs told),
        )

  -- ---- what was refused

  module _ (old new : TwoDisks D g) (plant : List Actuator) (limit : ℕ) (back : D × D) (is : (back.0 ≡ first_disk new) × (back.1 ≡ second_disk new)) (why : DurableRefusal) where
    pub went_wrong : IsOfLog why → ((place : ℕ) → why ≡ Damaged place → is_damaged_at old plant place) →
        (g.tells → (place : ℕ) → why ≡ Damaged place → g.reads new.journal.disk ≡ g.reads old.journal.disk) → new.second ≡ old.second → new.spare ≡ old.spare →
        PairCause (counts_of old) (counts_of new) why → Opening {D = D} {g = g} plant old.digest limit (first_disk old) (second_disk old) (Err (back, why))
    went_wrong kind damaged still order spare cause =
        refused plant old.digest limit (first_disk old) (second_disk old) back why
        (λ told. of_log plant old.digest (g.reads (first_disk old)) (g.reads (second_disk old)) why kind (λ place at. damaged_out old plant place (damaged place at) told))
        (λ told some. of_damage ((g.reads back.0 ≡ g.reads (first_disk old)) × (g.reads back.1 ≡ g.reads (second_disk old))) why kind
        (λ place at. (back_first old new back is order spare g.reads (still told place at), back_second old new back is order spare g.reads (still told place at))) some)
        (subst (λ (now : Counts). PairCause (counts_of old) now why) (closed_counts new back is) cause)

    pub wrong_untouched : IsOfLog why → ((place : ℕ) → why ≡ Damaged place → g.story new.journal.disk ≡ g.story old.journal.disk) → new.second ≡ old.second → new.spare ≡ old.spare →
        IsUntouched {D = D} {g = g} (first_disk old) (second_disk old) (Err (back, why))
    wrong_untouched kind still order spare some =
        of_damage ((g.story back.0 ≡ g.story (first_disk old)) × (g.story back.1 ≡ g.story (second_disk old))) why kind
        (λ place at. (back_first old new back is order spare g.story (still place at), back_second old new back is order spare g.story (still place at))) some

    pub wrong_cleanly : g.tells → (now : Persistent) (result : Result Unit DurableRefusal) →
        ((d : Persistent) (count : ℕ) → is_clean old plant d count → ShutsCleanly old new plant d count now result) →
        Stays {D = D} {g = g} plant old.digest (first_disk old) (second_disk old) (Err (back, why))
    wrong_cleanly told now result shuts d count opens =
        let shut = shuts d count (clean_pair old plant d count opens) in (
          shut.after,
          shut.may,
          subst (λ x. Legs (LeaveBoth (OpensToOne plant old.digest d shut.after)) (two (g.story (first_disk old)) (g.story (second_disk old))) (two (g.story x) (g.story back.1))) (sym is.0)
              (subst (λ x. Legs (LeaveBoth (OpensToOne plant old.digest d shut.after)) (two (g.story (first_disk old)) (g.story (second_disk old))) (two (g.story (first_disk new)) (g.story x)))
              (sym is.1) (run_legs old new plant d shut.after shut.runs told)),
        )
