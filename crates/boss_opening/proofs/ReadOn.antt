-- A pair in whose log was read on: what carries over.
use Rattle.std.proofs.Common.{◌≡◌, ℕ, ◌+◌, List, [], ◌++◌, length, refl, sym, ap, subst, ◌∙◌, append_assoc, append-nil, length-append, arith}
use Rattle.boss_disk.specs.declared.disk.Disk as disk
use Rattle.boss_disk.specs.Legs.{Legs, LeaveBoth, Two}
use Rattle.boss_disk.specs.Story.{Story}
use Rattle.boss_disk.specs.Window.{settled}
use Rattle.boss_pair_find.specs.declared.refusal.DurableRefusal.{DurableRefusal}
use Rattle.boss_pair_find.specs.Refusals.{DiskCause, PairCause}
use Rattle.boss_pair_find.specs.Two.{counts}
use Rattle.boss_pair_find.proofs.Told.{disk_cause, none_rose}
use Rattle.boss_model.specs.declared.event.Event.{Event}
use Rattle.boss_model.specs.declared.state.Actuator.{Actuator}
use Rattle.boss_model.specs.State.{Persistent}
use Rattle.def_disk_pair.specs.Pairs.{DamagedAt, OpensCleanly, StandsFor}
use Rattle.def_disk_pair.proofs.Replays.{replay_join}
use Rattle.boss_disk_pair.specs.declared.two_disks.TwoDisks.{TwoDisks}
use Rattle.boss_disk_pair.specs.Causes.{Counts, counts_of}
use Rattle.boss_disk_pair.specs.Images.{OpensToOne}
use Rattle.boss_disk_pair.specs.Orders.{InOrder, first_of, second_of, stories_of}
use Rattle.boss_disk_pair.specs.Reads.{ends_at, is_clean, is_damaged_at, is_settled, reads_to, stands_for}
use Rattle.boss_disk_pair.specs.Rests.{passes, stories}
use Rattle.boss_disk_pair.proofs.Orders.{both_stand}
use Rattle.boss_disk_pair.proofs.Words.{synced_leaves}
use Rattle.boss_opening.specs.Reading.{IsAtLast, IsReadOn, ReadsOn, ReadWhole}

module _ {D : Type 0} {g : disk.Ghosts D} where
  -- ---- all but the place

  pub not_read : (pair : TwoDisks D g) → IsReadOn pair pair
  not_read pair = record {
    reads = λ told. refl;
    windows = λ told. refl;
    spare = refl;
    order = refl;
    version = refl;
    generation = refl;
    events = refl;
    digest = refl;
  }

  pub read_further : (a b c : TwoDisks D g) → IsReadOn a b → IsReadOn b c → IsReadOn a c
  read_further a b c one two = record {
    reads = λ told. two.reads told ∙ one.reads told;
    windows = λ told. two.windows told ∙ one.windows told;
    spare = two.spare ∙ one.spare;
    order = two.order ∙ one.order;
    version = two.version ∙ one.version;
    generation = two.generation ∙ one.generation;
    events = two.events ∙ one.events;
    digest = two.digest ∙ one.digest;
  }

  -- ---- events

  pub none_read : (pair : TwoDisks D g) (plant : List Actuator) (d : Persistent) → ReadsOn pair pair plant d 0 d
  none_read pair plant d = record {
    batch = [];
    many = refl;
    leads = refl;
    goes = λ from before events at. subst (λ es. reads_to pair plant from before es d) (sym (append-nil events)) at;
  }

  pub reads_further : (a b c : TwoDisks D g) (plant : List Actuator) (d mid to : Persistent) (n m : ℕ) → ReadsOn a b plant d n mid → ReadsOn b c plant mid m to →
      ReadsOn a c plant d (n + m) to
  reads_further a b c plant d mid to n m one two = record {
    batch = one.batch ++ two.batch;
    many = length-append one.batch two.batch ∙ ap (λ k. k + length two.batch) one.many ∙ ap (λ k. n + k) two.many;
    leads = replay_join plant d one.batch two.batch mid one.leads ∙ two.leads;
    goes = λ from before events at. subst (λ es. reads_to c plant from before es to) (append_assoc events one.batch two.batch)
        (two.goes from before (events ++ one.batch) (one.goes from before events at));
  }

  pub whole_log : (a b c : TwoDisks D g) (plant : List Actuator) (d to : Persistent) (count : ℕ) → ReadsOn a b plant d count to → IsAtLast b c plant to →
      ReadWhole a c plant d count to
  whole_log a b c plant d to count read last = record {
    events = read.batch;
    many = read.many;
    leads = read.leads;
    ends = λ before at. last.ends d before read.batch (read.goes d before [] at);
    stands = λ before at. last.stands d before read.batch (read.goes d before [] at);
  }

  -- ---- what is said of the disks

  module _ (old new : TwoDisks D g) (same : IsReadOn old new) where
    pub back : (P : List ℕ → List ℕ → List ℕ → Type 0) → g.tells → InOrder (P new.digest) new.second (g.reads new.journal.disk) (g.reads new.spare) →
        InOrder (P old.digest) old.second (g.reads old.journal.disk) (g.reads old.spare)
    back P told here =
        subst (λ x. InOrder (P old.digest) old.second (g.reads old.journal.disk) (g.reads x)) same.spare
        (subst (λ r. InOrder (P old.digest) old.second r (g.reads new.spare)) (same.reads told)
        (subst (λ b. InOrder (P old.digest) b (g.reads new.journal.disk) (g.reads new.spare)) same.order
        (subst (λ digest. InOrder (P digest) new.second (g.reads new.journal.disk) (g.reads new.spare)) same.digest here)))

    on : (P : List ℕ → List ℕ → List ℕ → Type 0) → g.tells → InOrder (P old.digest) old.second (g.reads old.journal.disk) (g.reads old.spare) →
        InOrder (P new.digest) new.second (g.reads new.journal.disk) (g.reads new.spare)
    on P told here =
        subst (λ digest. InOrder (P digest) new.second (g.reads new.journal.disk) (g.reads new.spare)) (sym same.digest)
        (subst (λ b. InOrder (P old.digest) b (g.reads new.journal.disk) (g.reads new.spare)) (sym same.order)
        (subst (λ r. InOrder (P old.digest) old.second r (g.reads new.spare)) (sym (same.reads told))
        (subst (λ x. InOrder (P old.digest) old.second (g.reads old.journal.disk) (g.reads x)) (sym same.spare) here)))

    pub stood_for : (plant : List Actuator) (from : Persistent) (before : ℕ) (events : List Event) → stands_for new plant from before events → stands_for old plant from before events
    unfolding stands_for
    stood_for plant from before events stands = λ told. back (λ digest. StandsFor plant digest from before events) told (stands told)

    pub was_damaged : (plant : List Actuator) (place : ℕ) → is_damaged_at new plant place → is_damaged_at old plant place
    unfolding is_damaged_at
    was_damaged plant place damaged = λ told. back (λ digest. DamagedAt plant digest place) told (damaged told)

    pub still_clean : (plant : List Actuator) (d : Persistent) (count : ℕ) → is_clean old plant d count → is_clean new plant d count
    unfolding is_clean
    still_clean plant d count clean = λ told. on (λ digest. OpensCleanly plant digest d count) told (clean told)

    pub still_settled : is_settled old → is_settled new
    unfolding is_settled
    still_settled synced = λ told. (
      ap (λ (s : Story). s.window) (same.windows told) ∙ (synced told).0 ∙ ap settled (sym (same.reads told)),
      subst (λ x. (g.story x).window ≡ settled (g.reads x)) (sym same.spare) (synced told).1,
    )

    -- ---- counts

    counts_in : counts_of new ≡ counts (g.faults (first_of old.second new.journal.disk old.spare)) (g.faults (second_of old.second new.journal.disk old.spare))
    counts_in =
        ap (λ b. counts (g.faults (first_of b new.journal.disk new.spare)) (g.faults (second_of b new.journal.disk new.spare))) same.order
        ∙ ap (λ x. counts (g.faults (first_of old.second new.journal.disk x)) (g.faults (second_of old.second new.journal.disk x))) same.spare

    pub counts_still : g.faults new.journal.disk ≡ g.faults old.journal.disk → counts_of new ≡ counts_of old
    counts_still none = counts_in ∙ none_rose g.faults new.journal.disk old.journal.disk old.spare old.second none

    pub pair_cause : (why : DurableRefusal) → DiskCause (g.faults old.journal.disk) (g.faults new.journal.disk) why → PairCause (counts_of old) (counts_of new) why
    pair_cause why cause = subst (λ (now : Counts). PairCause (counts_of old) now why) (sym counts_in)
        (disk_cause g.faults new.journal.disk old.journal.disk old.spare old.second why cause)

    -- ---- a crash

    stories_in : g.tells → stories new ≡ stories old
    stories_in told =
        ap (λ b. stories_of b (g.story new.journal.disk) (g.story new.spare)) same.order
        ∙ ap (λ x. stories_of old.second (g.story new.journal.disk) (g.story x)) same.spare
        ∙ ap (λ s. stories_of old.second s (g.story old.spare)) (same.windows told)

    -- of a synced and clean pair a crash leaves what it stands for
    pub stays_clean : (plant : List Actuator) (d : Persistent) (count : ℕ) → is_settled old → is_clean old plant d count → passes old new plant d d
    unfolding is_settled is_clean passes
    stays_clean plant d count synced clean = λ told. (
      same.digest,
      subst (λ (s : Two). Legs (LeaveBoth (OpensToOne plant old.digest d d)) (stories old) s) (sym (stories_in told))
          (both_stand (LeaveBoth (OpensToOne plant old.digest d d)) old.second (g.story old.journal.disk) (g.story old.spare)
          (synced_leaves plant old.digest old.second _ _ _ _ d d count (synced told).0 (synced told).1 (clean told))),
    )
