-- What an opening tells, put together from what its steps tell.
use Rattle.std.proofs.Common.{◌≡◌, inl, inr, ◌⊎◌, ℕ, ◌+◌, Bool, true, false, List, [], length, refl, sym, ap, subst, ◌∙◌, Option, Some}
use Rattle.std.specs.Prelude.{Result, Ok, Err, IfOk, IfErr, OnOk}
use Rattle.boss_disk.specs.declared.disk.Disk as disk
use Rattle.boss_disk.specs.Legs.{Legs, LeaveBoth, Two, stand}
use Rattle.boss_disk.specs.Story.{Story}
use Rattle.boss_disk.specs.Window.{Window, settled}
use Rattle.boss_disk.proofs.Legs.{then_legs, weaker_legs}
use Rattle.boss_disk.proofs.Torn.{synced_image}
use Rattle.boss_durable.specs.declared.durable.Durable.{Durable}
use Rattle.boss_pair_find.specs.declared.refusal.DurableRefusal.{DurableRefusal}
use Rattle.boss_pair_find.specs.declared.refusal.DurableRefusal.TheVariants.{NotAJournal, Version, Catalogue, Damaged, DiskFault, NoMemory}
use Rattle.boss_pair_find.specs.Refusals.{AnswerCause, FindRefuses, IsOfBytes, PairCause}
use Rattle.boss_pair_find.specs.Two.{counts, two, MightLeave}
use Rattle.boss_pair_find.proofs.Orders.{into_order, out_of_order, stories_are}
use Rattle.boss_model.specs.declared.event.Event.{Event}
use Rattle.boss_model.specs.declared.state.Actuator.{Actuator}
use Rattle.boss_model.specs.Settle.{opened}
use Rattle.boss_model.specs.State.{Persistent, State}
use Rattle.def_disk_pair.specs.Pairs.{DamagedAt, OpensCleanly, StandsFor}
use Rattle.boss_disk_pair.specs.declared.two_disks.TwoDisks.{TwoDisks}
use Rattle.boss_disk_pair.specs.Causes.{Counts, counts_of, first_disk, second_disk}
use Rattle.boss_disk_pair.specs.Images.{OpensToOne}
use Rattle.boss_disk_pair.specs.Orders.{InOrder, first_of, second_of}
use Rattle.boss_disk_pair.specs.Reads.{is_clean, is_damaged_at, is_settled, stands_for}
use Rattle.boss_disk_pair.specs.Rests.{passes, stories}
use Rattle.boss_opening.specs.Opens.{Finishing, IsReady, IsUntouched, Meanwhile, OpenedAt, OpenRefuses, Opening, Stays, WhileLooked, first_left, second_left}
use Rattle.boss_opening.specs.Reading.{GoesOn, IsOfLog, IsOfNoBytes, ShutsCleanly}
use Rattle.boss_opening.specs.UnderWay.{MayComeTo}

-- what is settled has one image each
alone : (P : List ℕ → List ℕ → Type 0) (one other : List ℕ) (first second : Window) → first ≡ settled one → second ≡ settled other → P one other → LeaveBoth P first second
alone P one other first second synced too here = λ a b image last.
    subst (λ x. P x b) (sym (synced_image first one a synced image)) (subst (λ y. P one y) (sym (synced_image second other b too last)) here)

-- what opens to a state opens to one of two
opens_to : (plant : List Actuator) (digest : List ℕ) (d after : Persistent) (a b : List ℕ) → OpensToOne plant digest d d a b → OpensToOne plant digest d after a b
opens_to plant digest d after a b (inl opens) = inl opens
opens_to plant digest d after a b (inr opens) = inl opens

-- a refusal that says nothing of the bytes may be told of any pair
pub of_no_bytes : (plant : List Actuator) (digest first second : List ℕ) (why : DurableRefusal) → IsOfNoBytes why → OpenRefuses plant digest first second why
of_no_bytes plant digest first second NotAJournal none = absurd none
of_no_bytes plant digest first second (Version found) none = absurd none
of_no_bytes plant digest first second (Catalogue kept found) none = absurd none
of_no_bytes plant digest first second (Damaged place) none = absurd none
of_no_bytes plant digest first second DiskFault none = tt
of_no_bytes plant digest first second NoMemory none = tt

pub not_of_bytes : (why : DurableRefusal) → IsOfNoBytes why → IsOfBytes why → ⊥
not_of_bytes NotAJournal none some = none
not_of_bytes (Version found) none some = none
not_of_bytes (Catalogue kept found) none some = none
not_of_bytes (Damaged place) none some = none
not_of_bytes DiskFault none some = some
not_of_bytes NoMemory none some = some

-- what a log is refused for
pub of_log : (plant : List Actuator) (digest first second : List ℕ) (why : DurableRefusal) → IsOfLog why → ((place : ℕ) → why ≡ Damaged place → DamagedAt plant digest place first second) →
    OpenRefuses plant digest first second why
of_log plant digest first second NotAJournal kind damaged = absurd kind
of_log plant digest first second (Version found) kind damaged = absurd kind
of_log plant digest first second (Catalogue kept found) kind damaged = absurd kind
of_log plant digest first second (Damaged place) kind damaged = inr (inr (damaged place refl))
of_log plant digest first second DiskFault kind damaged = tt
of_log plant digest first second NoMemory kind damaged = tt

-- what is found is refused so by an opening
pub of_find : (plant : List Actuator) (digest first second : List ℕ) (why : DurableRefusal) → FindRefuses digest first second why → OpenRefuses plant digest first second why
of_find plant digest first second NotAJournal found = found
of_find plant digest first second (Version version) found = found
of_find plant digest first second (Catalogue kept other) found = found
of_find plant digest first second (Damaged place) found = inl found
of_find plant digest first second DiskFault found = tt
of_find plant digest first second NoMemory found = tt

pub of_damage : (P : Type 0) (why : DurableRefusal) → IsOfLog why → ((place : ℕ) → why ≡ Damaged place → P) → IsOfBytes why → P
of_damage P NotAJournal kind damaged some = absurd kind
of_damage P (Version found) kind damaged some = absurd kind
of_damage P (Catalogue kept found) kind damaged some = absurd kind
of_damage P (Damaged place) kind damaged some = damaged place refl
of_damage P DiskFault kind damaged some = absurd some
of_damage P NoMemory kind damaged some = absurd some

module _ {D : Type 0} {g : disk.Ghosts D} where
  -- ---- a pair that is refused

  pub refused : (plant : List Actuator) (digest : List ℕ) (limit : ℕ) (first second : D) (back : D × D) (why : DurableRefusal) →
      (g.tells → OpenRefuses plant digest (g.reads first) (g.reads second) why) →
      (g.tells → IsOfBytes why → (g.reads back.0 ≡ g.reads first) × (g.reads back.1 ≡ g.reads second)) →
      PairCause (counts (g.faults first) (g.faults second)) (counts (g.faults back.0) (g.faults back.1)) why →
      Opening {D = D} {g = g} plant digest limit first second (Err (back, why))
  refused plant digest limit first second back why refuses still cause = record {
    refuses = refuses;
    unchanged = still;
    opens = λ told. tt;
    ready = tt;
    cause = cause;
  }

  pub none_touched : (first second : D) (result : Result (Durable D g) ((D × D) × DurableRefusal)) → IfErr result (λ refused. IsOfNoBytes refused.1) → IsUntouched first second result
  none_touched first second (Ok durable) none = tt
  none_touched first second (Err refused) none = λ some. absurd (not_of_bytes refused.1 none some)

  -- ---- other disks that read the same

  module _ (plant : List Actuator) (digest : List ℕ) (limit : ℕ) (a b x y : D) (result : Result (Durable D g) ((D × D) × DurableRefusal))
      (one : g.tells → g.reads a ≡ g.reads x) (other : g.tells → g.reads b ≡ g.reads y) where
    pub same_opening : counts (g.faults a) (g.faults b) ≡ counts (g.faults x) (g.faults y) → Opening plant digest limit a b result → Opening plant digest limit x y result
    same_opening same opening = record {
      refuses = λ told.
          subst (λ r. IfErr result (λ refused. OpenRefuses plant digest r (g.reads y) refused.1)) (one told)
          (subst (λ r. IfErr result (λ refused. OpenRefuses plant digest (g.reads a) r refused.1)) (other told) (opening.refuses told));
      unchanged = λ told.
          subst (λ r. IfErr result (λ refused. IsOfBytes refused.1 → (g.reads refused.0.0 ≡ r) × (g.reads refused.0.1 ≡ g.reads y))) (one told)
          (subst (λ r. IfErr result (λ refused. IsOfBytes refused.1 → (g.reads refused.0.0 ≡ g.reads a) × (g.reads refused.0.1 ≡ r))) (other told) (opening.unchanged told));
      opens = λ told.
          subst (λ r. IfOk result (λ durable. OpenedAt plant digest r (g.reads y) durable.engine.state durable.disks.events)) (one told)
          (subst (λ r. IfOk result (λ durable. OpenedAt plant digest (g.reads a) r durable.engine.state durable.disks.events)) (other told) (opening.opens told));
      ready = opening.ready;
      cause = subst (λ (before : Counts). AnswerCause before (counts (g.faults (first_left result)) (g.faults (second_left result))) result) same opening.cause;
    }

    pub same_stays : g.tells → g.story a ≡ g.story x → g.story b ≡ g.story y → Stays plant digest a b result → Stays plant digest x y result
    same_stays told moved also stays d count opens =
        let there = stays d count
        (subst (λ r. OpensCleanly plant digest d count r (g.reads b)) (sym (one told)) (subst (λ r. OpensCleanly plant digest d count (g.reads x) r) (sym (other told)) opens)) in (
          there.0,
          subst (λ r. MayComeTo plant digest d count there.0 r (g.reads y)) (one told) (subst (λ r. MayComeTo plant digest d count there.0 (g.reads a) r) (other told) there.1),
          subst (λ s. Legs (LeaveBoth (OpensToOne plant digest d there.0)) (two s (g.story y)) (two (g.story (first_left result)) (g.story (second_left result)))) moved
              (subst (λ s. Legs (LeaveBoth (OpensToOne plant digest d there.0)) (two (g.story a) s) (two (g.story (first_left result)) (g.story (second_left result)))) also there.2),
        )

    pub same_untouched : g.story a ≡ g.story x → g.story b ≡ g.story y → IsUntouched a b result → IsUntouched x y result
    same_untouched moved also untouched =
        subst (λ s. IfErr result (λ refused. IsOfBytes refused.1 → (g.story refused.0.0 ≡ s) × (g.story refused.0.1 ≡ g.story y))) moved
        (subst (λ s. IfErr result (λ refused. IsOfBytes refused.1 → (g.story refused.0.0 ≡ g.story a) × (g.story refused.0.1 ≡ s))) also untouched)

  -- ---- a pair that rests and is finished

  -- of one that stood for events which lead there
  module _ (plant : List Actuator) (digest : List ℕ) (limit : ℕ) (first second : D) (s : State) (pair : TwoDisks D g)
      (result : Result (Durable D g) ((D × D) × DurableRefusal)) (finishing : Finishing plant s limit pair result) (same_digest : pair.digest ≡ digest) where
    opened_at : (other : Result (Durable D g) ((D × D) × DurableRefusal)) → IfOk other (λ durable. durable.engine.state ≡ opened plant s.persistent) →
        IfOk other (λ durable. durable.disks.events ≡ pair.events) → OpenedAt plant digest (g.reads first) (g.reads second) (opened plant s.persistent) pair.events →
        IfOk other (λ durable. OpenedAt plant digest (g.reads first) (g.reads second) durable.engine.state durable.disks.events)
    opened_at (Err refused) state number at = tt
    opened_at (Ok durable) state number at = record {
      from = at.from;
      before = at.before;
      events = at.events;
      stands = at.stands;
      lasting = at.lasting;
      leads = at.leads;
      state_is = state ∙ at.state_is;
      number_is = number ∙ at.number_is;
    }

    refuses_so : (other : Result (Durable D g) ((D × D) × DurableRefusal)) → IfErr other (λ refused. IsOfNoBytes refused.1) →
        IfErr other (λ refused. OpenRefuses plant digest (g.reads first) (g.reads second) refused.1)
    refuses_so (Ok durable) none = tt
    refuses_so (Err refused) none = of_no_bytes plant digest (g.reads first) (g.reads second) refused.1 none

    none_unchanged : (other : Result (Durable D g) ((D × D) × DurableRefusal)) → IfErr other (λ refused. IsOfNoBytes refused.1) →
        IfErr other (λ refused. IsOfBytes refused.1 → (g.reads refused.0.0 ≡ g.reads first) × (g.reads refused.0.1 ≡ g.reads second))
    none_unchanged (Ok durable) none = tt
    none_unchanged (Err refused) none = λ some. absurd (not_of_bytes refused.1 none some)

    pub finished : (g.tells → OpenedAt plant digest (g.reads first) (g.reads second) (opened plant s.persistent) pair.events) →
        counts_of pair ≡ counts (g.faults first) (g.faults second) → Opening plant digest limit first second result
    finished at same = record {
      refuses = λ told. refuses_so result finishing.refuses;
      unchanged = λ told. none_unchanged result finishing.refuses;
      opens = λ told. opened_at result finishing.state_is finishing.number_is (at told);
      ready = subst (λ key. IfOk result (IsReady plant key limit)) same_digest finishing.ready;
      cause = subst (λ (before : Counts). AnswerCause before (counts (g.faults (first_left result)) (g.faults (second_left result))) result) same finishing.cause;
    }

    pub finished_legs : g.tells → (d after : Persistent) → d ≡ s.persistent →
        Legs (LeaveBoth (OpensToOne plant digest d after)) (two (g.story first) (g.story second)) (two (g.story (first_disk pair)) (g.story (second_disk pair))) →
        Legs (LeaveBoth (OpensToOne plant digest d after)) (two (g.story first) (g.story second)) (two (g.story (first_left result)) (g.story (second_left result)))
    finished_legs told d after same legs =
        let kept : Legs (LeaveBoth (OpensToOne plant digest d d)) (two (g.story (first_disk pair)) (g.story (second_disk pair)))
        (two (g.story (first_left result)) (g.story (second_left result))) =
        subst (λ x. Legs (LeaveBoth (OpensToOne plant digest x x)) (two (g.story (first_disk pair)) (g.story (second_disk pair)))
        (two (g.story (first_left result)) (g.story (second_left result)))) (sym same)
        (subst (λ key. Legs (LeaveBoth (OpensToOne plant key s.persistent s.persistent)) (two (g.story (first_disk pair)) (g.story (second_disk pair)))
        (two (g.story (first_left result)) (g.story (second_left result)))) same_digest (finishing.runs told)) in
        then_legs legs (weaker_legs {Q = LeaveBoth (OpensToOne plant digest d d)} {R = LeaveBoth (OpensToOne plant digest d after)}
        (λ w v leave a b image last. opens_to plant digest d after a b (leave a b image last)) kept)

module _ {D : Type 0} (g : disk.Ghosts D) where
  -- ---- disks that stay

  pub nothing_moved : (plant : List Actuator) (digest : List ℕ) (first second : D) (back : D × D) (why : DurableRefusal) →
      (g.story first).window ≡ settled (g.reads first) → (g.story second).window ≡ settled (g.reads second) →
      g.story back.0 ≡ g.story first → g.story back.1 ≡ g.story second → Stays {D = D} {g = g} plant digest first second (Err (back, why))
  nothing_moved plant digest first second back why synced too one other d count opens = (
    d,
    inl refl,
    subst (λ s. Legs (LeaveBoth (OpensToOne plant digest d d)) (two (g.story first) (g.story second)) (two s (g.story back.1))) (sym one)
        (subst (λ s. Legs (LeaveBoth (OpensToOne plant digest d d)) (two (g.story first) (g.story second)) (two (g.story first) s)) (sym other)
        (stand (two (g.story first) (g.story second))
        (alone (OpensToOne plant digest d d) (g.reads first) (g.reads second) (g.story first).window (g.story second).window synced too (inl (count, opens))))),
  )

  -- ---- behind a sync of both

  abbrev Synced : D → D → D → D → Type 0
  Synced first second a b = Legs (LeaveBoth (MightLeave (g.story first).window (g.story second).window)) (two (g.story first) (g.story second)) (two (g.story a) (g.story b))

  abbrev Either : List Actuator → List ℕ → Persistent → Persistent → D → D → List ℕ → List ℕ → Type 0
  Either plant digest d after first second a b = MightLeave (g.story first).window (g.story second).window a b ⊎ OpensToOne plant digest d after a b

  module _ (plant : List Actuator) (digest : List ℕ) (first second a b : D) (run : Synced first second a b) where
    sync_legs : (d after : Persistent) → Legs (LeaveBoth (Either plant digest d after first second)) (two (g.story first) (g.story second)) (two (g.story a) (g.story b))
    sync_legs d after = weaker_legs {Q = LeaveBoth (MightLeave (g.story first).window (g.story second).window)} {R = LeaveBoth (Either plant digest d after first second)}
        (λ w v leave x y image last. inl (leave x y image last)) run

    pub synced_then : (result : Result (Durable D g) ((D × D) × DurableRefusal)) → g.reads a ≡ g.reads first → g.reads b ≡ g.reads second → Stays plant digest a b result →
        (d : Persistent) (count : ℕ) → OpensCleanly plant digest d count (g.reads first) (g.reads second) →
        (after : Persistent) × MayComeTo plant digest d count after (g.reads first) (g.reads second)
        × Meanwhile plant digest d after (g.story first) (g.story second) (g.story (first_left result)) (g.story (second_left result))
    synced_then result one other stays d count opens =
        let there = stays d count
        (subst (λ r. OpensCleanly plant digest d count r (g.reads b)) (sym one) (subst (λ r. OpensCleanly plant digest d count (g.reads first) r) (sym other) opens)) in (
          there.0,
          subst (λ r. MayComeTo plant digest d count there.0 r (g.reads second)) one (subst (λ r. MayComeTo plant digest d count there.0 (g.reads a) r) other there.1),
          then_legs (sync_legs d there.0) (weaker_legs {Q = LeaveBoth (OpensToOne plant digest d there.0)} {R = LeaveBoth (Either plant digest d there.0 first second)}
              (λ w v leave x y image last. inr (leave x y image last)) there.2),
        )

    pub synced_ill : (d : Persistent) (count : ℕ) → (after : Persistent) × MayComeTo plant digest d count after (g.reads first) (g.reads second)
        × Meanwhile plant digest d after (g.story first) (g.story second) (g.story a) (g.story b)
    synced_ill d count = (d, inl refl, sync_legs d d)

    pub synced_untouched : (result : Result (Durable D g) ((D × D) × DurableRefusal)) → IsUntouched a b result →
        IfErr result (λ refused. IsOfBytes refused.1 → WhileLooked (two (g.story first) (g.story second)) (two (g.story refused.0.0) (g.story refused.0.1)))
    synced_untouched (Ok durable) untouched = tt
    synced_untouched (Err refused) untouched = λ some.
        let same = untouched some in
        subst (λ s. WhileLooked (two (g.story first) (g.story second)) (two s (g.story refused.0.1))) (sym same.0)
        (subst (λ s. WhileLooked (two (g.story first) (g.story second)) (two (g.story a) s)) (sym same.1) run)
