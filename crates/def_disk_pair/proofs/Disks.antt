-- What one disk holds, and what a pair stands for.
use Rattle.std.proofs.Common.{◌≡◌, ◌⊎◌, inl, inr, ℕ, ◌+◌, ◌^◌, ◌%◌, ◌<◌, ◌==◌, false, cond, List, [], ◌∷◌, ◌++◌, length, Some, refl, sym, ap, subst, ◌∙◌, arith}
use Rattle.std.specs.List.{AllByRecursion}
use Rattle.std.proofs.lemmas.Bool.{eq-eqb}
use Rattle.std.proofs.lemmas.Bool.Decides.{nat_tests}
use Rattle.boss_model.specs.declared.event.Event.{Event}
use Rattle.boss_model.specs.declared.state.Actuator.{Actuator}
use Rattle.boss_model.specs.Run.{replay_all}
use Rattle.boss_model.specs.State.{Persistent, first_persistent}
use Rattle.def_bytes.specs.Batches.{IsBatch, act_number, IsOfVersion}
use Rattle.def_log.specs.declared.kind.DiskKind.TheVariants.{Plain, State}
use Rattle.def_log.specs.InForce.{InForce, Foreign, Neither, First, Second}
use Rattle.def_log.specs.Kinds.{kind_of, in_force}
use Rattle.def_log.specs.Log.{spelled, IsLog}
use Rattle.def_log.proofs.Records.{records-of-log}
use Rattle.def_disk_pair.specs.Fronts.{IsStateFront}
use Rattle.def_seal.specs.Seals.{seed_of}
use Rattle.def_disk_pair.specs.Contents.{joined, records_of, last_gate, IsNext, IsCourse, Holds, HoldsCleanly, EndsCleanly}
use Rattle.def_disk_pair.specs.Damage.{LeadsNowhere, IsDamagedAt}
use Rattle.def_disk_pair.specs.Pairs.{IsNew, OfThatInForce, HasEvents, StandsFor, Opens, OpensCleanly, DamagedAt}
use Rattle.def_disk_pair.proofs.OfKinds.{state_front}
use Rattle.def_disk_pair.proofs.OfRecords.{are_records, same_batches, ends_of, at_last_gate, never_both, one_damage}
use Rattle.def_disk_pair.proofs.Prefixes.{same_front}
use Rattle.def_disk_pair.proofs.Replays.{some-is, replay_join, all_join, joined_more}

-- records behind one front, where versions and fronts are the same
moved : (version other : ℕ) (front ahead : List ℕ) (cs : List (List Event)) (x y : List ℕ) → version ≡ other → front ≡ ahead
    → x ≡ spelled (records_of other ahead cs) ++ y → x ≡ spelled (records_of version front cs) ++ y
moved version other front ahead cs x y same one is =
    subst (λ f. x ≡ spelled (records_of version f cs) ++ y) (sym one) (subst (λ v. x ≡ spelled (records_of v ahead cs) ++ y) (sym same) is)

module _ (plant : List Actuator) (digest : List ℕ) where
  -- ---- one disk

  -- what leads nowhere behind one front leads nowhere behind the same one, at the place where its records end
  nowhere_in : (version other place : ℕ) (front ahead : List ℕ) (cs : List (List Event)) (d : Persistent) (u : List ℕ) → version ≡ other → front ≡ ahead
      → place ≡ last_gate other ahead cs → LeadsNowhere plant other ahead place d u
      → LeadsNowhere plant version front (ends_of plant version front (length front) cs) d u
  nowhere_in version other place front ahead cs d u same one here nowhere =
      let at_gate = subst (λ p. LeadsNowhere plant other ahead p d u) (here ∙ at_last_gate other ahead cs) nowhere in
      subst (λ f. LeadsNowhere plant version f (ends_of plant version f (length f) cs) d u) (sym one)
      (subst (λ v. LeadsNowhere plant v ahead (ends_of plant v ahead (length ahead) cs) d u) (sym same) at_gate)

  record OneThing (from other : Persistent) (before many : ℕ) (bs cs : List (List Event)) (to until : Persistent) : Type 0 where
    from_same : from ≡ other
    before_same : before ≡ many
    batches_same : bs ≡ cs
    to_same : to ≡ until

  holds_one : (from other : Persistent) (before many : ℕ) (bs cs : List (List Event)) (to until : Persistent) (bytes : List ℕ) →
      Holds plant digest from before bs to bytes → Holds plant digest other many cs until bytes → OneThing from other before many bs cs to until
  holds_one from other before many bs cs to until bytes p q =
      let same = same_front plant digest p.version q.version from other before many p.front q.front _ _ p.course.is_front q.course.is_front (sym p.log.is ∙ q.log.is) in
      let theirs : IsLog p.front (records_of p.version p.front cs) bytes =
      subst (λ f. IsLog f (records_of p.version f cs) bytes) (sym same.front_same) (subst (λ v. IsLog q.front (records_of v q.front cs) bytes) (sym same.version_same) q.log) in
      let batches = same_batches p.version (length p.front) (seed_of p.front) bs cs p.course.each q.course.each
      (records-of-log p.front bytes (records_of p.version p.front bs) (records_of p.version p.front cs) p.log theirs) in
      record {
        from_same = same.from_same;
        before_same = same.before_same;
        batches_same = batches;
        to_same = some-is to until (sym p.course.leads ∙ ap (λ b. replay_all plant from (joined b)) batches ∙ ap (λ d. replay_all plant d (joined cs)) same.from_same ∙ q.course.leads);
      }

  has_one : (from other : Persistent) (before many : ℕ) (events others : List Event) (bytes : List ℕ) →
      HasEvents plant digest from before events bytes → HasEvents plant digest other many others bytes → (from ≡ other) × (before ≡ many) × (events ≡ others)
  has_one from other before many events others bytes p q =
      let same = holds_one from other before many p.0 q.0 p.1 q.1 bytes p.2 q.2 in
      (same.from_same, same.before_same, p.3 ∙ ap joined same.batches_same ∙ sym q.3)

  not_damaged : (from : Persistent) (before place : ℕ) (events : List Event) (bytes : List ℕ) →
      HasEvents plant digest from before events bytes → IsDamagedAt plant digest place bytes → ⊥
  not_damaged from before place events bytes p q =
      let h = p.2 in
      let same = same_front plant digest h.version q.version from q.from before q.before h.front q.front _ _ h.course.is_front q.course.is_front (sym h.log.is ∙ q.is) in
      never_both plant h.version h.front (length h.front) p.0 q.batches from p.1 q.to h.log.gate h.log.tail q.tail h.log.shut h.course.each q.course.each h.course.of_version h.course.leads
      (ap (λ d. replay_all plant d (joined q.batches)) same.from_same ∙ q.course.leads)
      (nowhere_in h.version q.version place h.front q.front q.batches q.to q.tail same.version_same same.front_same q.place_is q.broken)
      (moved h.version q.version h.front q.front q.batches _ _ same.version_same same.front_same same.rest_same)

  one_place : (place other : ℕ) (bytes : List ℕ) → IsDamagedAt plant digest place bytes → IsDamagedAt plant digest other bytes → place ≡ other
  one_place place other bytes p q =
      let same = same_front plant digest p.version q.version p.from q.from p.before q.before p.front q.front _ _ p.course.is_front q.course.is_front (sym p.is ∙ q.is) in
      let batches = one_damage plant p.version p.front (length p.front) p.batches q.batches p.from p.to q.to p.tail q.tail p.course.each q.course.each p.course.of_version
      (subst (λ v. IsOfVersion v (joined q.batches)) (sym same.version_same) q.course.of_version) p.course.leads
      (ap (λ d. replay_all plant d (joined q.batches)) same.from_same ∙ q.course.leads)
      (nowhere_in p.version p.version place p.front p.front p.batches p.to p.tail refl refl p.place_is p.broken)
      (nowhere_in p.version q.version other p.front q.front q.batches q.to q.tail same.version_same same.front_same q.place_is q.broken)
      (moved p.version q.version p.front q.front q.batches _ _ same.version_same same.front_same same.rest_same) in
      p.place_is ∙ ap (λ v. last_gate v p.front p.batches) same.version_same ∙ ap (λ f. last_gate q.version f p.batches) same.front_same
      ∙ ap (λ b. last_gate q.version q.front b) batches ∙ sym q.place_is

  -- ---- what an append leaves

  pub shut_holds : (front : List ℕ) (version before : ℕ) (from : Persistent) (batches : List (List Event)) (to : Persistent) →
      IsCourse plant digest version front from before batches to → (bytes tail : List ℕ) (gate : ℕ) → (gate ≡ 1 → ⊥) → EndsCleanly plant version front (last_gate version front batches) to gate tail →
      bytes ≡ front ++ (spelled (records_of version front batches) ++ gate ∷ tail) → HoldsCleanly plant digest to (before + length (joined batches)) bytes
  shut_holds front version before from batches to course bytes tail gate shut clean is = record {
    from = from;
    before = before;
    batches = batches;
    held = record {
      version = version;
      front = front;
      course = course;
      log = record { gate = gate; tail = tail; is = is; shut = shut; each = are_records version (length front) (seed_of front) batches course.each };
    };
    clean = clean;
    counted = refl;
  }

  -- one record more
  pub one_more : (front : List ℕ) (version before : ℕ) (from : Persistent) (batches : List (List Event)) (to : Persistent) (events : List Event) (after : Persistent) →
      IsCourse plant digest version front from before batches to → IsNext plant version to events after →
      IsCourse plant digest version front from before (batches ++ events ∷ []) after
  one_more front version before from batches to events after course next = record {
    is_front = course.is_front;
    each = all_join IsBatch batches (events ∷ []) course.each (next.batch, tt);
    of_version = λ first. subst (AllByRecursion (λ e. act_number e.act ≡ 0)) (sym (joined_more batches events))
        (all_join (λ e. act_number e.act ≡ 0) (joined batches) events (course.of_version first) (next.of_version first));
    leads = ap (replay_all plant from) (joined_more batches events) ∙ replay_join plant from (joined batches) events to course.leads ∙ next.leads;
  }

-- ---- two disks

-- what is said of the disk in force twice
pub of_that : {C : Type 0} (written other new fresh : List ℕ → Type 0) (i : InForce) (first second : List ℕ) →
    ((bytes : List ℕ) → written bytes → other bytes → C) → ((bytes : List ℕ) → new bytes → fresh bytes → C) →
    OfThatInForce written new i first second → OfThatInForce other fresh i first second → C
of_that written other new fresh Foreign first second whole empty p q = absurd p
of_that written other new fresh Neither first second whole empty p q = empty first p q
of_that written other new fresh First first second whole empty p q = whole _ p q
of_that written other new fresh Second first second whole empty p q = whole _ p q

module _ (plant : List Actuator) (digest : List ℕ) where
  IsFirst : Persistent → ℕ → List Event → List ℕ → Type 0
  IsFirst from before events bytes = IsNew bytes × (from ≡ first_persistent) × (before ≡ 0) × (events ≡ [])

  pub stands_for_one : (first second : List ℕ) (from other : Persistent) (before many : ℕ) (events others : List Event) →
      StandsFor plant digest from before events first second → StandsFor plant digest other many others first second →
      (from ≡ other) × (before ≡ many) × (events ≡ others)
  stands_for_one first second from other before many events others p q =
      of_that (HasEvents plant digest from before events) (HasEvents plant digest other many others) _ _ (in_force (kind_of first) (kind_of second)) first second
      (has_one plant digest from other before many events others)
      (λ bytes a b. (a.1 ∙ sym b.1, a.2 ∙ sym b.2, a.3 ∙ sym b.3)) p q

  pub opens_to_one : (first second : List ℕ) (d other : Persistent) → Opens plant digest d first second → Opens plant digest other first second → d ≡ other
  opens_to_one first second d other p q =
      let same = stands_for_one first second p.0 q.0 p.1 q.1 p.2 q.2 p.3 q.3 in
      some-is d other (sym p.4 ∙ ap (λ f. replay_all plant f p.2) same.0 ∙ ap (λ es. replay_all plant q.0 es) same.2 ∙ q.4)

  pub stands_or_damaged : (first second : List ℕ) (from : Persistent) (before place : ℕ) (events : List Event) →
      StandsFor plant digest from before events first second → DamagedAt plant digest place first second → ⊥
  stands_or_damaged first second from before place events p q =
      of_that (HasEvents plant digest from before events) (IsDamagedAt plant digest place) _ (λ bytes. ⊥) (in_force (kind_of first) (kind_of second)) first second
      (not_damaged plant digest from before place events) (λ bytes a b. b) p q

  pub damaged_at_one : (first second : List ℕ) (place other : ℕ) → DamagedAt plant digest place first second → DamagedAt plant digest other first second → place ≡ other
  damaged_at_one first second place other p q =
      of_that (IsDamagedAt plant digest place) (IsDamagedAt plant digest other) (λ bytes. ⊥) (λ bytes. ⊥) (in_force (kind_of first) (kind_of second)) first second
      (one_place plant digest place other) (λ bytes a b. absurd a) p q

  -- ---- a kept state that is written

  pub written_state : (front : List ℕ) (version generation count : ℕ) (d : Persistent) → IsStateFront plant digest version generation d count front →
      HoldsCleanly plant digest d count (front ++ 0 ∷ [])
  written_state front version generation count d is =
      let course : IsCourse plant digest version front d count [] d = record { is_front = inr (generation, is); each = tt; of_version = λ first. tt; leads = refl } in
      let held = shut_holds plant digest front version count d [] d course (front ++ 0 ∷ []) [] 0 (λ no. omega (arith, no)) (inl refl) refl in
      let none : count + 0 ≡ count = omega arith in
      subst (λ n. HoldsCleanly plant digest d n (front ++ 0 ∷ [])) none held

  pub opens_second : (first second : List ℕ) (d : Persistent) (count : ℕ) → in_force (kind_of first) (kind_of second) ≡ Second →
      HoldsCleanly plant digest d count second → OpensCleanly plant digest d count first second
  opens_second first second d count is held =
      subst (λ i. OfThatInForce (HoldsCleanly plant digest d count) (λ bytes. IsNew bytes × (d ≡ first_persistent) × (count ≡ 0)) i first second) (sym is) held

  pub opens_first : (first second : List ℕ) (d : Persistent) (count : ℕ) → in_force (kind_of first) (kind_of second) ≡ First →
      HoldsCleanly plant digest d count first → OpensCleanly plant digest d count first second
  opens_first first second d count is held =
      subst (λ i. OfThatInForce (HoldsCleanly plant digest d count) (λ bytes. IsNew bytes × (d ≡ first_persistent) × (count ≡ 0)) i first second) (sym is) held

  pub second_written : (front first : List ℕ) (version generation count : ℕ) (d : Persistent) → length digest ≡ 32 →
      (kind_of first ≡ Plain) ⊎ ((g : ℕ) × (kind_of first ≡ State g) × (g < 2 ^ 64) × (generation ≡ (g + 1) % 2 ^ 64)) →
      IsStateFront plant digest version generation d count front → OpensCleanly plant digest d count first (front ++ 0 ∷ [])
  second_written front first version generation count d len before is =
      opens_second first (front ++ 0 ∷ []) d count
      (ap (in_force (kind_of first)) (state_front plant digest len version generation d count front 0 [] is) ∙ by before)
      (written_state front version generation count d is)
    where
      by : (kind_of first ≡ Plain) ⊎ ((g : ℕ) × (kind_of first ≡ State g) × (g < 2 ^ 64) × (generation ≡ (g + 1) % 2 ^ 64)) → in_force (kind_of first) (State generation) ≡ Second
      by (inl plain) = ap (λ k. in_force k (State generation)) plain
      by (inr state) = ap (λ k. in_force k (State generation)) state.1 ∙ ap (λ b. cond b Second First) (eq-eqb generation _ state.3)

  pub first_written : (front second : List ℕ) (version generation count : ℕ) (d : Persistent) → length digest ≡ 32 →
      (g : ℕ) → kind_of second ≡ State g → g < 2 ^ 64 → generation ≡ (g + 1) % 2 ^ 64 →
      IsStateFront plant digest version generation d count front → OpensCleanly plant digest d count (front ++ 0 ∷ []) second
  first_written front second version generation count d len g kind small next is =
      opens_first (front ++ 0 ∷ []) second d count
      (ap (λ k. in_force k (kind_of second)) (state_front plant digest len version generation d count front 0 [] is) ∙ ap (in_force (State generation)) kind ∙ back)
      (written_state front version generation count d is)
    where
      back : in_force (State generation) (State g) ≡ First
      back = let no : (g == (generation + 1) % 2 ^ 64) ≡ false = grind (arith, nat_tests, next, small) in ap (λ b. cond b Second First) no

  -- ---- a clean pair opens

  -- what a clean pair stands for
  record StandsCleanly (d : Persistent) (count : ℕ) (i : InForce) (first second : List ℕ) : Type 0 where
    from : Persistent
    before : ℕ
    events : List Event
    stands : OfThatInForce (HasEvents plant digest from before events)
        (λ bytes. IsNew bytes × (from ≡ first_persistent) × (before ≡ 0) × (events ≡ [])) i first second
    leads : replay_all plant from events ≡ Some d
    counted : count ≡ before + length events

  stands_cleanly : (d : Persistent) (count : ℕ) (i : InForce) (first second : List ℕ) →
      OfThatInForce (HoldsCleanly plant digest d count) (λ bytes. IsNew bytes × (d ≡ first_persistent) × (count ≡ 0)) i first second →
      StandsCleanly d count i first second
  stands_cleanly d count Foreign first second p = absurd p
  stands_cleanly d count Neither first second p =
      let none : count ≡ 0 + length {A = Event} [] = p.2 in
      record { from = first_persistent; before = 0; events = []; stands = (p.0, refl, refl, refl); leads = ap Some (sym p.1); counted = none }
  stands_cleanly d count First first second p =
      record { from = p.from; before = p.before; events = joined p.batches; stands = (p.batches, d, p.held, refl); leads = p.held.course.leads; counted = p.counted }
  stands_cleanly d count Second first second p =
      record { from = p.from; before = p.before; events = joined p.batches; stands = (p.batches, d, p.held, refl); leads = p.held.course.leads; counted = p.counted }

  pub clean_opens : (first second : List ℕ) (d : Persistent) (count : ℕ) → OpensCleanly plant digest d count first second → Opens plant digest d first second
  clean_opens first second d count p =
      let c = stands_cleanly d count (in_force (kind_of first) (kind_of second)) first second p in
      (c.from, c.before, c.events, c.stands, c.leads)

  pub clean_to_one : (first second : List ℕ) (d other : Persistent) (count many : ℕ) → OpensCleanly plant digest d count first second →
      OpensCleanly plant digest other many first second → (d ≡ other) × (count ≡ many)
  clean_to_one first second d other count many p q =
      let a = stands_cleanly d count (in_force (kind_of first) (kind_of second)) first second p in
      let b = stands_cleanly other many (in_force (kind_of first) (kind_of second)) first second q in
      let same = stands_for_one first second a.from b.from a.before b.before a.events b.events a.stands b.stands in (
        some-is d other (sym a.leads ∙ ap (λ f. replay_all plant f a.events) same.0 ∙ ap (λ es. replay_all plant b.from es) same.2 ∙ b.leads),
        a.counted ∙ ap (λ n. n + length a.events) same.1 ∙ ap (λ es. b.before + length es) same.2 ∙ sym b.counted,
      )
