-- What shutting the last gate of a clean log leaves.
use Rattle.std.proofs.Common.{◌≡◌, ◌≢◌, ◌⊎◌, inl, inr, ⊎_elim, ℕ, ◌+◌, Bool, true, false, List, [], ◌∷◌, ◌++◌, length, refl, sym, ap, ◌∙◌, subst, min, append_assoc, arith}
use Rattle.std.proofs.lemmas.List.{append_cancel_left}
use Rattle.std.proofs.lemmas.Bool.{cases_lt}
use Rattle.boss_model.specs.declared.event.Event.{Event}
use Rattle.boss_model.specs.declared.state.Actuator.{Actuator}
use Rattle.boss_model.specs.Limits.{last_number}
use Rattle.boss_model.specs.Run.{replay_all}
use Rattle.boss_model.specs.State.{Persistent, first_persistent}
use Rattle.def_bytes.specs.Batches.{batch_text}
use Rattle.def_seal.specs.Seals.{has_sums, seed_of, sealed}
use Rattle.boss_disk.specs.Window.{Window, IsImage, settled}
use Rattle.boss_disk.proofs.Torn.{synced_image}
use Rattle.boss_journal.specs.Places.{IsAtEnd, IsAtRest}
use Rattle.boss_journal.specs.Reads.{Repairs}
use Rattle.boss_journal.proofs.Frames.{spelled_more}
use Rattle.def_log.specs.Kinds.{kind_of}
use Rattle.def_log.specs.Log.{framed, spelled, IsLog}
use Rattle.def_log.proofs.Records.{records-of-log}
use Rattle.def_disk_pair.specs.Contents.{joined, records_of, record_of, last_gate, IsNext, IsCourse, HoldsCleanly, EndsCleanly}
use Rattle.def_disk_pair.specs.Pairs.{IsNew, OfThatInForce, OpensCleanly}
use Rattle.def_disk_pair.proofs.Disks.{shut_holds, one_more}
use Rattle.def_disk_pair.proofs.OfRecords.{same_batches, records_more}
use Rattle.def_disk_pair.proofs.Prefixes.{same_front}
use Rattle.def_disk_pair.proofs.Replays.{some-is}
use Rattle.boss_disk_pair.specs.Images.{OpensToOne}
use Rattle.boss_disk_pair.specs.Orders.{InOrder}
use Rattle.boss_disk_pair.specs.Reads.{AtEnd, MayCome}
use Rattle.boss_disk_pair.specs.Rests.{forced, Resting}
use Rattle.boss_disk_pair.proofs.Appends.{comes_to, rest_holds}
use Rattle.boss_disk_pair.proofs.Forced.{front_kind, between, opens_in, from_order, to_order}
use Rattle.boss_disk_pair.proofs.Orders.{in_order}
use Rattle.boss_disk_pair.proofs.Sums.{by_seed}

first-same : (x y : ℕ) (xs ys : List ℕ) → x ∷ xs ≡ y ∷ ys → x ≡ y
first-same x y xs ys is = cc

rest-same : (x y : ℕ) (xs ys : List ℕ) → x ∷ xs ≡ y ∷ ys → xs ≡ ys
rest-same x y xs ys is = cc

is_or_not : (n m : ℕ) → (n ≡ m) ⊎ (n ≢ m)
is_or_not n m = ⊎_elim (λ below. inr (λ same. omega (arith, below, same)))
    (λ up. ⊎_elim (λ above. inr (λ same. omega (arith, above, same))) (λ down. inl (omega (arith, up, down))) (cases_lt m n)) (cases_lt n m)

-- two ends that are one
pub record IsOneEnd (version other : ℕ) (front ahead : List ℕ) (place there : ℕ) (to d : Persistent) (gate last : ℕ) (tail rest : List ℕ) : Type 0 where
  pub version_same : version ≡ other
  pub front_same : front ≡ ahead
  pub place_same : place ≡ there
  pub state_same : to ≡ d
  pub gate_same : gate ≡ last
  pub tail_same : tail ≡ rest

module _ (plant : List Actuator) (digest : List ℕ) (whole : length digest ≡ 32) (version : ℕ) (front : List ℕ) (from : Persistent) (before : ℕ)
    (batches : List (List Event)) (d : Persistent) (course : IsCourse plant digest version front from before batches d) where
  -- a clean disk comes to one end, however it is split
  pub one_end : (to : Persistent) (count place : ℕ) (held : List ℕ) (at : IsAtEnd front (records_of version front batches) place held) (clean : HoldsCleanly plant digest to count held) →
      IsOneEnd clean.held.version version clean.held.front front (last_gate clean.held.version clean.held.front clean.batches) (last_gate version front batches) to d clean.held.log.gate at.log.gate clean.held.log.tail at.log.tail
  one_end to count place held at clean =
      let h = clean.held in
      let same = same_front plant digest h.version version clean.from from clean.before before h.front front _ _ h.course.is_front course.is_front (sym h.log.is ∙ at.log.is) in
      let ours : IsLog h.front (records_of version front batches) held = subst (λ f. IsLog f (records_of version front batches) held) (sym same.front_same) at.log in
      let records : records_of h.version h.front clean.batches ≡ records_of version front batches =
      records-of-log h.front held (records_of h.version h.front clean.batches) (records_of version front batches) h.log ours in
      let there : records_of h.version h.front batches ≡ records_of version front batches =
      ap (λ v. records_of v h.front batches) same.version_same ∙ ap (λ f. records_of version f batches) same.front_same in
      let found : clean.batches ≡ batches =
      same_batches h.version (length h.front) (seed_of h.front) clean.batches batches h.course.each course.each (records ∙ sym there) in
      let ends : h.log.gate ∷ h.log.tail ≡ at.log.gate ∷ at.log.tail =
      append_cancel_left (spelled (records_of version front batches)) _ _ (ap (λ r. spelled r ++ h.log.gate ∷ h.log.tail) (sym records) ∙ same.rest_same) in
      record {
        version_same = same.version_same;
        front_same = same.front_same;
        place_same = ap (λ r. length (h.front ++ spelled r)) records ∙ ap (λ f. length (f ++ spelled (records_of version front batches))) same.front_same;
        state_same = some-is to d (sym h.course.leads ∙ ap (λ p. replay_all plant p (joined clean.batches)) same.from_same
            ∙ ap (λ bs. replay_all plant from (joined bs)) found ∙ course.leads);
        gate_same = first-same _ _ h.log.tail at.log.tail ends;
        tail_same = rest-same h.log.gate at.log.gate _ _ ends;
      }

  -- and ends cleanly there
  same_end : (count place : ℕ) (held : List ℕ) (at : IsAtEnd front (records_of version front batches) place held) → HoldsCleanly plant digest d count held →
      EndsCleanly plant version front (last_gate version front batches) d at.log.gate at.log.tail
  same_end count place held at clean =
      let end = one_end d count place held at clean in
      let there : ℕ = last_gate clean.held.version clean.held.front clean.batches in
      subst (λ p. EndsCleanly plant version front p d at.log.gate at.log.tail) end.place_same
      (subst (λ f. EndsCleanly plant version f there d at.log.gate at.log.tail) end.front_same
      (subst (λ v. EndsCleanly plant v clean.held.front there d at.log.gate at.log.tail) end.version_same
      (subst (λ x. EndsCleanly plant clean.held.version clean.held.front there d x at.log.tail) end.gate_same
      (subst (λ x. EndsCleanly plant clean.held.version clean.held.front there d clean.held.log.gate x) end.tail_same clean.clean))))

  module _ (second : Bool) (held other : List ℕ) (gate : ℕ) (tail : List ℕ) (is : held ≡ front ++ (spelled (records_of version front batches) ++ gate ∷ tail))
      (here : between second (kind_of held) (kind_of other) ≡ forced second) where
    -- the same state, at whatever gate that is not 1
    still_opens : (after : Persistent) (bytes : List ℕ) (now : ℕ) → now ≢ 1 → EndsCleanly plant version front (last_gate version front batches) d now tail →
        bytes ≡ front ++ (spelled (records_of version front batches) ++ now ∷ tail) → InOrder (OpensToOne plant digest d after) second bytes other
    still_opens after bytes now shut clean now_is =
        in_order _ (OpensToOne plant digest d after) second bytes other (λ x y opens. inl (before + length (joined batches), opens))
        (opens_in plant digest second bytes other d _
        (comes_to plant digest whole version front from before second held other bytes batches batches d gate tail now tail course is here now_is)
        (shut_holds plant digest front version before from batches d course bytes tail now shut clean now_is))

    -- the state with the record behind the gate
    then_opens : (batch : List Event) (after : Persistent) (more bytes : List ℕ) → IsNext plant version d batch after →
        tail ≡ framed (record_of version front (last_gate version front batches) batch) ++ 0 ∷ more → bytes ≡ front ++ (spelled (records_of version front batches) ++ 1 ∷ tail) → InOrder (OpensToOne plant digest d after) second bytes other
    then_opens batch after more bytes next tail_is now_is =
        let longer : bytes ≡ front ++ (spelled (records_of version front (batches ++ batch ∷ [])) ++ 0 ∷ more) =
        now_is ∙ ap (λ t. front ++ (spelled (records_of version front batches) ++ 1 ∷ t)) tail_is
        ∙ ap (λ t. front ++ t) (sym (spelled_more (records_of version front batches) (record_of version front (last_gate version front batches) batch) (0 ∷ more)))
        ∙ ap (λ r. front ++ (spelled r ++ 0 ∷ more)) (sym (records_more version front batches batch)) in
        let farther = one_more plant digest front version before from batches d batch after course next in
        in_order _ (OpensToOne plant digest d after) second bytes other (λ x y opens. inr (before + length (joined (batches ++ batch ∷ [])), opens))
        (opens_in plant digest second bytes other after _
        (comes_to plant digest whole version front from before second held other bytes batches (batches ++ batch ∷ []) d gate tail 0 more course is here longer)
        (rest_holds plant digest whole version front from before (batches ++ batch ∷ []) after bytes more farther longer))

    -- what may come of it
    pub comes : gate ≢ 1 → (seed : List ℕ) (place : ℕ) → (has_sums version ≡ true → seed ≡ seed_of front) → place ≡ last_gate version front batches →
        EndsCleanly plant version front (last_gate version front batches) d gate tail → (after : Persistent) × MayCome plant version seed place held d after
        × ((bytes : List ℕ) → Repairs front (records_of version front batches) gate tail bytes → InOrder (OpensToOne plant digest d after) second bytes other)
    comes shut seed place seeded placed (inl zero) = (
      d,
      inl refl,
      λ bytes repair. still_opens d bytes repair.now (λ one. let none = repair.idle zero in omega (arith, none, one)) (inl (repair.idle zero)) repair.is,
    )
    comes shut seed place seeded placed (inr whole_one) = ⊎_elim
        (λ zero. (
          d,
          inl refl,
          λ bytes repair. still_opens d bytes repair.now (λ one. let none = repair.idle zero in omega (arith, none, one)) (inl (repair.idle zero)) repair.is,
        ))
        (λ some. (
          whole_one.1,
          inr (record {
            front = front ++ spelled (records_of version front batches);
            placed = placed;
            gate = gate;
            tail = tail;
            is = is ∙ sym (append_assoc front (spelled (records_of version front batches)) (gate ∷ tail));
            not_zero = some;
            not_one = shut;
            batch = whole_one.0;
            more = whole_one.2;
            next = whole_one.3;
            behind = whole_one.4 ∙ ap (λ r. framed r ++ 0 ∷ whole_one.2) (ap (λ p. record_of version front p whole_one.0) (sym placed)
                ∙ sym (by_seed version place seed front (batch_text whole_one.0) seeded));
          }),
          λ bytes repair. ⊎_elim
              (λ one. then_opens whole_one.0 whole_one.1 whole_one.2 bytes whole_one.3 whole_one.4
              (repair.is ∙ ap (λ x. front ++ (spelled (records_of version front batches) ++ x ∷ tail)) one))
              (λ other_gate. still_opens whole_one.1 bytes repair.now other_gate (inr whole_one) repair.is)
              (is_or_not repair.now 1),
        ))
        (is_or_not gate 0)

-- ---- a pair that was read to its end

-- what is said of a clean pair is said of the disk in force
pub clean_holds : (plant : List Actuator) (digest : List ℕ) (d : Persistent) (count : ℕ) (second : Bool) (held other : List ℕ) → between second (kind_of held) (kind_of other) ≡ forced second →
    InOrder (OpensCleanly plant digest d count) second held other → HoldsCleanly plant digest d count held
clean_holds plant digest d count false held other is opens =
    subst (λ i. OfThatInForce (HoldsCleanly plant digest d count) (λ bytes. IsNew bytes × (d ≡ first_persistent) × (count ≡ 0)) i held other) is opens
clean_holds plant digest d count true held other is opens =
    subst (λ i. OfThatInForce (HoldsCleanly plant digest d count) (λ bytes. IsNew bytes × (d ≡ first_persistent) × (count ≡ 0)) i other held) is opens

module _ (plant : List Actuator) (digest seed : List ℕ) (version : ℕ) (second : Bool) (generation number : ℕ) (held other : List ℕ) (place : ℕ)
    (from : Persistent) (before : ℕ) (events : List Event) (d : Persistent)
    (end : AtEnd plant digest seed version second generation number held other place from before events d) where
  -- at rest, once the last gate is 0
  pub readied_rests : (v n now_number now_place : ℕ) (now : List ℕ) (last beside : Window) (stopped : Bool) → v ≡ version → length events ≡ n → beside ≡ settled other → stopped ≡ false →
      IsAtRest end.coming.front (records_of version end.coming.front end.coming.batches) now_place now last → now_number ≡ min (number + n) last_number →
      Resting plant digest seed v second generation now_number now_place now last other beside stopped d (before + n)
  readied_rests v n now_number now_place now last beside stopped kept many synced going log counts =
      let same : kind_of now ≡ kind_of held =
      front_kind plant digest end.coming.whole version end.coming.front from before end.coming.course.is_front (records_of version end.coming.front end.coming.batches)
      (records_of version end.coming.front end.coming.batches) 0 end.at.log.gate log.tail end.at.log.tail now held log.is end.at.log.is in
      let size : length (joined end.coming.batches) ≡ n = sym (ap length end.coming.are) ∙ many in
      let is = end.coming.counts in
      subst (λ x. Resting plant digest seed x second generation now_number now_place now last other beside stopped d (before + n)) (sym kept)
      (record {
        front = end.coming.front;
        from = from;
        before = before;
        batches = end.coming.batches;
        course = end.coming.course;
        seeded = end.coming.seeded;
        log = log;
        synced = synced;
        going = going;
        whole = end.coming.whole;
        kind = ⊎_elim (λ plain. inl (same ∙ plain)) (λ state. inr (same ∙ state.0, state.1)) end.coming.kind;
        is_in_force = to_order second now other (ap (λ k. between second k (kind_of other)) same ∙ from_order second held other end.coming.is_in_force);
        events = omega (arith, size, is, counts);
        counts = omega (arith, is, counts);
      })

  -- what is left while it is shut
  pub shutting : (beside : Window) (count : ℕ) → beside ≡ settled other → InOrder (OpensCleanly plant digest d count) second held other →
      (after : Persistent) × MayCome plant version seed place held d after
      × ((a b : List ℕ) → Repairs end.coming.front (records_of version end.coming.front end.coming.batches) end.at.log.gate end.at.log.tail a → IsImage beside b
      → InOrder (OpensToOne plant digest d after) second a b)
  shutting beside count synced clean =
      let here = from_order second held other end.coming.is_in_force in
      let holds = clean_holds plant digest d count second held other here clean in
      let ends = same_end plant digest end.coming.whole version end.coming.front from before end.coming.batches d end.coming.course count place held end.at holds in
      let found = comes plant digest end.coming.whole version end.coming.front from before end.coming.batches d end.coming.course second held other
      end.at.log.gate end.at.log.tail end.at.log.is here end.at.log.shut seed place end.coming.seeded end.at.here ends in (
        found.0,
        found.1,
        λ a b repair image. subst (λ y. InOrder (OpensToOne plant digest d found.0) second a y) (sym (synced_image beside other b synced image)) (found.2 a repair),
      )
