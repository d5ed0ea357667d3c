-- What a pair at rest leaves, and what an append to it leaves.
use Rattle.std.proofs.Common.{◌≡◌, inl, inr, ⊎_elim, ℕ, ◌+◌, Bool, List, [], ◌∷◌, ◌++◌, length, refl, sym, ap, ◌∙◌, subst, min, length-append, arith}
use Rattle.boss_model.specs.declared.event.Event.{Event}
use Rattle.boss_model.specs.declared.state.Actuator.{Actuator}
use Rattle.boss_model.specs.Limits.{last_number}
use Rattle.boss_model.specs.State.{Persistent}
use Rattle.def_bytes.specs.Batches.{batch_text}
use Rattle.def_seal.specs.Seals.{sealed}
use Rattle.boss_disk.specs.Window.{Window, IsImage}
use Rattle.boss_disk.proofs.Torn.{synced_image}
use Rattle.boss_journal.specs.Appends.{IsShutLog, BeforeOrAfter}
use Rattle.boss_journal.specs.Places.{IsAtRest}
use Rattle.def_log.specs.Kinds.{kind_of}
use Rattle.def_log.specs.Log.{framed, spelled}
use Rattle.def_disk_pair.specs.Contents.{joined, records_of, record_of, last_gate, IsNext, IsCourse, HoldsCleanly}
use Rattle.def_disk_pair.proofs.Disks.{shut_holds, one_more}
use Rattle.def_disk_pair.proofs.Replays.{joined_more}
use Rattle.boss_disk_pair.specs.Images.{OpensToOne}
use Rattle.boss_disk_pair.specs.Orders.{InOrder}
use Rattle.boss_disk_pair.specs.Rests.{forced, Resting}
use Rattle.boss_disk_pair.proofs.Forced.{front_kind, between, opens_in, from_order, to_order}
use Rattle.boss_disk_pair.proofs.Orders.{in_order}
use Rattle.boss_disk_pair.proofs.Sums.{of_events, one_longer}

module _ (plant : List Actuator) (digest : List ℕ) (whole : length digest ≡ 32) (version : ℕ) (front : List ℕ) (from : Persistent) (before : ℕ) where
  -- bytes behind this front come to a state, beside bytes of the other disk that leave these in force
  pub comes_to : (second : Bool) (held other bytes : List ℕ) (batches others : List (List Event)) (d : Persistent) (x : ℕ) (rest : List ℕ) (gate : ℕ) (tail : List ℕ) →
      IsCourse plant digest version front from before batches d → held ≡ front ++ (spelled (records_of version front batches) ++ x ∷ rest) →
      between second (kind_of held) (kind_of other) ≡ forced second →
      bytes ≡ front ++ (spelled (records_of version front others) ++ gate ∷ tail) → between second (kind_of bytes) (kind_of other) ≡ forced second
  comes_to second held other bytes batches others d x rest gate tail course is here shape =
      subst (λ k. between second k (kind_of other) ≡ forced second)
      (sym (front_kind plant digest whole version front from before course.is_front (records_of version front others) (records_of version front batches) gate x tail rest bytes held shape is)) here

  -- what a read gives of a pair at rest
  pub rest_holds : (batches : List (List Event)) (d : Persistent) (held rest : List ℕ) → IsCourse plant digest version front from before batches d →
      held ≡ front ++ (spelled (records_of version front batches) ++ 0 ∷ rest) → HoldsCleanly plant digest d (before + length (joined batches)) held
  rest_holds batches d held rest course is = shut_holds plant digest front version before from batches d course held rest 0 (λ no. omega (arith, no)) (inl refl) is

  -- with one record more
  more : (batches : List (List Event)) (batch : List Event) (bytes record_bytes : List ℕ) → record_bytes ≡ record_of version front (last_gate version front batches) batch →
      IsShutLog front (records_of version front batches ++ record_bytes ∷ []) bytes → IsShutLog front (records_of version front (batches ++ batch ∷ [])) bytes
  more batches batch bytes record_bytes text shut =
      subst (λ records. IsShutLog front records bytes) (one_longer version front record_bytes batches batch text) shut

  pub append_leaves : (second : Bool) (held other bytes record_bytes : List ℕ) (batches : List (List Event)) (d after : Persistent) (batch : List Event) (rest : List ℕ) →
      IsCourse plant digest version front from before batches d → held ≡ front ++ (spelled (records_of version front batches) ++ 0 ∷ rest) →
      between second (kind_of held) (kind_of other) ≡ forced second → record_bytes ≡ record_of version front (last_gate version front batches) batch → IsNext plant version d batch after →
      BeforeOrAfter front (records_of version front batches) record_bytes bytes → InOrder (OpensToOne plant digest d after) second bytes other
  append_leaves second held other bytes record_bytes batches d after batch rest course is here text next (inl shut) =
      let force = comes_to second held other bytes batches batches d 0 rest 0 shut.tail course is here shut.is in
      in_order _ (OpensToOne plant digest d after) second bytes other (λ x y opens. inl (before + length (joined batches), opens))
      (opens_in plant digest second bytes other d _ force (rest_holds batches d bytes shut.tail course shut.is))
  append_leaves second held other bytes record_bytes batches d after batch rest course is here text next (inr (inl opening)) =
      let force = comes_to second held other bytes batches batches d 0 rest opening.gate (framed record_bytes ++ 0 ∷ opening.tail) course is here opening.is in
      in_order _ (OpensToOne plant digest d after) second bytes other (λ x y opens. inl (before + length (joined batches), opens))
      (opens_in plant digest second bytes other d _ force
      (shut_holds plant digest front version before from batches d course bytes _ opening.gate opening.shut
      (inr (batch, after, opening.tail, next, ap (λ r. framed r ++ 0 ∷ opening.tail) text)) opening.is))
  append_leaves second held other bytes record_bytes batches d after batch rest course is here text next (inr (inr shut)) =
      let longer = more batches batch bytes record_bytes text shut in
      let farther = one_more plant digest front version before from batches d batch after course next in
      let force = comes_to second held other bytes batches (batches ++ batch ∷ []) d 0 rest 0 longer.tail course is here longer.is in
      in_order _ (OpensToOne plant digest d after) second bytes other (λ x y opens. inr (before + length (joined (batches ++ batch ∷ [])), opens))
      (opens_in plant digest second bytes other after _ force (rest_holds (batches ++ batch ∷ []) after bytes longer.tail farther longer.is))

-- ---- a pair at rest, and one record more

count_more : (n m : ℕ) (number count held : ℕ) → number ≡ min held last_number → min count last_number ≡ number → m ≡ min (number + n) last_number →
    (m ≡ min (held + n) last_number) × (min (count + n) last_number ≡ m)
count_more n m number count held is counts more = (omega (arith, is, more), omega (arith, is, counts, more))

joined_length : (batches : List (List Event)) (batch : List Event) → length (joined (batches ++ batch ∷ [])) ≡ length (joined batches) + length batch
joined_length batches batch = ap length (joined_more batches batch) ∙ length-append (joined batches) batch

module _ (plant : List Actuator) (digest seed : List ℕ) (version : ℕ) (second : Bool) (generation number place : ℕ) (reads : List ℕ) (window : Window)
    (other : List ℕ) (beside : Window) (stopped : Bool) (d : Persistent) (count : ℕ)
    (rest : Resting plant digest seed version second generation number place reads window other beside stopped d count)
    (bytes written : List ℕ) (batch : List Event) (after : Persistent) (text : bytes ≡ batch_text batch) (is : written ≡ sealed version seed place bytes)
    (next : IsNext plant version d batch after) where
  stands_for : written ≡ record_of version rest.front (last_gate version rest.front rest.batches) batch
  stands_for = of_events version place (last_gate version rest.front rest.batches) seed rest.front bytes written batch rest.seeded rest.log.here text is

  appended : (now : List ℕ) (last : Window) (gate more_events : ℕ) → IsAtRest rest.front (records_of version rest.front rest.batches ++ written ∷ []) gate now last →
      more_events ≡ min (number + length batch) last_number →
      Resting plant digest seed version second generation more_events gate now last other beside stopped after (count + length batch)
  appended now last gate more_events log counted_more =
      let longer : IsAtRest rest.front (records_of version rest.front (rest.batches ++ batch ∷ [])) gate now last =
      subst (λ records. IsAtRest rest.front records gate now last)
      (one_longer version rest.front written rest.batches batch stands_for) log in
      let same : kind_of now ≡ kind_of reads =
      front_kind plant digest rest.whole version rest.front rest.from rest.before rest.course.is_front (records_of version rest.front (rest.batches ++ batch ∷ []))
      (records_of version rest.front rest.batches) 0 0 longer.tail rest.log.tail now reads longer.is rest.log.is in
      let size : rest.before + length (joined (rest.batches ++ batch ∷ [])) ≡ rest.before + length (joined rest.batches) + length batch =
      omega (arith, joined_length rest.batches batch) in
      let counts = count_more (length batch) more_events number count (rest.before + length (joined rest.batches)) rest.events rest.counts counted_more in
      record {
        front = rest.front;
        from = rest.from;
        before = rest.before;
        batches = rest.batches ++ batch ∷ [];
        course = one_more plant digest rest.front version rest.before rest.from rest.batches d batch after rest.course next;
        seeded = rest.seeded;
        log = longer;
        synced = rest.synced;
        going = rest.going;
        whole = rest.whole;
        kind = ⊎_elim (λ plain. inl (same ∙ plain)) (λ state. inr (same ∙ state.0, state.1)) rest.kind;
        is_in_force = to_order second now other (ap (λ k. between second k (kind_of other)) same ∙ from_order second reads other rest.is_in_force);
        events = counts.0 ∙ ap (λ n. min n last_number) (sym size);
        counts = counts.1;
      }

  pub appended_rests : (v n : ℕ) (now : List ℕ) (last : Window) (gate more_events : ℕ) → v ≡ version → length batch ≡ n →
      IsAtRest rest.front (records_of version rest.front rest.batches ++ written ∷ []) gate now last → more_events ≡ min (number + n) last_number →
      Resting plant digest seed v second generation more_events gate now last other beside stopped after (count + n)
  appended_rests v n now last gate more_events kept many log counted_more =
      subst (λ x. Resting plant digest seed x second generation more_events gate now last other beside stopped after (count + n)) (sym kept)
      (subst (λ x. Resting plant digest seed version second generation more_events gate now last other beside stopped after (count + x)) many
      (appended now last gate more_events log (counted_more ∙ ap (λ x. min (number + x) last_number) (sym many))))

  -- what is left while it is appended
  pub appending_leaves : (a b : List ℕ) → BeforeOrAfter rest.front (records_of version rest.front rest.batches) written a → IsImage beside b → InOrder (OpensToOne plant digest d after) second a b
  appending_leaves a b of image =
      let there = synced_image beside other b rest.synced image in
      subst (λ y. InOrder (OpensToOne plant digest d after) second a y) (sym there)
      (append_leaves plant digest rest.whole version rest.front rest.from rest.before second reads other a written rest.batches d after batch rest.log.tail
      rest.course rest.log.is (from_order second reads other rest.is_in_force) stands_for next of)
