-- What stands from a gate on, record by record.
use Rattle.std.proofs.Common.{◌≡◌, ℕ, ◌+◌, ◌-◌, Bool, true, false, cond, List, [], ◌∷◌, ◌++◌, length, take, refl, sym, ap, subst, ◌∙◌, append_assoc, append-nil, length-append, arith}
use Rattle.std.specs.Prelude.{map}
use Rattle.std.specs.List.{AllByRecursion}
use Rattle.std.proofs.lemmas.List.{append_cancel_left, take_at}
use Rattle.boss_feeding.specs.Held.{HasLog}
use Rattle.boss_feeding.specs.Telling.{AreSpelled}
use Rattle.boss_journal.specs.Places.{IsAt, IsAtEnd}
use Rattle.boss_model.specs.declared.event.Event.{Event}
use Rattle.boss_snapshot.specs.Fronts.{version_of}
use Rattle.def_bytes.specs.Batches.{batch_text, IsBatch}
use Rattle.def_disk_pair.specs.Contents.{joined}
use Rattle.def_disk_pair.proofs.OfRecords.{gate_place, sealed_batch_short}
use Rattle.def_log.specs.Log.{framed, spelled, IsDamaged, IsLog}
use Rattle.def_log.proofs.Records.{behind, head-same, log-or-damaged, records-of-log}
use Rattle.def_seal.specs.Seals.{sealed, all_sealed, behind as next_place}

-- the journal is at its first gate
pub at_records : (gate : ℕ) (bytes front : List ℕ) (records : List (List ℕ)) → IsLog front records bytes → gate ≡ length front → IsAt front [] gate bytes
at_records gate bytes front [] log here = record {
  gate = log.gate;
  tail = log.tail;
  is = log.is;
  here = here ∙ ap length (sym (append-nil front));
  each = tt;
}
at_records gate bytes front (r ∷ records) log here = record {
  gate = 1;
  tail = (framed r ++ spelled records) ++ log.gate ∷ log.tail;
  is = log.is;
  here = here ∙ ap length (sym (append-nil front));
  each = tt;
}

-- a record without its sum
pub no_sum : (on : Bool) (bytes text sum : List ℕ) → on ≡ false → bytes ≡ cond on (text ++ sum) text → bytes ≡ text
no_sum true bytes text sum off is = absurd cc
no_sum false bytes text sum off is = is

pub cut_sum : (on : Bool) (bytes text sum : List ℕ) (end : ℕ) → length sum ≡ 8 → on ≡ true → end ≡ length bytes - 8 → bytes ≡ cond on (text ++ sum) text →
    take end bytes ≡ text
cut_sum true bytes text sum end eight on here is =
    let size : length text ≡ end = omega (arith, here, ap length is, length-append text sum, eight) in
    ap (take end) is ∙ take_at text sum end size
cut_sum false bytes text sum end eight on here is = absurd cc

module _ (gate : ℕ) (events : List Event) (bytes : List ℕ) where
  pub at_log : (has : HasLog gate events bytes) → IsAt has.front [] gate bytes
  at_log has = at_records gate bytes has.front (all_sealed has.version has.seed gate (map batch_text has.batches)) has.log has.placed

  -- ---- a record

  -- the first record has these bytes, which are some of the events with their sum, and the others stand behind it
  pub record IsFirst (place : ℕ) (found : List ℕ) : Type 0 where
    pub some : List Event
    pub left : List Event
    pub are : events ≡ some ++ left
    pub spelled_so : AreSpelled some
    pub seed : List ℕ
    pub text : found ≡ sealed (version_of bytes) seed gate (batch_text some)
    pub log : HasLog place left bytes

  -- where the next gate is
  next_gate : (version place : ℕ) (seed front found : List ℕ) (b : List Event) → gate ≡ length front → found ≡ sealed version seed gate (batch_text b) →
      place ≡ length (front ++ spelled (found ∷ [])) → next_place version seed gate (batch_text b) ≡ place
  next_gate version place seed front found b placed is here =
      let all : length (front ++ spelled (found ∷ [])) ≡ length front + length (spelled (found ∷ [])) = length-append front (spelled (found ∷ [])) in
      let same : length (spelled (found ∷ [])) ≡ length (spelled (all_sealed version seed gate (batch_text b ∷ []))) = ap (λ r. length (spelled (r ∷ []))) is in
      omega (arith, gate_place version gate seed (batch_text b ∷ []), all, same, here, placed)

  first_of_batches : (version : ℕ) (seed front : List ℕ) (batches : List (List Event)) (place : ℕ) (found : List ℕ) → version ≡ version_of bytes → gate ≡ length front →
      IsLog front (all_sealed version seed gate (map batch_text batches)) bytes → AllByRecursion IsBatch batches → events ≡ joined batches →
      IsAt front (found ∷ []) place bytes → IsFirst place found
  first_of_batches version seed front [] place found version_is placed log each are at =
      absurd (log.shut (head-same log.gate 1 log.tail ((framed found ++ []) ++ at.gate ∷ at.tail) (append_cancel_left front _ _ (sym log.is ∙ at.is))))
  first_of_batches version seed front (b ∷ batches) place found version_is placed log each are at =
      let rest : List (List ℕ) = all_sealed version seed (next_place version seed gate (batch_text b)) (map batch_text batches) in
      let same = behind found (sealed version seed gate (batch_text b)) [] (spelled rest) (at.gate ∷ at.tail) (log.gate ∷ log.tail) at.each.0
      (sealed_batch_short version gate seed b each.0) (append_cancel_left front _ _ (sym at.is ∙ log.is)) in
      let next = next_gate version place seed front found b placed same.same at.here in
      record {
        some = b;
        left = joined batches;
        are = are;
        spelled_so = each.0.fitting;
        seed = seed;
        text = same.same ∙ ap (λ v. sealed v seed gate (batch_text b)) version_is;
        log = record {
          version = version;
          version_is = version_is;
          seed = seed;
          front = front ++ spelled (found ∷ []);
          batches = batches;
          log = subst (λ p. IsLog (front ++ spelled (found ∷ [])) (all_sealed version seed p (map batch_text batches)) bytes) next (record {
            gate = log.gate;
            tail = log.tail;
            is = at.is ∙ sym (append_assoc front (spelled (found ∷ [])) (at.gate ∷ at.tail)) ∙ ap (λ t. (front ++ spelled (found ∷ [])) ++ t) same.after;
            shut = log.shut;
            each = log.each.1;
          });
          placed = at.here;
          each = each.1;
          are = refl;
        };
      }

  pub first_record : (has : HasLog gate events bytes) (place : ℕ) (found : List ℕ) → IsAt has.front (found ∷ []) place bytes → IsFirst place found
  first_record has place found at = first_of_batches has.version has.seed has.front has.batches place found has.version_is has.placed has.log has.each has.are at

  -- ---- none

  no_records : (version : ℕ) (seed : List ℕ) (batches : List (List Event)) → [] ≡ all_sealed version seed gate (map batch_text batches) → events ≡ joined batches → events ≡ []
  no_records version seed [] none are = are
  no_records version seed (b ∷ batches) none are = absurd cc

  pub no_record : (has : HasLog gate events bytes) (place : ℕ) → IsAtEnd has.front [] place bytes → events ≡ []
  no_record has place end =
      no_records has.version has.seed has.batches
      (records-of-log has.front bytes [] (all_sealed has.version has.seed gate (map batch_text has.batches)) end.log has.log) has.are

  pub not_damaged : (has : HasLog gate events bytes) → IsDamaged has.front [] bytes → ⊥
  not_damaged has damaged = log-or-damaged has.front bytes (all_sealed has.version has.seed gate (map batch_text has.batches)) [] has.log damaged
