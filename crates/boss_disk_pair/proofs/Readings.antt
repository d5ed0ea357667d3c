-- What reading on in the log of a pair tells.
use Rattle.std.proofs.Common.{◌≡◌, ℕ, ◌≤◌, Bool, true, false, List, [], ◌∷◌, ◌++◌, length, sym, ap, ◌∙◌, subst}
use Rattle.boss_model.specs.declared.event.Event.{Event}
use Rattle.boss_model.specs.declared.state.Actuator.{Actuator}
use Rattle.boss_model.specs.State.{Persistent}
use Rattle.def_bytes.specs.Batches.{batch_text}
use Rattle.boss_journal.specs.Places.{IsAt, IsAtEnd}
use Rattle.boss_journal.specs.declared.reading.NextRecord.TheVariants.{Bytes, Damaged}
use Rattle.boss_journal.proofs.Frames.{spelled_more}
use Rattle.boss_model.specs.Limits.{longest_record}
use Rattle.def_log.specs.Log.{framed, spelled, IsDamaged, AreRecords}
use Rattle.def_log.proofs.Records.{framed-one}
use Rattle.def_seal.specs.Seals.{seed_of, sealed}
use Rattle.def_seal.proofs.Seals.{one_record}
use Rattle.def_disk_pair.specs.Contents.{joined, records_of, record_of, last_gate, IsNext, IsCourse}
use Rattle.def_disk_pair.specs.Damage.{IsDamagedAt}
use Rattle.def_disk_pair.specs.Pairs.{OfPair, OfThatInForce, HasEvents, StandsFor, DamagedAt}
use Rattle.def_disk_pair.proofs.Disks.{one_more}
use Rattle.def_disk_pair.proofs.OfRecords.{sealed_batch_short}
use Rattle.def_disk_pair.proofs.Replays.{joined_more, all_split}
use Rattle.boss_disk_pair.specs.Orders.{InOrder}
use Rattle.boss_disk_pair.specs.Reads.{AtGate, AtEnd, NoneLeads}
use Rattle.boss_disk_pair.specs.Rests.{IsInForce}
use Rattle.boss_disk_pair.proofs.Sums.{by_seed, of_events, one_longer}

-- what is said of the disk in force
pub of_that_in_force : (written new : List ℕ → Type 0) (second : Bool) (one other : List ℕ) → InOrder (IsInForce second) second one other → written one
    → InOrder (OfPair written new) second one other
of_that_in_force written new false one other force here = subst (λ i. OfThatInForce written new i one other) (sym force) here
of_that_in_force written new true one other force here = subst (λ i. OfThatInForce written new i other one) (sym force) here

module _ (plant : List Actuator) (digest : List ℕ) (version : ℕ) (front : List ℕ) (from : Persistent) (before : ℕ) (batches : List (List Event)) (d : Persistent)
    (course : IsCourse plant digest version front from before batches d) where
  -- an open gate behind which no record leads on
  pub none_leads : (reads written tail : List ℕ) (gate place : ℕ) → length written ≤ longest_record →
      reads ≡ front ++ (spelled (records_of version front batches ++ written ∷ []) ++ gate ∷ tail) → place ≡ last_gate version front batches →
      ((events : List Event) (after : Persistent) → IsNext plant version d events after → written ≡ record_of version front place events → ⊥) →
      IsDamagedAt plant digest place reads
  none_leads reads written tail gate place short is here none = record {
    version = version;
    front = front;
    from = from;
    before = before;
    batches = batches;
    to = d;
    course = course;
    tail = framed written ++ gate ∷ tail;
    is = is ∙ ap (λ t. front ++ t) (spelled_more (records_of version front batches) written (gate ∷ tail));
    broken = λ events after next more leads same.
        none events after leads (framed-one written (record_of version front place events) (gate ∷ tail) (next ∷ more) short
        (sealed_batch_short version place (seed_of front) events leads.batch) same).0;
    place_is = here;
  }

  -- an open gate behind which no record stands
  pub none_stands : (reads : List ℕ) (place : ℕ) → IsDamaged front (records_of version front batches) reads → place ≡ last_gate version front batches →
      IsDamagedAt plant digest place reads
  none_stands reads place damaged here = record {
    version = version;
    front = front;
    from = from;
    before = before;
    batches = batches;
    to = d;
    course = course;
    tail = damaged.tail;
    is = damaged.is;
    broken = λ events after gate more leads same. damaged.broken (record_of version front place events) gate more
        (sealed_batch_short version place (seed_of front) events leads.batch) same;
    place_is = here;
  }

  pub has_events : (reads : List ℕ) (place : ℕ) (events : List Event) → IsAtEnd front (records_of version front batches) place reads → events ≡ joined batches →
      HasEvents plant digest from before events reads
  has_events reads place events at are = (batches, d, record { version = version; front = front; course = course; log = at.log }, are)

-- the place that an answer tells
pub bytes_place : (a b : ℕ) → Bytes a ≡ Bytes b → a ≡ b
bytes_place a b is = cc

pub damaged_place : (a b : ℕ) → Damaged a ≡ Damaged b → a ≡ b
damaged_place a b is = cc

-- the same in bytes that stay
pub damaged_still : (plant : List Actuator) (digest : List ℕ) (second : Bool) (held other reads : List ℕ) (place told : ℕ) → told ≡ place → reads ≡ held →
    InOrder (DamagedAt plant digest place) second held other → InOrder (DamagedAt plant digest told) second reads other
damaged_still plant digest second held other reads place told here still damaged =
    subst (λ n. InOrder (DamagedAt plant digest n) second reads other) (sym here) (subst (λ r. InOrder (DamagedAt plant digest place) second r other) (sym still) damaged)

-- the last of some records
last_short : (records : List (List ℕ)) (bytes : List ℕ) → AreRecords (records ++ bytes ∷ []) → length bytes ≤ longest_record
last_short records bytes each = (all_split (λ r. length r ≤ longest_record) records (bytes ∷ []) each).1.0

module _ (plant : List Actuator) (digest seed : List ℕ) (version : ℕ) (second : Bool) (generation number : ℕ) (held other : List ℕ) (place : ℕ)
    (from : Persistent) (before : ℕ) (events : List Event) (d : Persistent) where
  -- the journal moves on, in bytes that stay and a version that stays
  abbrev At : ℕ → List ℕ → ℕ → List Event → Persistent → Type 0
  At v reads p es to = AtGate plant digest seed v second generation number reads other p from before es to

  pub moved : (v p : ℕ) (reads : List ℕ) (es : List Event) (to : Persistent) → v ≡ version → reads ≡ held → At version held p es to → At v reads p es to
  moved v p reads es to same still at = subst (λ x. At x reads p es to) (sym same) (subst (λ r. At version r p es to) (sym still) at)

  -- a record that leads on
  pub leads_on : (at : At version held place events d) (now : ℕ) (bytes written : List ℕ) (batch : List Event) (after : Persistent) →
      IsAt at.coming.front (records_of version at.coming.front at.coming.batches ++ written ∷ []) now held → written ≡ sealed version seed place bytes →
      bytes ≡ batch_text batch → IsNext plant version d batch after → At version held now (events ++ batch) after
  leads_on at now bytes written batch after there is text next = record {
    coming = record {
      front = at.coming.front;
      batches = at.coming.batches ++ batch ∷ [];
      course = one_more plant digest at.coming.front version before from at.coming.batches d batch after at.coming.course next;
      seeded = at.coming.seeded;
      are = ap (λ es. es ++ batch) at.coming.are ∙ sym (joined_more at.coming.batches batch);
      whole = at.coming.whole;
      kind = at.coming.kind;
      is_in_force = at.coming.is_in_force;
      counts = at.coming.counts;
    };
    at = subst (λ records. IsAt at.coming.front records now held)
        (one_longer version at.coming.front written at.coming.batches batch
        (of_events version place (last_gate version at.coming.front at.coming.batches) seed at.coming.front bytes written batch at.coming.seeded at.at.here text is)) there;
  }

  -- a record that leads nowhere
  not_this : (at : At version held place events d) (now : ℕ) (written : List ℕ) →
      IsAt at.coming.front (records_of version at.coming.front at.coming.batches ++ written ∷ []) now held →
      ((es : List Event) (after : Persistent) → IsNext plant version d es after → written ≡ record_of version at.coming.front place es → ⊥) →
      InOrder (DamagedAt plant digest place) second held other
  not_this at now written there none =
      of_that_in_force (IsDamagedAt plant digest place) (λ none. ⊥) second held other at.coming.is_in_force
      (none_leads plant digest version at.coming.front from before at.coming.batches d at.coming.course held written there.tail there.gate place
      (last_short (records_of version at.coming.front at.coming.batches) written there.each) there.is at.at.here none)

  pub leads_nowhere : (at : At version held place events d) (now : ℕ) (bytes written : List ℕ) →
      IsAt at.coming.front (records_of version at.coming.front at.coming.batches ++ written ∷ []) now held → written ≡ sealed version seed place bytes →
      NoneLeads plant version d bytes → InOrder (DamagedAt plant digest place) second held other
  leads_nowhere at now bytes written there is none =
      not_this at now written there
      (λ es after leads same.
      none es after
      (one_record version place (seed_of at.coming.front) bytes (batch_text es) (sym (by_seed version place seed at.coming.front bytes at.coming.seeded) ∙ sym is ∙ same)) leads)

  -- a record whose sum is wrong
  pub sum_wrong : (at : At version held place events d) (now : ℕ) (written : List ℕ) →
      IsAt at.coming.front (records_of version at.coming.front at.coming.batches ++ written ∷ []) now held →
      ((bytes : List ℕ) → written ≡ sealed version seed place bytes → ⊥) → InOrder (DamagedAt plant digest place) second held other
  sum_wrong at now written there wrong =
      not_this at now written there
      (λ es after leads same. wrong (batch_text es) (same ∙ sym (by_seed version place seed at.coming.front (batch_text es) at.coming.seeded)))

  pub stands_nowhere : (at : At version held place events d) → IsDamaged at.coming.front (records_of version at.coming.front at.coming.batches) held →
      InOrder (DamagedAt plant digest place) second held other
  stands_nowhere at damaged =
      of_that_in_force (IsDamagedAt plant digest place) (λ none. ⊥) second held other at.coming.is_in_force
      (none_stands plant digest version at.coming.front from before at.coming.batches d at.coming.course held place damaged at.at.here)

  -- the end
  pub at_end : (at : At version held place events d) (v p : ℕ) (reads : List ℕ) → v ≡ version → reads ≡ held →
      IsAtEnd at.coming.front (records_of version at.coming.front at.coming.batches) p held →
      AtEnd plant digest seed v second generation number reads other p from before events d
  at_end at v p reads same still there =
      subst (λ x. AtEnd plant digest seed x second generation number reads other p from before events d) (sym same)
      (subst (λ r. AtEnd plant digest seed version second generation number r other p from before events d) (sym still) (record { coming = at.coming; at = there }))

  pub stands : (at : At version held place events d) (p : ℕ) (reads : List ℕ) → reads ≡ held → IsAtEnd at.coming.front (records_of version at.coming.front at.coming.batches) p held →
      InOrder (StandsFor plant digest from before events) second reads other
  stands at p reads still there =
      subst (λ r. InOrder (StandsFor plant digest from before events) second r other) (sym still)
      (of_that_in_force (HasEvents plant digest from before events) _ second held other at.coming.is_in_force
      (has_events plant digest version at.coming.front from before at.coming.batches d at.coming.course held p events there at.coming.are))
