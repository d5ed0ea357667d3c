-- The records of a disk are determined by its bytes, and so is the place where they are damaged.
use Rattle.std.proofs.Common.{◌≡◌, ℕ, ◌+◌, ◌*◌, ◌≤◌, true, List, [], ◌∷◌, ◌++◌, length, Some, refl, sym, ap, subst, ◌∙◌, arith, length-append}
use Rattle.std.specs.Prelude.{map}
use Rattle.std.specs.Int.{w32, to_be_bytes}
use Rattle.std.proofs.lemmas.List.{map-append}
use Rattle.std.specs.List.{AllByRecursion}
use Rattle.boss_model.specs.declared.event.Event.{Event}
use Rattle.boss_model.specs.declared.state.Actuator.{Actuator}
use Rattle.boss_model.specs.Run.{replay_all}
use Rattle.boss_model.specs.State.{Persistent}
use Rattle.def_bytes.specs.Batches.{batch_text, IsBatch, act_number, IsOfVersion}
use Rattle.def_bytes.specs.Events.{event}
use Rattle.def_bytes.proofs.OfBatches.{batch-events}
use Rattle.def_bytes.proofs.OfEvents.{event_spelled}
use Rattle.boss_model.specs.Limits.{longest_record}
use Rattle.def_log.specs.Log.{framed, spelled, AreRecords}
use Rattle.def_log.proofs.Records.{head-same, behind, record-behind}
use Rattle.def_seal.specs.Seals.{seed_of, sealed, behind as next_place, all_sealed, gate_behind}
use Rattle.def_seal.proofs.Seals.{one_record, sealed_short, sealed_more}
use Rattle.def_disk_pair.specs.Contents.{joined, records_of, record_of, last_gate}
use Rattle.def_disk_pair.specs.Damage.{LeadsNowhere}
use Rattle.def_disk_pair.proofs.Replays.{some-is, replay_split, all_split}

-- ---- how long a record is

events_short : (events : List Event) → AllByRecursion (λ e. event.fits e ≡ true) events → length (batch_text events) ≤ 3669 * length events
events_short [] fit = omega arith
events_short (e ∷ events) fit =
    let one : length (event.text e) ≤ 3669 = event_spelled.short.short e fit.0 in
    omega (arith, length-append (event.text e) (batch_text events), one, events_short events fit.1)

pub batch_short : (events : List Event) → IsBatch events → length (batch_text events) + 8 ≤ longest_record
batch_short events batch = omega (arith, batch.few, events_short events batch.fitting)

pub sealed_batch_short : (version place : ℕ) (seed : List ℕ) (events : List Event) → IsBatch events
    → length (sealed version seed place (batch_text events)) ≤ longest_record
sealed_batch_short version place seed events batch = omega (arith, sealed_short version place seed (batch_text events), batch_short events batch)

pub are_records : (version place : ℕ) (seed : List ℕ) (batches : List (List Event)) → AllByRecursion IsBatch batches
    → AreRecords (all_sealed version seed place (map batch_text batches))
are_records version place seed [] each = tt
are_records version place seed (b ∷ batches) each =
    (sealed_batch_short version place seed b each.0, are_records version (next_place version seed place (batch_text b)) seed batches each.1)

-- ---- where a record stands

length-framed : (r : List ℕ) → length (framed r) ≡ length r + 4
unfolding framed
length-framed r = length-append (to_be_bytes w32 (length r)) r ∙ omega arith

pub gate_place : (version place : ℕ) (seed : List ℕ) (rs : List (List ℕ)) → gate_behind version seed place rs
    ≡ place + length (spelled (all_sealed version seed place rs))
gate_place version place seed [] = omega arith
gate_place version place seed (r ∷ rs) =
    let s : List ℕ = sealed version seed place r in
    let rest : List (List ℕ) = all_sealed version seed (next_place version seed place r) rs in
    let more = gate_place version (next_place version seed place r) seed rs in
    omega (arith, more, length-append (framed s) (spelled rest), length-framed s)

-- the gate behind records stands where their places end
pub at_last_gate : (version : ℕ) (front : List ℕ) (batches : List (List Event)) → last_gate version front batches
    ≡ gate_behind version (seed_of front) (length front) (map batch_text batches)
at_last_gate version front batches =
    length-append front (spelled (records_of version front batches)) ∙ sym (gate_place version (length front) (seed_of front) (map batch_text batches))

-- one record more
pub records_more : (version : ℕ) (front : List ℕ) (batches : List (List Event)) (events : List Event) → records_of version front (batches ++ events ∷ [])
    ≡ records_of version front batches ++ record_of version front (last_gate version front batches) events ∷ []
records_more version front batches events =
    ap (all_sealed version (seed_of front) (length front)) (map-append batch_text batches (events ∷ []))
    ∙ sealed_more version (length front) (seed_of front) (map batch_text batches) (batch_text events)
    ∙ ap (λ p. records_of version front batches ++ record_of version front p events ∷ []) (sym (at_last_gate version front batches))

-- ---- one list of records

same_events : (version place : ℕ) (seed : List ℕ) (b c : List Event) → IsBatch b → IsBatch c
    → sealed version seed place (batch_text b) ≡ sealed version seed place (batch_text c) → b ≡ c
same_events version place seed b c one other is =
    batch-events b c one other (one_record version place seed (batch_text b) (batch_text c) is)

pub same_batches : (version place : ℕ) (seed : List ℕ) (bs cs : List (List Event)) → AllByRecursion IsBatch bs → AllByRecursion IsBatch cs
    → all_sealed version seed place (map batch_text bs) ≡ all_sealed version seed place (map batch_text cs) → bs ≡ cs
same_batches version place seed [] [] each every is = refl
same_batches version place seed [] (c ∷ cs) each every is = absurd cc
same_batches version place seed (b ∷ bs) [] each every is = absurd cc
same_batches version place seed (b ∷ bs) (c ∷ cs) each every is =
    let first : sealed version seed place (batch_text b) ≡ sealed version seed place (batch_text c) = cc in
    let rest : all_sealed version seed (next_place version seed place (batch_text b)) (map batch_text bs)
    ≡ all_sealed version seed (next_place version seed place (batch_text c)) (map batch_text cs) = cc in
    let same = same_events version place seed b c each.0 every.0 first in
    let there = subst (λ e. all_sealed version seed (next_place version seed place (batch_text b)) (map batch_text bs)
    ≡ all_sealed version seed (next_place version seed place (batch_text e)) (map batch_text cs)) (sym same) rest in
    ap (λ x. x ∷ bs) same ∙ ap (λ xs. c ∷ xs) (same_batches version (next_place version seed place (batch_text b)) seed bs cs each.1 every.1 there)

-- ---- where they are damaged

known_first : (version : ℕ) (xs ys : List Event) → IsOfVersion version (xs ++ ys) → IsOfVersion version xs
known_first version xs ys known is = (all_split (λ e. act_number e.act ≡ 0) xs ys (known is)).0

known_rest : (version : ℕ) (xs ys : List Event) → IsOfVersion version (xs ++ ys) → IsOfVersion version ys
known_rest version xs ys known is = (all_split (λ e. act_number e.act ≡ 0) xs ys (known is)).1

module _ (plant : List Actuator) (version : ℕ) (front : List ℕ) where
  -- what stands for the event of records, the first of them behind the gate at this place; and the gate behind them
  abbrev pub placed : ℕ → List (List Event) → List (List ℕ)
  placed place bs = all_sealed version (seed_of front) place (map batch_text bs)

  abbrev pub past : ℕ → List Event → ℕ
  past place b = next_place version (seed_of front) place (batch_text b)

  abbrev pub ends_of : ℕ → List (List Event) → ℕ
  ends_of place bs = gate_behind version (seed_of front) place (map batch_text bs)

  -- records that lead on, and do not stop at an open gate without another one
  leads_on : (place : ℕ) (b : List Event) (bs : List (List Event)) (from to : Persistent) (g : ℕ) (t u : List ℕ) → AllByRecursion IsBatch (b ∷ bs) →
      IsOfVersion version (joined (b ∷ bs)) → replay_all plant from (joined (b ∷ bs)) ≡ Some to → LeadsNowhere plant version front place from u →
      spelled (placed place (b ∷ bs)) ++ g ∷ t ≡ 1 ∷ u → ⊥
  leads_on place b bs from to g t u each known leads nowhere is =
      let mid = replay_split plant from b (joined bs) to leads in
      let found = record-behind (record_of version front place b) (placed (past place b) bs) g t u (sym is) in
      nowhere b mid.0 found.0 found.1 (record { batch = each.0; of_version = known_first version b (joined bs) known; leads = mid.1 }) found.2

  -- one batch at the front of both
  record Halves (place : ℕ) (b c : List Event) (from to until : Persistent) (bs cs : List (List Event)) (a z : List ℕ) : Type 0 where
    batch_same : b ≡ c
    mid : Persistent
    ours : replay_all plant mid (joined bs) ≡ Some to
    theirs : replay_all plant mid (joined cs) ≡ Some until
    rest_same : spelled (placed (past place b) bs) ++ a ≡ spelled (placed (past place b) cs) ++ z

  halves : (place : ℕ) (b c : List Event) (bs cs : List (List Event)) (from to until : Persistent) (a z : List ℕ) → IsBatch b → IsBatch c →
      replay_all plant from (joined (b ∷ bs)) ≡ Some to → replay_all plant from (joined (c ∷ cs)) ≡ Some until →
      spelled (placed place (b ∷ bs)) ++ a ≡ spelled (placed place (c ∷ cs)) ++ z → Halves place b c from to until bs cs a z
  halves place b c bs cs from to until a z one other leads ends is =
      let both = behind (record_of version front place b) (record_of version front place c) (spelled (placed (past place b) bs)) (spelled (placed (past place c) cs)) a z
      (sealed_batch_short version place (seed_of front) b one) (sealed_batch_short version place (seed_of front) c other) is in
      let same = same_events version place (seed_of front) b c one other both.same in
      let ours = replay_split plant from b (joined bs) to leads in
      let theirs = replay_split plant from c (joined cs) until ends in
      let mids : ours.0 ≡ theirs.0 = some-is _ _ (sym ours.1 ∙ ap (replay_all plant from) same ∙ theirs.1) in
      record {
        batch_same = same;
        mid = ours.0;
        ours = ours.2;
        theirs = ap (λ m. replay_all plant m (joined cs)) mids ∙ theirs.2;
        rest_same = subst (λ e. spelled (placed (past place b) bs) ++ a ≡ spelled (placed (past place e) cs) ++ z) (sym same) both.after;
      }

  -- what leads nowhere behind one list leads nowhere behind the other
  nowhere_there : (place : ℕ) (b c : List Event) (cs : List (List Event)) (d : Persistent) (u : List ℕ) → b ≡ c →
      LeadsNowhere plant version front (ends_of place (c ∷ cs)) d u → LeadsNowhere plant version front (ends_of (past place b) cs) d u
  nowhere_there place b c cs d u same nowhere = subst (λ e. LeadsNowhere plant version front (ends_of (past place e) cs) d u) (sym same) nowhere

  pub never_both : (place : ℕ) (bs cs : List (List Event)) (from to until : Persistent) (g : ℕ) (t u : List ℕ) → (g ≡ 1 → ⊥) →
      AllByRecursion IsBatch bs → AllByRecursion IsBatch cs → IsOfVersion version (joined bs) →
      replay_all plant from (joined bs) ≡ Some to → replay_all plant from (joined cs) ≡ Some until → LeadsNowhere plant version front (ends_of place cs) until u →
      spelled (placed place bs) ++ g ∷ t ≡ spelled (placed place cs) ++ 1 ∷ u → ⊥
  never_both place [] [] from to until g t u shut each every known leads done nowhere is = shut (head-same g 1 t u is)
  never_both place [] (c ∷ cs) from to until g t u shut each every known leads done nowhere is =
      shut (head-same g 1 t ((framed (record_of version front place c) ++ spelled (placed (past place c) cs)) ++ 1 ∷ u) is)
  never_both place (b ∷ bs) [] from to until g t u shut each every known leads done nowhere is =
      leads_on place b bs from to g t u each known leads (subst (λ d. LeadsNowhere plant version front place d u) (sym (some-is from until done)) nowhere) is
  never_both place (b ∷ bs) (c ∷ cs) from to until g t u shut each every known leads done nowhere is =
      let h = halves place b c bs cs from to until (g ∷ t) (1 ∷ u) each.0 every.0 leads done is in
      never_both (past place b) bs cs h.mid to until g t u shut each.1 every.1 (known_rest version b (joined bs) known) h.ours h.theirs
      (nowhere_there place b c cs until u h.batch_same nowhere) h.rest_same

  pub one_damage : (place : ℕ) (bs cs : List (List Event)) (from to until : Persistent) (t u : List ℕ) →
      AllByRecursion IsBatch bs → AllByRecursion IsBatch cs → IsOfVersion version (joined bs) → IsOfVersion version (joined cs) →
      replay_all plant from (joined bs) ≡ Some to → replay_all plant from (joined cs) ≡ Some until →
      LeadsNowhere plant version front (ends_of place bs) to t → LeadsNowhere plant version front (ends_of place cs) until u →
      spelled (placed place bs) ++ 1 ∷ t ≡ spelled (placed place cs) ++ 1 ∷ u → bs ≡ cs
  one_damage place [] [] from to until t u each every known other leads done broken nowhere is = refl
  one_damage place [] (c ∷ cs) from to until t u each every known other leads done broken nowhere is =
      absurd (leads_on place c cs from until 1 u t every other done (subst (λ d. LeadsNowhere plant version front place d t) (sym (some-is from to leads)) broken) (sym is))
  one_damage place (b ∷ bs) [] from to until t u each every known other leads done broken nowhere is =
      absurd (leads_on place b bs from to 1 t u each known leads (subst (λ d. LeadsNowhere plant version front place d u) (sym (some-is from until done)) nowhere) is)
  one_damage place (b ∷ bs) (c ∷ cs) from to until t u each every known other leads done broken nowhere is =
      let h = halves place b c bs cs from to until (1 ∷ t) (1 ∷ u) each.0 every.0 leads done is in
      ap (λ x. x ∷ bs) h.batch_same
      ∙ ap (λ xs. c ∷ xs) (one_damage (past place b) bs cs h.mid to until t u each.1 every.1 (known_rest version b (joined bs) known) (known_rest version c (joined cs) other)
      h.ours h.theirs broken (nowhere_there place b c cs until u h.batch_same nowhere) h.rest_same)
