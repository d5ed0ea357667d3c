-- A record with the sum that a pair's seed gives, and the front of its disk.
use Rattle.std.proofs.Common.{◌≡◌, Bool, true, false, cond, ℕ, List, [], ◌∷◌, ◌++◌, length, refl, ap, ◌∙◌, sym, arith}
use Rattle.boss_model.specs.declared.event.Event.{Event}
use Rattle.def_bytes.specs.Batches.{batch_text}
use Rattle.def_seal.specs.Seals.{has_sums, seed_of, sum_of, sealed}
use Rattle.def_disk_pair.specs.Contents.{records_of, record_of, last_gate}
use Rattle.def_disk_pair.proofs.OfRecords.{records_more}

by_case : (on : Bool) (bytes one other : List ℕ) → (on ≡ true → one ≡ other) → cond on (bytes ++ one) bytes ≡ cond on (bytes ++ other) bytes
by_case true bytes one other same = ap (λ s. bytes ++ s) (same refl)
by_case false bytes one other same = refl

-- what a seed gives that is the front's where there are sums
pub by_seed : (version place : ℕ) (seed front bytes : List ℕ) → (has_sums version ≡ true → seed ≡ seed_of front) →
    sealed version seed place bytes ≡ sealed version (seed_of front) place bytes
by_seed version place seed front bytes seeded =
    by_case (has_sums version) bytes (sum_of seed place bytes) (sum_of (seed_of front) place bytes) (λ on. ap (λ s. sum_of s place bytes) (seeded on))

-- bytes that are sealed are the record of their events
pub of_events : (version place gate : ℕ) (seed front bytes written : List ℕ) (events : List Event) → (has_sums version ≡ true → seed ≡ seed_of front) →
    place ≡ gate → bytes ≡ batch_text events → written ≡ sealed version seed place bytes → written ≡ record_of version front gate events
of_events version place gate seed front bytes written events seeded here text is =
    is ∙ by_seed version place seed front bytes seeded ∙ ap (λ b. sealed version (seed_of front) place b) text ∙ ap (λ p. record_of version front p events) here

pub one_longer : (version : ℕ) (front written : List ℕ) (batches : List (List Event)) (events : List Event) →
    written ≡ record_of version front (last_gate version front batches) events →
    records_of version front batches ++ written ∷ [] ≡ records_of version front (batches ++ events ∷ [])
one_longer version front written batches events is = ap (λ r. records_of version front batches ++ r ∷ []) is ∙ sym (records_more version front batches events)
