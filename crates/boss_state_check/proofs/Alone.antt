-- The test of a record tells that it is what soundness asks of a record by itself, and the other way round.
use Rattle.std.proofs.Common.{◌≡◌, ℕ, ◌<◌, ◌≤◌, ◌==◌, nat_lt, List, [], ◌∷◌, length, map, Bool, true, false, not, ◌&&◌, ◌||◌, Option, Some, None, is_none, refl, sym, ◌∙◌, arith}
use Rattle.std.specs.Prelude.{nat_le}
use Rattle.std.specs.Bool.{beq}
use Rattle.std.specs.List.{list_all, list_any, AllByRecursion}
use Rattle.std.specs.Option.{option_map}
use Rattle.std.proofs.lemmas.Bool.Decides.{nat_tests}
use Rattle.boss_model.specs.declared.kept.Kept.{Kept}
use Rattle.boss_model.specs.declared.kept.KeptPart.{KeptPart}
use Rattle.boss_model.specs.declared.kept.KeptTxn.{KeptTxn}
use Rattle.boss_model.specs.declared.notice.Cause.{Cause}
use Rattle.boss_model.specs.declared.state.Actuator.{Actuator}
use Rattle.boss_model.specs.declared.state.Lease.{Lease}
use Rattle.boss_model.specs.Limits.{most_writes}
use Rattle.boss_model.specs.Lists.{member}
use Rattle.boss_model.specs.Order.{comes_before}
use Rattle.boss_model.specs.Records.{End}
use Rattle.boss_model.specs.Seen.{seen_part}
use Rattle.boss_model.specs.Sound.{Rising, Distinct, IsPast, IsEnd, IsPart, holds}
use Rattle.boss_model.specs.State.{lease_slot}
use Rattle.boss_state_check.specs.Searches.{is_held}
use Rattle.boss_state_check.specs.Tests.{is_cause, is_past, is_slot, is_part, have_own_points, is_transaction}
use Rattle.boss_state_check.proofs.Tested.{both, not-true, not-false, beq-same, same-beq, and-turn, lt, is-lt, le, is-le, each-of, each-tests, any-found}
use Rattle.boss_state_check.proofs.Items.{cause-of, cause-tests}

-- ---- points

others-same : (point : ℕ) (parts : List KeptPart) → list_any (λ other. other.point == point) parts ≡ member point (map (λ part. part.point) (map seen_part parts))
others-same point [] = refl
others-same point (part ∷ parts) = λ i. (part.point == point) || others-same point parts i

pub points-of : (parts : List KeptPart) → have_own_points parts ≡ true → Distinct (map (λ part. part.point) (map seen_part parts))
points-of [] is = tt
points-of (part ∷ parts) is =
    let halves = both (not (list_any (λ other. other.point == part.point) parts)) (have_own_points parts) is in
    (sym (others-same part.point parts) ∙ not-true (list_any (λ other. other.point == part.point) parts) halves.0, points-of parts halves.1)

pub points-tests : (parts : List KeptPart) → Distinct (map (λ part. part.point) (map seen_part parts)) → have_own_points parts ≡ true
points-tests [] is = refl
points-tests (part ∷ parts) is = λ i. not-false (list_any (λ other. other.point == part.point) parts) (others-same part.point parts ∙ is.0) i && points-tests parts is.1 i

-- ---- the lease of a slot

abbrev pub in_slot : ℕ → ℕ → Lease → Bool
in_slot point priority lease = (lease.point == point) && (lease.priority == priority)

one-slot : (point priority : ℕ) (x y : Lease) → in_slot point priority x ≡ true → comes_before (lease_slot y) (lease_slot x) ≡ false → in_slot point priority y ≡ false
one-slot point priority x y here after =
    let later : comes_before (y.point ∷ y.priority ∷ []) (x.point ∷ x.priority ∷ []) ≡ false = after in
    grind (arith, nat_tests)

-- in leases that rise the one in a slot is the only one there
pub held-same : (leases : List Lease) (txn point priority : ℕ) → Rising lease_slot leases → is_held leases txn point priority ≡ holds leases txn point priority
held-same leases txn point priority up =
    sym (any-found lease_slot (in_slot point priority) (one-slot point priority) (λ lease. lease.txn == txn) leases up)
    ∙ (λ i. list_any (λ lease. and-turn (in_slot point priority lease) (lease.txn == txn) i) leases)

-- ---- parts

-- an end as the definitions see it
abbrev pub seen_end : Option (Cause × ℕ) → Option End
seen_end end = option_map (λ end. record { cause = end.0; at = end.1 }) end

pub none-seen : (end : Option (Cause × ℕ)) → is_none (seen_end end) ≡ is_none end
none-seen None = refl
none-seen (Some end) = refl

past-of : (now : ℕ) (end : Option (Cause × ℕ)) → is_past now end ≡ true → IsPast now (seen_end end) × IsEnd (seen_end end)
past-of now None is = (tt, tt)
past-of now (Some end) is = let halves = both (is_cause end.0) (nat_le end.1 now) is in (le end.1 now halves.1, cause-of end.0 halves.0)

past-tests : (now : ℕ) (end : Option (Cause × ℕ)) → IsPast now (seen_end end) → IsEnd (seen_end end) → is_past now end ≡ true
past-tests now None past why = refl
past-tests now (Some end) past why = λ i. cause-tests end.0 why i && is-le end.1 now past i

pub part-of : (plant : List Actuator) (now txn : ℕ) (leases : List Lease) → Rising lease_slot leases → (part : KeptPart) → is_part plant now txn leases part ≡ true → IsPart plant now txn leases (seen_part part)
part-of plant now txn leases up part is =
    let held = is_held leases txn part.point part.priority in
    let a = both (is_slot (length plant) part.point part.priority && is_past now part.end) (beq (is_none part.end) held) is in
    let b = both (is_slot (length plant) part.point part.priority) (is_past now part.end) a.0 in
    let c = both (nat_lt part.point (length plant)) (nat_lt part.priority 256) b.0 in
    let past = past-of now part.end b.1 in
    record {
      known = lt part.point (length plant) c.0;
      priority = lt part.priority 256 c.1;
      open_part = none-seen part.end ∙ beq-same (is_none part.end) held a.1 ∙ held-same leases txn part.point part.priority up;
      past = past.0;
      why = past.1;
    }

pub part-tests : (plant : List Actuator) (now txn : ℕ) (leases : List Lease) → Rising lease_slot leases → (part : KeptPart) → IsPart plant now txn leases (seen_part part) → is_part plant now txn leases part ≡ true
part-tests plant now txn leases up part is =
    let held = is_held leases txn part.point part.priority in
    let opens : is_none part.end ≡ held = sym (none-seen part.end) ∙ is.open_part ∙ sym (held-same leases txn part.point part.priority up) in
    λ i. (is-lt part.point (length plant) is.known i && is-lt part.priority 256 is.priority i) && past-tests now part.end is.past is.why i && same-beq (is_none part.end) held opens i

-- ---- records

-- what soundness asks of a record by itself
pub record IsAlone (plant : List Actuator) (kept : Kept) (t : KeptTxn) : Type 0 where
  pub numbered : 1 ≤ t.txn
  pub given : t.txn < kept.next
  pub owner : t.owner < length kept.processes
  pub some_part : 1 ≤ length t.parts
  pub few_parts : length t.parts ≤ most_writes
  pub points : Distinct (map (λ part. part.point) (map seen_part t.parts))
  pub parts : AllByRecursion (λ part. IsPart plant kept.now t.txn kept.leases (seen_part part)) t.parts

module _ (plant : List Actuator) (kept : Kept) (up : Rising lease_slot kept.leases) where
  pub record-of : (t : KeptTxn) → is_transaction plant kept t ≡ true → IsAlone plant kept t
  record-of t is =
      let owner = length kept.processes in
      let parts = length t.parts in
      let a = both (nat_le 1 t.txn && nat_lt t.txn kept.next && nat_lt t.owner owner && nat_le 1 parts && nat_le parts most_writes && have_own_points t.parts) (list_all (is_part plant kept.now t.txn kept.leases) t.parts) is in
      let b = both (nat_le 1 t.txn && nat_lt t.txn kept.next && nat_lt t.owner owner && nat_le 1 parts && nat_le parts most_writes) (have_own_points t.parts) a.0 in
      let c = both (nat_le 1 t.txn && nat_lt t.txn kept.next && nat_lt t.owner owner && nat_le 1 parts) (nat_le parts most_writes) b.0 in
      let d = both (nat_le 1 t.txn && nat_lt t.txn kept.next && nat_lt t.owner owner) (nat_le 1 parts) c.0 in
      let e = both (nat_le 1 t.txn && nat_lt t.txn kept.next) (nat_lt t.owner owner) d.0 in
      let f = both (nat_le 1 t.txn) (nat_lt t.txn kept.next) e.0 in
      record {
        numbered = le 1 t.txn f.0;
        given = lt t.txn kept.next f.1;
        owner = lt t.owner owner e.1;
        some_part = le 1 parts d.1;
        few_parts = le parts most_writes c.1;
        points = points-of t.parts b.1;
        parts = each-of (λ part. IsPart plant kept.now t.txn kept.leases (seen_part part)) (is_part plant kept.now t.txn kept.leases) (part-of plant kept.now t.txn kept.leases up) t.parts a.1;
      }

  pub record-tests : (t : KeptTxn) → IsAlone plant kept t → is_transaction plant kept t ≡ true
  record-tests t is =
      let all = each-tests (λ part. IsPart plant kept.now t.txn kept.leases (seen_part part)) (is_part plant kept.now t.txn kept.leases) (part-tests plant kept.now t.txn kept.leases up) t.parts is.parts in
      λ i. is-le 1 t.txn is.numbered i && is-lt t.txn kept.next is.given i && is-lt t.owner (length kept.processes) is.owner i && is-le 1 (length t.parts) is.some_part i
      && is-le (length t.parts) most_writes is.few_parts i && points-tests t.parts is.points i && all i
