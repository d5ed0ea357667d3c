-- Leases and reversions have their parts in the records of their transactions: what a search for the record tells of all records.
use Rattle.std.proofs.Common.{◌≡◌, ℕ, ◌==◌, List, [], ◌∷◌, map, Bool, true, false, ◌&&◌, ◌||◌, Option, Some, None, is_some, is_none, cond, refl, ap, sym, ◌∙◌, arith}
use Rattle.std.specs.Prelude.{slice_get}
use Rattle.std.specs.List.{list_any}
use Rattle.std.specs.Option.{option_map_or}
use Rattle.std.proofs.lemmas.Bool.Decides.{nat_tests}
use Rattle.boss_model.specs.declared.command.Policy.{Policy}
use Rattle.boss_model.specs.declared.command.Policy.TheVariants.{Abort, Keep}
use Rattle.boss_model.specs.declared.kept.KeptPart.{KeptPart}
use Rattle.boss_model.specs.declared.kept.KeptTxn.{KeptTxn}
use Rattle.boss_model.specs.declared.notice.Cause.{Cause}
use Rattle.boss_model.specs.declared.state.Lease.{Lease}
use Rattle.boss_model.specs.declared.state.Pending.{Pending}
use Rattle.boss_model.specs.Order.{comes_before}
use Rattle.boss_model.specs.Records.{End}
use Rattle.boss_model.specs.Same.{same_policy}
use Rattle.boss_model.specs.Seen.{seen_part, seen_txn}
use Rattle.boss_model.specs.Sound.{Rising, has_part, is_start as starts, is_kept}
use Rattle.boss_state_check.specs.Searches.{transaction_of, kept_rank}
use Rattle.boss_state_check.specs.Tests.{tells_lease, is_told_lease, is_start, tells_pending, is_told_pending, is_recorded}
use Rattle.boss_state_check.proofs.Tested.{both, and-group, eq, is-eq, some-found, found-passes, any-found, self-found}
use Rattle.boss_state_check.proofs.Alone.{seen_end}

pub policy-of : (one other : Policy) → same_policy one other ≡ true → other ≡ one
policy-of Abort Abort is = refl
policy-of Abort Keep is = absurd (cc)
policy-of Keep Abort is = absurd (cc)
policy-of Keep Keep is = refl

pub policy-tests : (one other : Policy) → other ≡ one → same_policy one other ≡ true
policy-tests Abort Abort is = refl
policy-tests Abort Keep is = absurd (cc)
policy-tests Keep Abort is = absurd (cc)
policy-tests Keep Keep is = refl

-- ---- the record of a number

one-number : (txn : ℕ) (x y : KeptTxn) → (x.txn == txn) ≡ true → comes_before (kept_rank y) (kept_rank x) ≡ false → (y.txn == txn) ≡ false
one-number txn x y here after =
    let later : comes_before (y.txn ∷ []) (x.txn ∷ []) ≡ false = after in grind (arith, nat_tests)

pub own-found : (txns : List KeptTxn) (place : ℕ) (t : KeptTxn) → Rising kept_rank txns → slice_get txns place ≡ Some t → transaction_of txns t.txn ≡ Some t
own-found txns place t up there = self-found kept_rank (λ u. u.txn == t.txn) (one-number t.txn) txns place t up there (is-eq t.txn t.txn refl)

pub found-number : (txns : List KeptTxn) (txn : ℕ) (t : KeptTxn) → transaction_of txns txn ≡ Some t → t.txn ≡ txn
found-number txns txn t found = eq t.txn txn (found-passes (λ u. u.txn == txn) txns t found).0

-- there is a record of the number
pub recorded-same : (txns : List KeptTxn) (txn : ℕ) → is_recorded txns txn ≡ is_kept (map seen_txn txns) txn
recorded-same [] txn = refl
recorded-same (t ∷ ts) txn = by (t.txn == txn) (recorded-same ts txn)
  where
    by : (b : Bool) → is_recorded ts txn ≡ is_kept (map seen_txn ts) txn → is_some (cond b (Some t) (transaction_of ts txn)) ≡ (b || is_kept (map seen_txn ts) txn)
    by true rest = refl
    by false rest = rest

-- ---- the parts of a record

-- a part in the slot, whose end passes the test
abbrev pub part_in : (Option (Cause × ℕ) → Bool) → ℕ → ℕ → KeptTxn → Bool
part_in test point priority t = list_any (λ part. (part.point == point) && (part.priority == priority) && test part.end) t.parts

module _ (test : Option End → Bool) (kept_test : Option (Cause × ℕ) → Bool) (alike : (end : Option (Cause × ℕ)) → test (seen_end end) ≡ kept_test end) where
  parts-same : (point priority : ℕ) (parts : List KeptPart) →
      list_any (λ part. (part.point == point) && ((part.priority == priority) && test part.end)) (map seen_part parts) ≡ list_any (λ part. (part.point == point) && (part.priority == priority) && kept_test part.end) parts
  parts-same point priority [] = refl
  parts-same point priority (part ∷ parts) =
      let here : ((part.point == point) && ((part.priority == priority) && test (seen_end part.end))) ≡ ((part.point == point) && (part.priority == priority) && kept_test part.end) =
      (λ i. (part.point == point) && ((part.priority == priority) && alike part.end i)) ∙ sym (and-group (part.point == point) (part.priority == priority) (kept_test part.end)) in
      λ i. here i || parts-same point priority parts i

  records-same : (txn point priority : ℕ) (txns : List KeptTxn) → has_part test (map seen_txn txns) txn point priority ≡ list_any (λ t. (t.txn == txn) && part_in kept_test point priority t) txns
  records-same txn point priority [] = refl
  records-same txn point priority (t ∷ ts) = λ i. ((t.txn == txn) && parts-same point priority t.parts i) || records-same txn point priority ts i

  -- the record that is found is the only one of its number
  pub has-same : (txns : List KeptTxn) (txn point priority : ℕ) → Rising kept_rank txns →
      has_part test (map seen_txn txns) txn point priority ≡ option_map_or (part_in kept_test point priority) (transaction_of txns txn) false
  has-same txns txn point priority up = records-same txn point priority txns
      ∙ any-found kept_rank (λ t. t.txn == txn) (one-number txn) (part_in kept_test point priority) txns up

pub start-seen : (start : ℕ) (end : Option (Cause × ℕ)) → starts start (seen_end end) ≡ is_start start end
start-seen start None = refl
start-seen start (Some end) = refl

-- ---- leases

pub lease-told : (txns : List KeptTxn) (lease : Lease) → is_told_lease txns lease ≡ true → (t : KeptTxn) → transaction_of txns t.txn ≡ Some t → lease.txn ≡ t.txn →
    (t.owner ≡ lease.owner) × (lease.policy ≡ t.policy) × (part_in is_none lease.point lease.priority t ≡ true)
lease-told txns lease told t own same =
    let here : tells_lease lease t ≡ true = sym (ap (λ found. option_map_or (tells_lease lease) found false) (ap (transaction_of txns) same ∙ own)) ∙ told in
    let a = both ((t.owner == lease.owner) && same_policy t.policy lease.policy) (part_in is_none lease.point lease.priority t) here in
    let b = both (t.owner == lease.owner) (same_policy t.policy lease.policy) a.0 in
    (eq t.owner lease.owner b.0, policy-of t.policy lease.policy b.1, a.1)

pub lease-found : (txns : List KeptTxn) (lease : Lease) → is_told_lease txns lease ≡ true → option_map_or (part_in is_none lease.point lease.priority) (transaction_of txns lease.txn) false ≡ true
lease-found txns lease told =
    let t = some-found (tells_lease lease) (transaction_of txns lease.txn) told in
    ap (λ found. option_map_or (part_in is_none lease.point lease.priority) found false) t.1
    ∙ (both ((t.0.owner == lease.owner) && same_policy t.0.policy lease.policy) (part_in is_none lease.point lease.priority t.0) t.2).1

pub lease-tells : (txns : List KeptTxn) (lease : Lease) (t : KeptTxn) → transaction_of txns lease.txn ≡ Some t → t.owner ≡ lease.owner → lease.policy ≡ t.policy →
    part_in is_none lease.point lease.priority t ≡ true → is_told_lease txns lease ≡ true
lease-tells txns lease t found owner policy part =
    ap (λ found. option_map_or (tells_lease lease) found false) found
    ∙ (λ i. is-eq t.owner lease.owner owner i && policy-tests t.policy lease.policy policy i && part i)

-- ---- reversions

pub pending-told : (txns : List KeptTxn) (r : Pending) → is_told_pending txns r ≡ true → (t : KeptTxn) → transaction_of txns t.txn ≡ Some t → r.txn ≡ t.txn →
    (t.owner ≡ r.owner) × (part_in (is_start r.start) r.point r.priority t ≡ true)
pending-told txns r told t own same =
    let here : tells_pending r t ≡ true = sym (ap (λ found. option_map_or (tells_pending r) found false) (ap (transaction_of txns) same ∙ own)) ∙ told in
    let a = both (t.owner == r.owner) (part_in (is_start r.start) r.point r.priority t) here in
    (eq t.owner r.owner a.0, a.1)

pub pending-found : (txns : List KeptTxn) (r : Pending) → is_told_pending txns r ≡ true → option_map_or (part_in (is_start r.start) r.point r.priority) (transaction_of txns r.txn) false ≡ true
pending-found txns r told =
    let t = some-found (tells_pending r) (transaction_of txns r.txn) told in
    ap (λ found. option_map_or (part_in (is_start r.start) r.point r.priority) found false) t.1
    ∙ (both (t.0.owner == r.owner) (part_in (is_start r.start) r.point r.priority t.0) t.2).1

pub pending-tells : (txns : List KeptTxn) (r : Pending) (t : KeptTxn) → transaction_of txns r.txn ≡ Some t → t.owner ≡ r.owner →
    part_in (is_start r.start) r.point r.priority t ≡ true → is_told_pending txns r ≡ true
pending-tells txns r t found owner part =
    ap (λ found. option_map_or (tells_pending r) found false) found ∙ (λ i. is-eq t.owner r.owner owner i && part i)
