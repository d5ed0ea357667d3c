-- Records that are put back in order of number stand for those of the state.
use Rattle.std.proofs.Common.{◌≡◌, ℕ, zero, suc, ◌<◌, List, [], ◌∷◌, length, map, take, get_or, false, refl, ap, sym, ◌∙◌, subst, arith}
use Rattle.std.specs.List.{AllByRecursion}
use Rattle.std.proofs.lemmas.Bool.Decides.{nat_tests}
use Rattle.boss_model.specs.declared.kept.KeptPart.{KeptPart}
use Rattle.boss_model.specs.declared.kept.KeptTxn.{KeptTxn}
use Rattle.boss_model.specs.declared.state.Actuator.{Actuator}
use Rattle.boss_model.specs.declared.state.Pending.{Pending}
use Rattle.boss_model.specs.Lists.{member}
use Rattle.boss_model.specs.Order.{comes_before}
use Rattle.boss_model.specs.Records.{Part, Transaction}
use Rattle.boss_model.specs.Seen.{seen_part, seen_txn}
use Rattle.boss_model.specs.Sound.{Rising, IsSoundPersistent, number_rank}
use Rattle.boss_model.specs.State.{Persistent}
use Rattle.law_time.proofs.Filters.{each-mapped, each-unmapped}
use Rattle.law_time.proofs.Orders.{each-map}
use Rattle.boss_booking.specs.Books.{StandsFor, reverts_on}
use Rattle.law_due.proofs.Ordering.{each-at}
use Rattle.boss_stages.specs.Stages.{Stages, Tracked, number}
use Rattle.boss_restore.specs.Restoring.{tracked}
use Rattle.boss_restore.proofs.Played.{all-told}

records-same : (pending : List Pending) (ts : List Transaction) → map (λ (k : Tracked). k.transaction) (map (tracked pending) ts) ≡ ts
records-same pending [] = refl
records-same pending (t ∷ ts) = ap (λ rest. t ∷ rest) (records-same pending ts)

pub stands-for : (plant : List Actuator) (d : Persistent) (stages : Stages) → IsSoundPersistent plant d → stages.kept ≡ map (tracked d.pending) d.txns → stages.done ≡ d.done → StandsFor stages d
stands-for plant d stages sound kept done = record {
  txns = ap (map (λ (k : Tracked). k.transaction)) kept ∙ records-same d.pending d.txns;
  done = done;
  reverting = subst (AllByRecursion (λ k. (point : ℕ) → member point k.reverting ≡ reverts_on (number k) point d.pending)) (sym kept)
      (each-mapped (λ k. (point : ℕ) → member point k.reverting ≡ reverts_on (number k) point d.pending) (tracked d.pending) d.txns (all-told plant d sound));
}

-- those that were put back so far have lesser numbers than the next
pub lesser-numbers : (pending : List Pending) (ts : List KeptTxn) (i : ℕ) (x : KeptTxn) → i < length ts → x ≡ get_or ts i x → Rising number_rank (map seen_txn ts) →
    AllByRecursion (λ k. number k < x.txn) (map (tracked pending) (map seen_txn (take i ts)))
lesser-numbers pending [] i x within is rising = absurd (omega arith)
lesser-numbers pending (t ∷ ts) zero x within is rising = tt
lesser-numbers pending (t ∷ ts) (suc i) x within is rising =
    let later = each-at (λ (u : KeptTxn). comes_before (u.txn ∷ []) (t.txn ∷ []) ≡ false) ts i x
    (each-unmapped (λ (u : Transaction). comes_before (number_rank u) (number_rank (seen_txn t)) ≡ false) seen_txn ts rising.0) (omega arith) in
    let after : comes_before (x.txn ∷ []) (t.txn ∷ []) ≡ false = subst (λ (u : KeptTxn). comes_before (u.txn ∷ []) (t.txn ∷ []) ≡ false) (sym is) later in
    ((grind (arith, nat_tests)), lesser-numbers pending ts i x (omega arith) is rising.1)

-- the points of parts that are put back
pub kept-placed : (points : ℕ) (txns : List KeptTxn) → AllByRecursion (λ (t : Transaction). AllByRecursion (λ part. part.point < points) t.parts) (map seen_txn txns) →
    AllByRecursion (λ (k : KeptTxn). AllByRecursion (λ part. part.point < points) k.parts) txns
kept-placed points txns all =
    each-map (λ (k : KeptTxn). AllByRecursion (λ (part : Part). part.point < points) (map seen_part k.parts)) (λ k. AllByRecursion (λ (part : KeptPart). part.point < points) k.parts)
    (λ k. each-unmapped (λ (part : Part). part.point < points) seen_part k.parts) txns
    (each-unmapped (λ (t : Transaction). AllByRecursion (λ (part : Part). part.point < points) t.parts) seen_txn txns all)
