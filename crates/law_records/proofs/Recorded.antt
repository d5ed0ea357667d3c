-- Each lease is of a transaction that has its record.
use Rattle.std.proofs.Common.{◌≡◌, ℕ, ◌==◌, List, [], ◌∷◌, Bool, true, false, ◌&&◌, ◌||◌, cond, Option, Some, is_some, is_none, refl}
use Rattle.std.specs.List.{filter, list_any, AllByRecursion}
use Rattle.boss_model.specs.declared.state.Actuator.{Actuator}
use Rattle.boss_model.specs.declared.state.Lease.{Lease}
use Rattle.boss_model.specs.Records.{End, Transaction}
use Rattle.boss_model.specs.Renew.{transaction_of}
use Rattle.boss_model.specs.Sound.{has_part, IsSoundPersistent}
use Rattle.boss_model.specs.State.{Persistent}
use Rattle.boss_model.specs.Target.{in_force}
use Rattle.law_time.proofs.Orders.{each-map, each-filter, least-of}

recorded : (test : Option End → Bool) (txn point priority : ℕ) (ts : List Transaction) → has_part test ts txn point priority ≡ true → is_some (transaction_of ts txn) ≡ true
recorded test txn point priority [] there = there
recorded test txn point priority (t ∷ ts) there = by (t.txn == txn) there (recorded test txn point priority ts)
  where
    by : (here : Bool) → ((here && list_any (λ part. (part.point == point) && ((part.priority == priority) && test part.end)) t.parts) || has_part test ts txn point priority) ≡ true →
        (has_part test ts txn point priority ≡ true → is_some (transaction_of ts txn) ≡ true) → is_some (cond here (Some t) (transaction_of ts txn)) ≡ true
    by true there rest = refl
    by false there rest = rest there

module _ (plant : List Actuator) (d : Persistent) (sound : IsSoundPersistent plant d) where
  pub each-recorded : AllByRecursion (λ l. is_some (transaction_of d.txns l.txn) ≡ true) d.leases
  each-recorded = each-map (λ l. has_part is_none d.txns l.txn l.point l.priority ≡ true) (λ l. is_some (transaction_of d.txns l.txn) ≡ true)
      (λ l there. recorded is_none l.txn l.point l.priority d.txns there) d.leases sound.open_parts

  pub force-recorded : (point : ℕ) (lease : Lease) → in_force d.leases point ≡ Some lease → is_some (transaction_of d.txns lease.txn) ≡ true
  force-recorded point lease is = least-of (λ l. is_some (transaction_of d.txns l.txn) ≡ true) (λ l. l.priority) (filter (λ l. l.point == point) d.leases) lease
      (each-filter (λ l. is_some (transaction_of d.txns l.txn) ≡ true) (λ l. l.point == point) d.leases each-recorded) is
