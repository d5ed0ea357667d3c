-- What a command concludes is sound, if the change that it made is.
use Rattle.std.proofs.Common.{◌≡◌, ℕ, ◌==◌, List, [], ◌∷◌, ◌++◌, length, map, true, false, not, ◌&&◌, subst, arith}
use Rattle.std.specs.List.{filter, AllByRecursion}
use Rattle.std.proofs.lemmas.Bool.{cond_both}
use Rattle.std.proofs.lemmas.Bool.Decides.{nat_tests}
use Rattle.boss_model.specs.declared.state.Actuator.{Actuator}
use Rattle.boss_model.specs.declared.state.Lease.{Lease}
use Rattle.boss_model.specs.declared.state.Pending.{Pending}
use Rattle.boss_model.specs.Groups.{courses_of, conclude}
use Rattle.boss_model.specs.Happenings.{Happening, rank, lives, done_at, is_done}
use Rattle.boss_model.specs.Lists.{member}
use Rattle.boss_model.specs.Order.{comes_before, in_order}
use Rattle.boss_model.specs.Records.{Transaction}
use Rattle.boss_model.specs.Reversions.{courses}
use Rattle.boss_model.specs.Sound.{Rising, IsTransaction, is_kept, number_rank, IsSoundPersistent}
use Rattle.boss_model.specs.State.{Persistent}
use Rattle.law_time.proofs.Filters.{each-mapped, each-always}
use Rattle.law_time.proofs.GroupSound.{IsNewlyDone, IsTidings, IsChange, group-sound, tell-length}
use Rattle.law_time.proofs.Orders.{each-map, each-filter, each-passed, each-both, each-append, each-in_order, Rising-filter}
use Rattle.law_time.proofs.Records.{IsOther}
use Rattle.law_time.proofs.TickSound.{Pairs, Pairs-in_order, Once, Once-turn, Pairs-DoneOnce, IsSilent, silent-first, each-kept, word-of}

once-ended : (n : ℕ) (ts : List Transaction) → Rising number_rank ts → Pairs Once (map (done_at n) ts)
once-ended n [] rising = tt
once-ended n (t ∷ ts) rising = (apart ts rising.0, once-ended n ts rising.1)
  where
    apart : (us : List Transaction) → AllByRecursion (λ u. comes_before (number_rank u) (number_rank t) ≡ false) us → AllByRecursion (Once (done_at n t)) (map (done_at n) us)
    apart [] later = tt
    apart (u ∷ us) later = ((λ _. let unlike : comes_before (u.txn ∷ []) (t.txn ∷ []) ≡ false = later.0 in grind (arith, nat_tests)), apart us later.1)

-- what is told beside the transactions that become done
pub record IsNews (plant : List Actuator) (n : ℕ) (hs : List Happening) : Type 0 where
  pub silent : AllByRecursion IsSilent hs
  pub told : AllByRecursion (λ h. IsTidings plant n h.told h.at h.txn) hs

-- sound, and with the same number of processes
pub record IsNext (plant : List Actuator) (before after : Persistent) : Type 0 where
  pub sound : IsSoundPersistent plant after
  pub processes : length after.processes ≡ length before.processes

pub conclude-sound : (plant : List Actuator) (n : ℕ) (happened : List Happening) (before : Persistent)
    (next : ℕ) (leases : List Lease) (pending : List Pending) (txns : List Transaction) →
    IsChange plant (record before { now = n; next = next; leases = leases; pending = pending; txns = txns }) → IsNews plant n happened →
    AllByRecursion (λ t. lives t.txn (courses_of before) ≡ true → member t.txn before.done ≡ false) txns →
    IsNext plant before (conclude n happened before (record before { next = next; leases = leases; pending = pending; txns = txns }))
conclude-sound plant n happened before next leases pending txns change news alive =
    let changed : Persistent = record before { now = n; next = next; leases = leases; pending = pending; txns = txns } in
    let test = λ (t : Transaction). lives t.txn (courses_of before) && not (lives t.txn (courses pending leases)) in
    let gone = filter test txns in
    let all = happened ++ map (done_at n) gone in
    let N = λ (t : Transaction). lives t.txn (courses_of before) ≡ true → member t.txn before.done ≡ false in
    record {
      processes = tell-length before.processes (in_order rank all);
      sound = group-sound plant changed (in_order rank all) change (record {
        others = each-always (λ t. lives t.txn (courses pending leases) ≡ true → AllByRecursion (IsOther t.txn) (in_order rank all))
            (λ t still. each-in_order (IsOther t.txn) rank all (each-append (IsOther t.txn) happened (map (done_at n) gone)
            (each-map IsSilent (IsOther t.txn) (λ h silent. grind (arith)) happened news.silent)
            (each-mapped (IsOther t.txn) (done_at n) gone (each-passed (λ u. IsOther t.txn (done_at n u)) test
            (λ u passed. cond_both (u.txn == t.txn) true false (λ b. (u.txn == t.txn) ≡ b → IsOther t.txn (done_at n u))
            (λ is _. let same : t.txn ≡ u.txn = grind (arith, nat_tests) in
            let there : lives u.txn (courses pending leases) ≡ true = subst (λ k. lives k (courses pending leases) ≡ true) same still in
            let out : lives u.txn (courses pending leases) ≡ false = grind (arith) in cc)
            (λ other _. other) (grind arith)) txns))))
            txns;
        new = each-in_order (IsNewlyDone before.done) rank all (each-append (IsNewlyDone before.done) happened (map (done_at n) gone)
            (each-map IsSilent (IsNewlyDone before.done) (λ h silent done. cc) happened news.silent)
            (each-mapped (IsNewlyDone before.done) (done_at n) gone
            (each-map (λ t. (test t ≡ true) × N t) (λ t. IsNewlyDone before.done (done_at n t)) (λ t both _. both.1 (grind (arith))) gone
            (each-both (λ t. test t ≡ true) N gone (each-passed (λ t. test t ≡ true) test (λ t passed. passed) txns) (each-filter N test txns alive)))));
        known =
            let K = λ (h : Happening). is_done h.told ≡ true → is_kept txns h.txn ≡ true in
            each-in_order K rank all (each-append K happened (map (done_at n) gone)
            (each-map IsSilent K (λ h silent done. cc) happened news.silent)
            (each-mapped K (done_at n) gone (each-filter (λ t. K (done_at n t)) test txns (each-map (λ t. is_kept txns t.txn ≡ true) (λ t. K (done_at n t)) (λ t there _. there) txns (each-kept txns)))));
        once = Pairs-DoneOnce (in_order rank all) (Pairs-in_order Once Once-turn rank all (silent-first happened (map (done_at n) gone) news.silent
            (once-ended n gone (Rising-filter number_rank test txns change.numbers))));
        told =
            let T = λ (h : Happening). IsTidings plant n h.told h.at h.txn in
            each-in_order T rank all (each-append T happened (map (done_at n) gone) news.told
            (each-mapped T (done_at n) gone (each-filter (λ t. T (done_at n t)) test txns
            (each-map (IsTransaction plant changed) (λ t. T (done_at n t)) (λ t is. record { past = omega arith; known = tt; words = (word-of next t.txn change.next is.given, tt) }) txns change.txns))));
      });
    }
