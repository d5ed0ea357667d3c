-- How a command ends that makes nobody done: a renewal, and a fault that is only told.
use Rattle.std.proofs.Common.{◌≡◌, ℕ, ℤ, ◌+◌, List, [], ◌∷◌, ◌++◌, map, Bool, true, false, not, ◌&&◌, ◌||◌, cond, unsigned_abs, refl, ap, sym, ◌∙◌, arith, append-nil}
use Rattle.std.specs.List.{filter, fold, AllByRecursion}
use Rattle.boss_model.specs.declared.state.Actuator.{Actuator}
use Rattle.boss_model.specs.declared.state.Lease.{Lease}
use Rattle.boss_model.specs.Ends.{fault}
use Rattle.boss_model.specs.Groups.{courses_of, conclude}
use Rattle.boss_model.specs.Happenings.{Happening, rank, lives, done_at, finish, tell}
use Rattle.boss_model.specs.Lists.{member}
use Rattle.boss_model.specs.Order.{in_order}
use Rattle.boss_model.specs.Records.{Transaction}
use Rattle.boss_model.specs.Renew.{is_meant, extended, extended_if, renewed}
use Rattle.boss_model.specs.Reversions.{courses}
use Rattle.boss_model.specs.Sound.{IsSoundPersistent}
use Rattle.boss_model.specs.State.{Persistent}
use Rattle.boss_model.specs.Time.{kept}
use Rattle.law_time.proofs.Filters.{filter-none, filter-all, each-always}
use Rattle.law_time.proofs.Orders.{each-map}
use Rattle.law_time.proofs.Slots.{IsSameLease, lives-same, lives-courses}

pub conclude-plain : (plant : List Actuator) (n : ℕ) (happened : List Happening) (d : Persistent) (leases : List Lease) → IsSoundPersistent plant d →
    ((txn : ℕ) → lives txn (courses d.pending leases) ≡ lives txn (courses d.pending d.leases)) → fold finish d.done (in_order rank happened) ≡ d.done →
    conclude n happened d (record d { leases = leases }) ≡ record d { now = n; leases = leases; processes = fold tell d.processes (in_order rank happened) }
conclude-plain plant n happened d leases sound alive silent =
    let cs = courses d.pending leases in
    let test = λ (t : Transaction). lives t.txn (courses_of d) && not (lives t.txn cs) in
    let none : filter test d.txns ≡ [] = filter-none test d.txns (each-always (λ t. test t ≡ false) (λ t. let same : lives t.txn cs ≡ lives t.txn (courses_of d) = alive t.txn in grind (arith)) d.txns) in
    let group : in_order rank (happened ++ map (done_at n) (filter test d.txns)) ≡ in_order rank happened =
    ap (λ ts. in_order rank (happened ++ map (done_at n) ts)) none ∙ ap (in_order rank) (append-nil happened) in
    let done : fold finish d.done (in_order rank (happened ++ map (done_at n) (filter test d.txns))) ≡ d.done = ap (fold finish d.done) group ∙ silent in
    let all : kept cs d.done d.txns ≡ d.txns = filter-all (λ t. lives t.txn cs || member t.txn d.done) d.txns
    (each-map (λ t. member t.txn d.done ≡ not (lives t.txn (courses_of d))) (λ t. (lives t.txn cs || member t.txn d.done) ≡ true)
    (λ t over. let same : lives t.txn cs ≡ lives t.txn (courses_of d) = alive t.txn in grind (arith)) d.txns sound.done) in
    let stay : kept cs (fold finish d.done (in_order rank (happened ++ map (done_at n) (filter test d.txns)))) d.txns ≡ d.txns = ap (λ xs. kept cs xs d.txns) done ∙ all in
    λ i. record {
      now = n;
      next = d.next;
      leases = leases;
      pending = d.pending;
      txns = stay i;
      done = done i;
      processes = ap (fold tell d.processes) group i;
    }

extended-same : (meant : Bool) (until : ℕ) (lease : Lease) → IsSameLease lease (cond meant (extended until lease) lease)
extended-same true until lease = refl
extended-same false until lease = refl

pub renewed-plain : (plant : List Actuator) (txn : ℕ) (asked : ℤ) (points : List ℕ) (n : ℕ) (d : Persistent) → IsSoundPersistent plant d →
    renewed txn asked points n d ≡ record d { now = n; leases = map (extended_if (is_meant txn points) (n + unsigned_abs asked)) d.leases }
renewed-plain plant txn asked points n d sound =
    let until = n + unsigned_abs asked in
    let f = extended_if (is_meant txn points) until in
    let shaped : AllByRecursion (λ lease. IsSameLease lease (f lease)) d.leases =
    each-always (λ lease. IsSameLease lease (f lease)) (λ lease. extended-same (is_meant txn points lease) until lease) d.leases in
    conclude-plain plant n [] d (map f d.leases) sound
    (λ k. lives-courses k d.pending (map f d.leases) ∙ ap (λ b. lives k d.pending || b) (lives-same f k d.leases shaped) ∙ sym (lives-courses k d.pending d.leases)) refl

pub kept-fault : (plant : List Actuator) (n : ℕ) (lease : Lease) (d : Persistent) → IsSoundPersistent plant d →
    conclude n (fault n lease ∷ []) d d ≡ record d { now = n; processes = tell d.processes (fault n lease) }
kept-fault plant n lease d sound = conclude-plain plant n (fault n lease ∷ []) d d.leases sound (λ txn. refl) refl
