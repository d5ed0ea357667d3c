-- A transaction is over exactly where it has neither a lease nor a reversion left.
use Rattle.std.proofs.Common.{◌≡◌, ℕ, ◌==◌, List, [], ◌∷◌, length, Bool, true, false, not, ◌&&◌, ◌||◌, cond, map, Some, is_none, refl, ap, sym, ◌∙◌, subst, ⊎_elim, arith}
use Rattle.std.specs.List.{find, list_any, AllByRecursion}
use Rattle.std.proofs.lemmas.Bool.{cases_Bool}
use Rattle.std.proofs.lemmas.Bool.Decides.{nat_tests}
use Rattle.boss_model.specs.declared.state.Lease.{Lease}
use Rattle.boss_model.specs.declared.state.Pending.{Pending}
use Rattle.boss_model.specs.Happenings.{lives}
use Rattle.boss_model.specs.Lists.{member}
use Rattle.boss_model.specs.Records.{Part, Transaction}
use Rattle.boss_model.specs.Reversions.{reversion_of, courses}
use Rattle.boss_model.specs.Sound.{Rising, holds, has_part, number_rank}
use Rattle.boss_stages.specs.Stages.{Tracked, number, kept_as, is_over, is_live, has_live, has_pending}
use Rattle.law_time.proofs.Orders.{each-map}
use Rattle.law_time.proofs.Slots.{lives-courses}
use Rattle.boss_booking.specs.Books.{reverts_on}
use Rattle.law_due.proofs.Keys.{PointsOnce, part_at, found_part, part-found, own-parts}
use Rattle.boss_booking.proofs.Tellings.{over_in}

-- a test that one item passes, and the item
pub passed-any : {X : Type 0} (p q : X → Bool) (xs : List X) (x : X) → find p xs ≡ Some x → q x ≡ true → list_any q xs ≡ true
passed-any p q [] x found is = absurd (cc)
passed-any p q (y ∷ ys) x found is = ⊎_elim
    (λ here. let same : y ≡ x = (let e : Some y ≡ Some x = sym (ap (λ b. cond b (Some y) (find p ys)) here) ∙ found in cc) in
    ap (λ b. b || list_any q ys) (ap q same ∙ is))
    (λ other. let rest : list_any q ys ≡ true = passed-any p q ys x (sym (ap (λ b. cond b (Some y) (find p ys)) other) ∙ found) is in grind (arith))
    (cases_Bool (p y))

-- ---- live leases

holds-lives : (txn point priority : ℕ) (leases : List Lease) → holds leases txn point priority ≡ true → lives txn (map reversion_of leases) ≡ true
holds-lives txn point priority [] held = held
holds-lives txn point priority (l ∷ ls) held = grind (arith, holds-lives txn point priority ls)

-- each open part is a lease
abbrev pub IsOpen : List Lease → Transaction → Type 0
IsOpen leases t = AllByRecursion (λ part. is_none part.end ≡ true → holds leases t.txn part.point part.priority ≡ true) t.parts

-- where there is a lease, there is a live part
abbrev pub IsLived : List Lease → Transaction → Type 0
IsLived leases t = lives t.txn (map reversion_of leases) ≡ true → list_any is_live t.parts ≡ true

open-lives : (txn : ℕ) (leases : List Lease) (parts : List Part) → AllByRecursion (λ part. is_none part.end ≡ true → holds leases txn part.point part.priority ≡ true) parts →
    list_any is_live parts ≡ true → lives txn (map reversion_of leases) ≡ true
open-lives txn leases [] all live = absurd (cc)
open-lives txn leases (part ∷ parts) all live = ⊎_elim
    (λ here. holds-lives txn part.point part.priority leases (all.0 here))
    (λ other. open-lives txn leases parts all.1 (sym (ap (λ b. b || list_any is_live parts) other) ∙ live))
    (cases_Bool (is_live part))

part-lives : (txns : List Transaction) (t : Transaction) (leases : List Lease) → Rising number_rank txns → AllByRecursion PointsOnce txns → ((point : ℕ) → found_part txns t.txn point ≡ part_at point t.parts) →
    AllByRecursion (λ l. has_part is_none txns l.txn l.point l.priority ≡ true) leases → lives t.txn (map reversion_of leases) ≡ true → list_any is_live t.parts ≡ true
part-lives txns t [] rising once own all alive = absurd (cc)
part-lives txns t (l ∷ ls) rising once own all alive = ⊎_elim
    (λ is.
    let same : l.txn ≡ t.txn = grind (arith, nat_tests) in
    let has : has_part is_none txns t.txn l.point l.priority ≡ true = subst (λ k. has_part is_none txns k l.point l.priority ≡ true) same all.0 in
    let part = part-found is_none txns t.txn l.point l.priority rising once has in
    passed-any (λ p. p.point == l.point) is_live t.parts part.part (sym (own l.point) ∙ part.is) part.passes)
    (λ other. part-lives txns t ls rising once own all.1 (sym (ap (λ b. b || lives t.txn (map reversion_of ls)) other) ∙ alive))
    (cases_Bool (l.txn == t.txn))

-- where each lease is an open part
pub leases-lived : (txns : List Transaction) (leases : List Lease) → Rising number_rank txns → AllByRecursion PointsOnce txns →
    AllByRecursion (λ l. has_part is_none txns l.txn l.point l.priority ≡ true) leases → AllByRecursion (IsLived leases) txns
leases-lived txns leases rising once all = each-map (λ t. (point : ℕ) → found_part txns t.txn point ≡ part_at point t.parts) (IsLived leases)
    (λ t own alive. part-lives txns t leases rising once own all alive) txns (own-parts txns rising)

-- ---- pending reversions

reverts-lives : (txn point : ℕ) (pending : List Pending) → reverts_on txn point pending ≡ true → lives txn pending ≡ true
reverts-lives txn point [] there = there
reverts-lives txn point (r ∷ rs) there = grind (arith, reverts-lives txn point rs)

lives-reverts : (txn : ℕ) (pending : List Pending) → lives txn pending ≡ true → (point : ℕ) × (reverts_on txn point pending ≡ true)
lives-reverts txn [] alive = absurd (cc)
lives-reverts txn (r ∷ rs) alive = ⊎_elim
    (λ is. (r.point, grind (arith, nat_tests)))
    (λ other. let rest = lives-reverts txn rs (sym (ap (λ b. b || lives txn rs) other) ∙ alive) in (rest.0, (let there : reverts_on txn rest.0 rs ≡ true = rest.1 in grind (arith))))
    (cases_Bool (r.txn == txn))

some-pending : (kept : Tracked) (points : List ℕ) (point : ℕ) → kept.reverting ≡ points → member point points ≡ true → has_pending kept ≡ true
some-pending kept [] point is there = absurd (cc)
some-pending kept (p ∷ ps) point is there = let long : length kept.reverting ≡ length (p ∷ ps) = ap length is in grind (arith, nat_tests)

first-pending : (kept : Tracked) (points : List ℕ) → kept.reverting ≡ points → has_pending kept ≡ true → (point : ℕ) × (member point kept.reverting ≡ true)
first-pending kept [] is some = absurd (let none : length kept.reverting ≡ length {A = ℕ} [] = ap length is in grind (arith, nat_tests))
first-pending kept (p ∷ ps) is some = (p, ap (member p) is ∙ grind (arith, nat_tests))

same-truth : (a b : Bool) → (a ≡ true → b ≡ true) → (b ≡ true → a ≡ true) → a ≡ b
same-truth true b go back = sym (go refl)
same-truth false true go back = back refl
same-truth false false go back = refl

-- ---- both

pub over-lives : (kept : Tracked) (pending : List Pending) (leases : List Lease) → IsOpen leases kept.transaction → IsLived leases kept.transaction →
    ((point : ℕ) → member point kept.reverting ≡ reverts_on (number kept) point pending) → is_over (Some kept) ≡ not (lives (number kept) (courses pending leases))
over-lives kept pending leases is_open lived reverting =
    let live : has_live kept ≡ lives (number kept) (map reversion_of leases) =
    same-truth (has_live kept) (lives (number kept) (map reversion_of leases)) (λ some. open-lives (number kept) leases kept.transaction.parts is_open some) lived in
    let pends : has_pending kept ≡ lives (number kept) pending = same-truth (has_pending kept) (lives (number kept) pending)
    (λ some. let p = first-pending kept kept.reverting refl some in reverts-lives (number kept) p.0 pending (sym (reverting p.0) ∙ p.1))
    (λ alive. let p = lives-reverts (number kept) pending alive in some-pending kept kept.reverting p.0 refl (reverting p.0 ∙ p.1)) in
    (λ i. not (live i) && not (pends i)) ∙ either (lives (number kept) (map reversion_of leases)) (lives (number kept) pending) ∙ ap not (sym (lives-courses (number kept) pending leases))
  where
    either : (a b : Bool) → (not a && not b) ≡ not (b || a)
    either true true = refl
    either true false = refl
    either false true = refl
    either false false = refl

-- the same of all records, by number
pub over-numbers : (over : ℕ → Bool) (ks : List Tracked) → AllByRecursion (λ k. is_over (Some k) ≡ over (number k)) ks → (txn : ℕ) → over_in txn ks ≡ (member txn (map number ks) && over txn)
over-numbers over [] all txn = refl
over-numbers over (k ∷ ks) all txn = ⊎_elim
    (λ is.
    let same : number k ≡ txn = grind (arith, nat_tests) in
    ap (λ b. is_over (cond b (Some k) (kept_as txn ks))) is ∙ all.0 ∙ ap over same ∙ sym (ap (λ b. (b || member txn (map number ks)) && over txn) is))
    (λ other. ap (λ b. is_over (cond b (Some k) (kept_as txn ks))) other ∙ over-numbers over ks all.1 txn ∙ sym (ap (λ b. (b || member txn (map number ks)) && over txn) other))
    (cases_Bool (number k == txn))
