-- Reversions over time: what is left of all of them after a moment, and what happens in them.
use Rattle.std.proofs.Common.{◌≡◌, ℕ, ◌+◌, ◌<◌, ◌≤◌, nat_lt, nat_le, List, [], ◌∷◌, ◌++◌, true, false, ◌&&◌, cond, map, ap, sym, ◌∙◌, arith}
use Rattle.std.specs.List.{filter, AllByRecursion}
use Rattle.std.proofs.lemmas.Bool.Decides.{nat_tests}
use Rattle.boss_model.specs.declared.command.Step.{Step}
use Rattle.boss_model.specs.Happenings.{turned, reverted, happenings, lives, last_end}
use Rattle.boss_model.specs.Order.{put, in_order}
use Rattle.boss_model.specs.Reversions.{hold, over, turns, end_of, reversion_of, courses}
use Rattle.boss_model.specs.Sound.{Rising}
use Rattle.boss_model.specs.declared.state.Lease.{Lease}
use Rattle.boss_model.specs.declared.state.Pending.{Pending}
use Rattle.boss_model.specs.State.{pending_slot}
use Rattle.boss_model.specs.Time.{live, under_way, left}
use Rattle.law_time.proofs.Filters.{filter-append, filter-none, filter-map, each-mapped, rejoin}
use Rattle.law_time.proofs.Orders.{each-append, each-map, in_order-Ordered, Ordered-in_order, filter-in_order}

-- ---- one reversion

pub over-later : (start : ℕ) (steps : List Step) → start ≤ over start steps
over-later start [] = omega arith
over-later start (step ∷ steps) = omega (arith, over-later (start + hold step) steps)

pub end-later : (r : Pending) → r.start ≤ end_of r
end-later r = over-later r.start r.steps

turns-within : (start : ℕ) (steps : List Step) → AllByRecursion (λ t. t ≤ over start steps) (turns start steps)
turns-within start [] = tt
turns-within start (step ∷ steps) = (over-later (start + hold step) steps, turns-within (start + hold step) steps)

reverted-within : (r : Pending) (steps : List Step) → AllByRecursion (λ h. h.at ≤ end_of r) (reverted r steps)
reverted-within r [] = tt
reverted-within r (step ∷ steps) = (omega arith, tt)

-- all that happens in a reversion happens up to its end
pub happenings-within : (r : Pending) → AllByRecursion (λ h. h.at ≤ end_of r) (happenings r)
happenings-within r = (
  end-later r,
  each-append (λ h. h.at ≤ end_of r) (map (turned r) (turns r.start r.steps)) (reverted r r.steps)
      (each-mapped (λ h. h.at ≤ end_of r) (turned r) (turns r.start r.steps) (turns-within r.start r.steps)) (reverted-within r r.steps),
)

-- ---- all reversions

in_order-nested : {X : Type 0} (rank : X → List ℕ) (xs ys : List X) → in_order rank (xs ++ in_order rank ys) ≡ in_order rank (xs ++ ys)
in_order-nested rank [] ys = in_order-Ordered rank (in_order rank ys) (Ordered-in_order rank ys)
in_order-nested rank (x ∷ xs) ys = ap (put rank x) (in_order-nested rank xs ys)

-- what is left of all reversions after n: those under way, and those of the leases that are live
pub courses-after : (n : ℕ) (pending : List Pending) (leases : List Lease) → AllByRecursion (λ r. r.start ≤ n) pending →
    Rising pending_slot (courses pending leases) → courses (under_way n (courses pending leases)) (live n leases) ≡ left n (courses pending leases)
courses-after n pending leases started rising =
    let cs = courses pending leases in
    let to_come : filter (λ r. nat_lt n r.start) cs ≡ in_order pending_slot (map reversion_of (live n leases)) =
    filter-in_order pending_slot (λ r. nat_lt n r.start) (pending ++ map reversion_of leases)
    ∙ ap (in_order pending_slot) (filter-append (λ r. nat_lt n r.start) pending (map reversion_of leases)
    ∙ ap (λ xs. xs ++ filter (λ r. nat_lt n r.start) (map reversion_of leases))
    (filter-none (λ r. nat_lt n r.start) pending (each-map (λ r. r.start ≤ n) (λ r. nat_lt n r.start ≡ false) (λ r s. grind (arith, nat_tests)) pending started))
    ∙ filter-map (λ r. nat_lt n r.start) reversion_of leases) in
    sym (in_order-nested pending_slot (under_way n cs) (map reversion_of (live n leases)))
    ∙ ap (λ xs. in_order pending_slot (under_way n cs ++ xs)) (sym to_come)
    ∙ rejoin pending_slot (λ r. nat_le r.start n && nat_lt n (end_of r)) (λ r. nat_lt n r.start) (λ r. nat_lt n (end_of r))
    (λ r. grind (arith, nat_tests, end-later r)) (λ r. grind (arith, nat_tests)) cs rising

-- ---- transactions

pub last_end-left : (n txn : ℕ) (cs : List Pending) → last_end txn (left n cs) ≡ cond (nat_lt n (last_end txn cs)) (last_end txn cs) 0
last_end-left n txn [] = grind (arith, nat_tests)
last_end-left n txn (c ∷ cs) = grind (arith, nat_tests, last_end-left n txn cs)

pub lives-last_end : (txn : ℕ) (cs : List Pending) → 0 < last_end txn cs → lives txn cs ≡ true
lives-last_end txn [] some = absurd (omega arith)
lives-last_end txn (c ∷ cs) some = grind (arith, nat_tests, lives-last_end txn cs)
