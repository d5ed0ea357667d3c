-- What a change of a sound persistent part gives for its records, and what becomes done in its group.
use Rattle.std.proofs.Common.{◌≡◌, ℕ, ◌+◌, ◌≤◌, nat_lt, List, [], ◌∷◌, Bool, true, false, ◌&&◌, ◌||◌, map, is_none, refl, ap, sym, ◌∙◌, arith}
use Rattle.std.specs.List.{filter, list_any, AllByRecursion}
use Rattle.std.proofs.lemmas.Bool.Decides.{nat_tests}
use Rattle.boss_model.specs.declared.command.Step.{Step}
use Rattle.boss_model.specs.declared.state.Actuator.{Actuator}
use Rattle.boss_model.specs.Happenings.{Happening}
use Rattle.boss_model.specs.Records.{Transaction}
use Rattle.boss_model.specs.Reversions.{hold, over}
use Rattle.boss_model.specs.Sound.{holds, IsPart, IsTransaction}
use Rattle.boss_model.specs.State.{Persistent}
use Rattle.boss_model.specs.Submit.{is_reversion}
use Rattle.law_time.proofs.Courses.{over-later}
use Rattle.law_time.proofs.Filters.{filter-map}
use Rattle.law_time.proofs.GroupSound.{IsChange}
use Rattle.law_time.proofs.Orders.{each-map, each-filter}
use Rattle.law_soundness.proofs.RenewSound.{positive}
use Rattle.boss_booking.specs.Gathered.{has_steps}
use Rattle.law_due.proofs.Keys.{PointsOnce}
use Rattle.boss_booking.proofs.Overs.{IsOpen, IsLived, leases-lived}
use Rattle.boss_booking.proofs.Points.{map-map, map-alike}

-- ---- records

pub change-opened : (plant : List Actuator) (c : Persistent) → IsChange plant c → AllByRecursion (IsOpen c.leases) c.txns
change-opened plant c change = each-map (IsTransaction plant c) (IsOpen c.leases)
    (λ t o. each-map (IsPart plant c.now t.txn c.leases) (λ part. is_none part.end ≡ true → holds c.leases t.txn part.point part.priority ≡ true) (λ part p none. sym p.open_part ∙ none) t.parts o.parts) c.txns change.txns

pub change-lived : (plant : List Actuator) (c : Persistent) → IsChange plant c → AllByRecursion (IsLived c.leases) c.txns
change-lived plant c change = leases-lived c.txns c.leases change.numbers (each-map (IsTransaction plant c) PointsOnce (λ t o. o.points) c.txns change.txns) change.open_parts

-- ---- tests of some items

pub any-filter : {X : Type 0} (p q : X → Bool) (xs : List X) → list_any p (filter q xs) ≡ list_any (λ x. p x && q x) xs
any-filter p q [] = refl
any-filter p q (x ∷ xs) = grind (arith, any-filter p q xs)

pub any-alike : {X : Type 0} (p q : X → Bool) → ((x : X) → p x ≡ q x) → (xs : List X) → list_any p xs ≡ list_any q xs
any-alike p q same [] = refl
any-alike p q same (x ∷ xs) = λ i. same x i || any-alike p q same xs i

pub or-turn : (a b : Bool) → (a || b) ≡ (b || a)
or-turn true true = refl
or-turn true false = refl
or-turn false true = refl
or-turn false false = refl

-- ---- reversions

-- a reversion with steps lasts
pub steps-last : (plant : List Actuator) (point start : ℕ) (steps : List Step) → is_reversion plant point steps ≡ true → has_steps steps ≡ nat_lt start (over start steps)
steps-last plant point start [] fits = grind (arith, nat_tests)
steps-last plant point start (step ∷ steps) fits =
    let size = positive step.hold 86400000 (grind (arith)) in
    let some : 1 ≤ hold step = size.0 in
    let more : start + hold step ≤ over (start + hold step) steps = over-later (start + hold step) steps in
    grind (arith, nat_tests)

-- ---- what becomes done

-- the transactions that become done, by number and by record
pub by-records : (g : ℕ → Happening) (f : Transaction → Happening) (test : ℕ → Bool) (ns : List ℕ) (txns : List Transaction) → map (λ t. t.txn) txns ≡ ns → AllByRecursion (λ t. g t.txn ≡ f t) txns →
    map g (filter test ns) ≡ map f (filter (λ t. test t.txn) txns)
by-records g f test ns txns numbers same =
    ap (λ xs. map g (filter test xs)) (sym numbers) ∙ ap (map g) (filter-map test (λ t. t.txn) txns) ∙ map-map g (λ t. t.txn) (filter (λ t. test t.txn) txns)
    ∙ map-alike (λ t. g t.txn) f (filter (λ t. test t.txn) txns) (each-filter (λ t. g t.txn ≡ f t) (λ t. test t.txn) txns same)
