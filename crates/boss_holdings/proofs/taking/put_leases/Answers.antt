use Rattle.std.proofs.Common.{◌≡◌, ◌∙◌, ◌<◌, ◌≤◌, [], ◌∷◌, ◌++◌, None, length, ap, sym, subst}
use Rattle.std.specs.Option.{option_or}
use Rattle.std.specs.List.{find, AllByRecursion}
use Rattle.law_time.proofs.Orders.{each-back, each-front}
use Rattle.boss_holdings.specs.Held.{AreApart, is_at}
use Rattle.boss_slots.specs.Tables.{lease_at, pending_at}
use Rattle.boss_slots.proofs.Kept.{empty-slot}
use Rattle.boss_holdings.proofs.Taken.{apart-front, clear-put, leases-put, pending-put}
use Rattle.boss_holdings.proofs.taking.put_leases.Goals as goal

pub put_lease-requires-clause-empty : goal.put_lease-requires-clause-empty
put_lease-requires-clause-empty c =
    let l = c.in-Some.lease in
    let rest = c.pop.new.self.items in
    let split : c.loop-lease.new.items ≡ rest ++ l ∷ [] = c.in-Some.ensures.items in
    let inv = c.loop-lease.invariant in
    let clear = each-back (λ lease. (lease_at c.loop-lease.tables lease.point lease.priority ≡ None) × (pending_at c.loop-lease.tables lease.point lease.priority ≡ None)) rest (l ∷ [])
    (subst (AllByRecursion (λ lease. (lease_at c.loop-lease.tables lease.point lease.priority ≡ None) × (pending_at c.loop-lease.tables lease.point lease.priority ≡ None))) split inv.clear) in
    empty-slot c.loop-lease.tables l.point l.priority inv.kept clear.0.0 clear.0.1

pub loop-lease-preserved : goal.loop-lease-preserved
loop-lease-preserved c =
    let l = c.in-Some.lease in
    let rest = c.pop.new.self.items in
    let split : c.loop-lease.new.items ≡ rest ++ l ∷ [] = c.in-Some.ensures.items in
    let inv = c.loop-lease.invariant in
    let clear = each-back (λ lease. (lease_at c.loop-lease.tables lease.point lease.priority ≡ None) × (pending_at c.loop-lease.tables lease.point lease.priority ≡ None)) rest (l ∷ [])
    (subst (AllByRecursion (λ lease. (lease_at c.loop-lease.tables lease.point lease.priority ≡ None) × (pending_at c.loop-lease.tables lease.point lease.priority ≡ None))) split inv.clear) in
    let apart = apart-front rest l (subst AreApart split inv.apart) in
    let moved = c.put_lease.ensures.moved in
    record {
      kept = c.put_lease.ensures.kept;
      apart = apart.0;
      slots = subst (λ points. AllByRecursion (λ lease. (lease.point < points) × (1 ≤ lease.priority) × (lease.priority ≤ 16)) rest) (sym moved.points)
          (each-front (λ lease. (lease.point < length c.loop-lease.tables.arrays.items) × (1 ≤ lease.priority) × (lease.priority ≤ 16)) rest (l ∷ []) (subst (AllByRecursion (λ lease. (lease.point < length c.loop-lease.tables.arrays.items) × (1 ≤ lease.priority) × (lease.priority ≤ 16))) split inv.slots));
      clear = clear-put c.loop-lease.tables c.put_lease.new.tables rest l moved rest apart.1
          (each-front (λ lease. (lease_at c.loop-lease.tables lease.point lease.priority ≡ None) × (pending_at c.loop-lease.tables lease.point lease.priority ≡ None)) rest (l ∷ [])
          (subst (AllByRecursion (λ lease. (lease_at c.loop-lease.tables lease.point lease.priority ≡ None) × (pending_at c.loop-lease.tables lease.point lease.priority ≡ None))) split inv.clear));
      leases = λ p q. leases-put c.loop-lease.tables c.put_lease.new.tables rest l moved p q ∙ ap (λ xs. option_or (find (is_at p q) xs) (lease_at c.loop-lease.tables p q)) (sym split) ∙ inv.leases p q;
      pending = λ p q. pending-put c.loop-lease.tables c.put_lease.new.tables rest l moved clear.0.1 p q ∙ inv.pending p q;
      timed = λ last timed. c.put_lease.ensures.timed last (inv.timed last timed);
      points = moved.points ∙ inv.points;
    }
