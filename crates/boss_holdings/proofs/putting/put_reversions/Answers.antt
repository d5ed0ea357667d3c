use Rattle.std.proofs.Common.{◌≡◌, ◌∙◌, ◌<◌, ◌≤◌, [], ◌∷◌, ◌++◌, None, length, ap, sym, subst, arith}
use Rattle.std.specs.Option.{option_or}
use Rattle.std.specs.List.{find, AllByRecursion}
use Rattle.law_time.proofs.Orders.{each-back, each-front}
use Rattle.boss_holdings.specs.Putting.{ArePlacedApart, IsUnderWay, in_place}
use Rattle.boss_slots.specs.Tables.{lease_at, pending_at}
use Rattle.boss_slots.proofs.Kept.{empty-slot}
use Rattle.boss_holdings.proofs.Placed.{placed-front, going-on, seen-to, places-put, leases-stay, places-clear}
use Rattle.boss_holdings.proofs.putting.put_reversions.Goals as goal

pub start_reversion-requires-clause-empty : goal.start_reversion-requires-clause-empty
start_reversion-requires-clause-empty c =
    let r = c.in-Some.reversion in
    let rest = c.pop.new.self.items in
    let split : c.loop-reversion.others.items ≡ rest ++ r ∷ [] = c.in-Some.ensures.items in
    let inv = c.loop-reversion.invariant in
    let clear = each-back (λ r. (lease_at c.loop-reversion.tables r.point r.priority ≡ None) × (pending_at c.loop-reversion.tables r.point r.priority ≡ None)) rest (r ∷ [])
    (subst (AllByRecursion (λ r. (lease_at c.loop-reversion.tables r.point r.priority ≡ None) × (pending_at c.loop-reversion.tables r.point r.priority ≡ None))) split inv.clear) in
    empty-slot c.loop-reversion.tables r.point r.priority inv.kept clear.0.0 clear.0.1

pub loop-reversion-preserved : goal.loop-reversion-preserved
loop-reversion-preserved c =
    let r = c.in-Some.reversion in
    let rest = c.pop.new.self.items in
    let split : c.loop-reversion.others.items ≡ rest ++ r ∷ [] = c.in-Some.ensures.items in
    let inv = c.loop-reversion.invariant in
    let playing = subst (AllByRecursion (IsUnderWay c.args.now)) split inv.playing in
    let here = each-back (IsUnderWay c.args.now) rest (r ∷ []) playing in
    let clear = subst (AllByRecursion (λ r. (lease_at c.loop-reversion.tables r.point r.priority ≡ None) × (pending_at c.loop-reversion.tables r.point r.priority ≡ None))) split inv.clear in
    let free = each-back (λ r. (lease_at c.loop-reversion.tables r.point r.priority ≡ None) × (pending_at c.loop-reversion.tables r.point r.priority ≡ None)) rest (r ∷ []) clear in
    let apart = placed-front rest r (subst ArePlacedApart split inv.apart) in
    let after = c.start_reversion.new.tables in
    let moved = going-on c.loop-reversion.tables after r c.args.now here.0.2 c.start_reversion.ensures.moved in
    record {
      kept = c.start_reversion.ensures.kept;
      apart = apart.0;
      slots = subst (λ points. AllByRecursion (λ r. (r.point < points) × (1 ≤ r.priority) × (r.priority ≤ 16)) rest) (sym moved.points)
          (each-front (λ r. (r.point < length c.loop-reversion.tables.arrays.items) × (1 ≤ r.priority) × (r.priority ≤ 16)) rest (r ∷ [])
          (subst (AllByRecursion (λ r. (r.point < length c.loop-reversion.tables.arrays.items) × (1 ≤ r.priority) × (r.priority ≤ 16))) split inv.slots));
      playing = each-front (IsUnderWay c.args.now) rest (r ∷ []) playing;
      clear = places-clear c.loop-reversion.tables after rest r moved rest apart.1
          (each-front (λ r. (lease_at c.loop-reversion.tables r.point r.priority ≡ None) × (pending_at c.loop-reversion.tables r.point r.priority ≡ None)) rest (r ∷ []) clear);
      pending = λ p q. places-put c.loop-reversion.tables after rest r moved p q ∙ ap (λ xs. option_or (find (in_place p q) xs) (pending_at c.loop-reversion.tables p q)) (sym split) ∙ inv.pending p q;
      leases = λ p q. leases-stay c.loop-reversion.tables after rest r moved free.0.0 p q ∙ inv.leases p q;
      timed = c.start_reversion.ensures.timed c.args.now (omega arith) (seen-to c.args.now r.start r.steps) inv.timed;
      points = moved.points ∙ inv.points;
    }
