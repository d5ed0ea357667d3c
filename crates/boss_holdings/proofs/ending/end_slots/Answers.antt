use Rattle.std.proofs.Common.{◌≡◌, ◌∙◌, ℕ, ◌<◌, ◌==◌, ◌&&◌, true, false, List, None, length, get_or, vec_capacity, ap, sym, subst, arith, below_more}
use Rattle.std.proofs.lemmas.Bool.{cond_both}
use Rattle.std.proofs.lemmas.Bool.Decides.{nat_tests}
use Rattle.boss_model.specs.declared.state.Lease.{Lease}
use Rattle.boss_holdings.specs.Held.{first_place, in_slots}
use Rattle.boss_slots.specs.Tables.{lease_at}
use Rattle.boss_slots.specs.declared.place.Place.{Place}
use Rattle.boss_slots.proofs.Kept.{lease-placed}
use Rattle.boss_holdings.proofs.Orderly.{any-at, any-there, orderly-room, same-default}
use Rattle.boss_holdings.proofs.ending.end_slots.Goals as goal

pub returns-clause-gone : goal.returns-clause-gone
returns-clause-gone c p q lease is =
    let o = c.loop-slot.invariant.orderly in
    let at = lease-placed c.loop-slot.tables o.kept p q lease is in
    let a0 = at.0 in let a1 = at.1 in
    let end = c.loop-slot-test.false in
    cond_both (in_slots c.args.slots.now lease) true false (λ b. in_slots c.args.slots.now lease ≡ b → in_slots c.args.slots.now lease ≡ false)
    (λ meant _.
    let found = any-at (λ slot. (lease.point == slot.point) && (lease.priority == slot.priority)) c.args.slots.now first_place meant in
    let f1 = found.1 in let f2 = found.2 in
    let gone = c.loop-slot.invariant.gone found.0 (omega arith) in
    let one : lease.point ≡ (get_or c.args.slots.now found.0 first_place).point = grind (arith, nat_tests) in
    let two : lease.priority ≡ (get_or c.args.slots.now found.0 first_place).priority = grind (arith, nat_tests) in
    let here : lease_at c.loop-slot.tables p q ≡ None = ap (λ a. lease_at c.loop-slot.tables a q) (sym a0 ∙ one) ∙ ap (lease_at c.loop-slot.tables (get_or c.args.slots.now found.0 first_place).point) (sym a1 ∙ two) ∙ gone in
    absurd (cc))
    (λ other _. other) (grind arith)

pub end_slot-requires-clause-endable : goal.end_slot-requires-clause-endable
end_slot-requires-clause-endable c lease is = c.loop-slot.invariant.orderly.endable c.slot-item.result.point c.slot-item.result.priority lease is

meant-here : (slots : List Place) (i : ℕ) (s : Place) (lease : Lease) → i < length slots → s ≡ get_or slots i s → lease.point ≡ s.point → lease.priority ≡ s.priority → in_slots slots lease ≡ true
meant-here slots i s lease within is one two =
    any-there (λ slot. (lease.point == slot.point) && (lease.priority == slot.priority)) slots i s within
    (subst (λ (x : Place). ((lease.point == x.point) && (lease.priority == x.priority)) ≡ true) is (grind (arith, nat_tests)))

pub end_slot-requires-clause-room : goal.end_slot-requires-clause-room
end_slot-requires-clause-room c lease is =
    let o = c.loop-slot.invariant.orderly in
    let at = lease-placed c.loop-slot.tables o.kept c.slot-item.result.point c.slot-item.result.priority lease is in
    orderly-room (in_slots c.args.slots.now) c.args.cause.now c.args.n c.args.tables.now c.loop-slot.tables c.args.told.now.items c.loop-slot.told.items (vec_capacity c.loop-slot.told) c.args.touched.now c.loop-slot.touched
    c.slot-item.result.point c.slot-item.result.priority lease o is (meant-here c.args.slots.now c.loop-slot.slot-index c.slot-item.result lease c.loop-slot-test.true c.slot-item.is at.0 at.1)

pub loop-slot-preserved : goal.loop-slot-preserved
loop-slot-preserved c =
    let o = c.loop-slot.invariant.orderly in
    let first : get_or c.args.slots.now c.loop-slot.slot-index first_place ≡ c.slot-item.result = same-default c.args.slots.now c.loop-slot.slot-index first_place c.slot-item.result c.loop-slot-test.true ∙ sym c.slot-item.is in
    record {
      orderly = c.end_slot.ensures.orderly (in_slots c.args.slots.now) c.args.tables.now c.args.told.now.items c.args.touched.now
          (λ lease is. let at = lease-placed c.loop-slot.tables o.kept c.slot-item.result.point c.slot-item.result.priority lease is in
          meant-here c.args.slots.now c.loop-slot.slot-index c.slot-item.result lease c.loop-slot-test.true c.slot-item.is at.0 at.1) o;
      gone = below_more _ _ (λ k less. c.end_slot.ensures.none (get_or c.args.slots.now k first_place).point (get_or c.args.slots.now k first_place).priority (c.loop-slot.invariant.gone k less))
          (subst (λ (x : Place). lease_at c.end_slot.new.tables x.point x.priority ≡ None) (sym first) c.end_slot.ensures.gone);
      room = c.end_slot.ensures.room ∙ c.loop-slot.invariant.room;
    }
