use Rattle.std.proofs.Common.{◌≡◌, ◌∙◌, ◌<◌, ◌≤◌, true, false, None, length, get_or, set, take, vec_capacity, arith}
use Rattle.boss_model.specs.Submit.{is_taken}
use Rattle.law_time.proofs.Orders.{each-map}
use Rattle.boss_slots.specs.Tables.{lease_at, pending_at}
use Rattle.std.proofs.lemmas.List.{get_or-set_same}
use Rattle.boss_holdings.proofs.Shown.{set-stays}
use Rattle.boss_holdings.proofs.Taken.{clearing-more, clearing-room, each-got, each-take-more, none-moved, taken-item}
use Rattle.boss_holdings.proofs.taking.clear_slots.Goals as goal

pub clear_slot-requires-clause-room : goal.clear_slot-requires-clause-room
clear_slot-requires-clause-room c =
    let o = c.loop-lease.invariant.clearing in
    let l = c.lease-item.result in
    let slot = each-got (λ lease. (lease.point < length c.args.tables.now.arrays.items) × (1 ≤ lease.priority) × (lease.priority ≤ 16)) c.args.new.now c.loop-lease.lease-index l c.requires.slots c.loop-lease-test.true c.lease-item.is in
    let points = o.ending.points in
    let s0 = slot.0 in
    let flags = o.flags in
    let within : l.point < length c.loop-lease.tables.arrays.items = omega arith in
    let there : is_taken c.args.new.now l.point l.priority ≡ true = taken-item c.args.new.now c.loop-lease.lease-index l c.loop-lease-test.true c.lease-item.is in
    clearing-room c.args.new.now c.args.by c.args.n c.args.tables.now c.loop-lease.tables c.args.told.now.items c.loop-lease.told.items (vec_capacity c.loop-lease.told) c.args.touched.now c.loop-lease.touched l.point l.priority o there within slot.1 slot.2

pub loop-lease-preserved : goal.loop-lease-preserved
loop-lease-preserved c =
    let o = c.loop-lease.invariant.clearing in
    let l = c.lease-item.result in
    let slot = each-got (λ lease. (lease.point < length c.args.tables.now.arrays.items) × (1 ≤ lease.priority) × (lease.priority ≤ 16)) c.args.new.now c.loop-lease.lease-index l c.requires.slots c.loop-lease-test.true c.lease-item.is in
    let points = o.ending.points in
    let s0 = slot.0 in
    let flags = o.flags in
    let within : l.point < length c.loop-lease.tables.arrays.items = omega arith in
    let there : is_taken c.args.new.now l.point l.priority ≡ true = taken-item c.args.new.now c.loop-lease.lease-index l c.loop-lease-test.true c.lease-item.is in
    record {
      clearing = rw (c.clear_slot.ensures.told, c.clear_slot.ensures.room, c.set.ensures)
          (clearing-more c.args.new.now c.args.by c.args.n c.args.tables.now c.loop-lease.tables c.clear_slot.new.tables c.args.told.now.items c.loop-lease.told.items (vec_capacity c.loop-lease.told) c.args.touched.now c.loop-lease.touched
          l.point l.priority o there within slot.1 slot.2 c.clear_slot.ensures.moved c.clear_slot.ensures.kept (c.clear_slot.ensures.timed c.args.n o.timed));
      clear = each-take-more (λ lease. (lease_at c.clear_slot.new.tables lease.point lease.priority ≡ None) × (pending_at c.clear_slot.new.tables lease.point lease.priority ≡ None)) c.args.new.now c.loop-lease.lease-index l c.loop-lease-test.true c.lease-item.is
          (each-map (λ lease. (lease_at c.loop-lease.tables lease.point lease.priority ≡ None) × (pending_at c.loop-lease.tables lease.point lease.priority ≡ None)) (λ lease. (lease_at c.clear_slot.new.tables lease.point lease.priority ≡ None) × (pending_at c.clear_slot.new.tables lease.point lease.priority ≡ None))
          (λ x none. none-moved c.loop-lease.tables c.clear_slot.new.tables l.point l.priority x.point x.priority c.clear_slot.ensures.moved none) (take c.loop-lease.lease-index c.args.new.now) c.loop-lease.invariant.clear)
          (c.clear_slot.ensures.moved.lease, c.clear_slot.ensures.moved.pending);
      marked = rw c.set.ensures (each-take-more (λ lease. get_or (set c.loop-lease.touched l.point true) lease.point false ≡ true) c.args.new.now c.loop-lease.lease-index l c.loop-lease-test.true c.lease-item.is
          (each-map (λ lease. get_or c.loop-lease.touched lease.point false ≡ true) (λ lease. get_or (set c.loop-lease.touched l.point true) lease.point false ≡ true)
          (λ x marked. set-stays c.loop-lease.touched l.point x.point (omega arith) marked) (take c.loop-lease.lease-index c.args.new.now) c.loop-lease.invariant.marked)
          (get_or-set_same c.loop-lease.touched l.point true false (omega arith)));
      room = c.clear_slot.ensures.room ∙ c.loop-lease.invariant.room;
    }
