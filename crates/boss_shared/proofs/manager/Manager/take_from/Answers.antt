use Rattle.std.proofs.Common.{◌≡◌, List, [], ◌∷◌, None, refl, sym, ap, ◌∙◌, subst, arith, length}
use Rattle.boss_lock.specs.Seats.{IsSeatOf}
use Rattle.boss_shared.specs.declared.asked.Asked.{Asked}
use Rattle.boss_shared.specs.declared.group.Owed.{Owed}
use Rattle.boss_shared.specs.Groups.{IsIdleOf, IsTaken}
use Rattle.boss_shared.specs.Together.{commands_in, IsSameAsked, MayAsk}
use Rattle.boss_shared.proofs.Served.{one_taken, owed_long, taken_long}
use Rattle.boss_shared.proofs.Together.{commands_append}
use Rattle.boss_shared.proofs.manager.Manager.take_from.Goals as goal

pub put-requires-clause-room : goal.put-requires-clause-room
put-requires-clause-room g c =
    let may = subst (λ lock. IsSeatOf lock c.in-Some.request.seat × (c.in-Some.request.seat.turn ≡ None) × MayAsk (g.K.Keeper.plant lock.start) c.in-Some.request.asked) c.requires.key c.in-Some.ensures.may in
    let long = taken_long _ _ _ _ c.make_room-before.ensures.taken in
    let more = ap length c.slice-more.ensures in
    omega (arith, long, more, may.2.some, c.make_room-before.ensures.many, c.make_room-before.ensures.few, c.make_room-before.ensures.room.0, c.make_room-before.new.group.asked.ok.0)

pub put-requires-clause-place : goal.put-requires-clause-place
put-requires-clause-place g c =
    let may = subst (λ lock. IsSeatOf lock c.in-Some.request.seat × (c.in-Some.request.seat.turn ≡ None) × MayAsk (g.K.Keeper.plant lock.start) c.in-Some.request.asked) c.requires.key c.in-Some.ensures.may in
    let long = taken_long _ _ _ _ c.make_room-before.ensures.taken in
    let each = owed_long _ _ _ c.make_room-before.ensures.taken.owed_to in
    let more = ap length c.slice-more.ensures in
    omega (arith, long, each, more, may.2.some, c.make_room-before.ensures.many, c.make_room-before.ensures.few, c.make_room-before.ensures.room.1, c.make_room-before.new.group.owed.ok.0)

pub returns-clause-taken : goal.returns-clause-taken
returns-clause-taken g c =
    let may = subst (λ lock. IsSeatOf lock c.in-Some.request.seat × (c.in-Some.request.seat.turn ≡ None) × MayAsk (g.K.Keeper.plant lock.start) c.in-Some.request.asked) c.requires.key c.in-Some.ensures.may in
    let put = c.put.ensures.owed in
    let duty = put.3 ∙ c.in-Some.ensures.duty in
    let more = ap length c.slice-more.ensures in
    let now = one_taken _ _ _ _ put.0 c.in-Some.request.asked c.make_room-before.ensures.taken (record {
      seat = subst (IsIdleOf c.args.self.now.lock) (sym put.4) (may.0, may.1);
      duty = ap (λ d. d.table) duty ∙ sym (ap (λ k. k.table) put.2);
      own = ap (λ d. d.request.seat) duty ∙ sym put.4;
      same = subst (λ a. IsSameAsked a c.in-Some.request.asked) (sym (ap (λ d. d.request.asked) duty)) (record { session = refl; commands = refl; room = refl });
    }) may.2 (omega (arith, more, c.make_room-before.ensures.many, c.make_room-before.ensures.few)) in
    subst (λ (q : List (Owed g.row.K.Denot) × List Asked). IsTaken (g.K.Keeper.plant c.args.self.now.lock.start) c.args.self.now.lock q.0 q.1) (λ i. (sym put.1 i, sym c.put.ensures.asked i)) now

pub returns-clause-many : goal.returns-clause-many
returns-clause-many g c =
    let more = ap length c.slice-more.ensures in
    let all = ap commands_in c.put.ensures.asked ∙ commands_append c.make_room-before.new.group.asked.items (c.in-Some.request.asked ∷ []) in
    omega (arith, more, all, c.make_room-before.ensures.many)
