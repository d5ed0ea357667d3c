use Rattle.std.proofs.Common.{◌≡◌, ◌≢◌, ◌∙◌, ◌+◌, ◌*◌, Some, None, length, get_or, vec_capacity, ap, sym, arith}
use Rattle.std.specs.Option.{option_copied}
use Rattle.law_due.specs.Playing.{last_turn}
use Rattle.boss_slots.specs.Tables.{number}
use Rattle.boss_slots.proofs.Kept.{number-apart, timed-later}
use Rattle.boss_slots.proofs.Turns.{last_turn-by, last_turn-later}
use Rattle.boss_holdings.proofs.Passed.{passable-pending, passing-pending, pending-room', turn-in, turn-playable}
use Rattle.boss_holdings.proofs.passing.pass_pending.Goals as goal

pub tell_pending-requires-clause-reversion : goal.tell_pending-requires-clause-reversion
tell_pending-requires-clause-reversion c =
    let there : get_or c.args.tables.now.pending.items c.args.key None ≡ Some c.unwrap-reversion.result.now = ap (λ xs. get_or xs c.args.key None) (sym c.deref.ensures.value) ∙ sym c.pending_of.ensures ∙ ap option_copied c.unwrap-reversion.ensures in
    let r = c.unwrap-reversion.result.now in
    (turn-playable c.args.n c.args.last c.args.tables.now c.args.tables.now c.args.key c.unwrap-reversion.result.now c.args.told.now.items (vec_capacity c.args.told.now) c.args.touched.now c.requires.passable there).0

pub tell_pending-requires-clause-room : goal.tell_pending-requires-clause-room
tell_pending-requires-clause-room c =
    let there : get_or c.args.tables.now.pending.items c.args.key None ≡ Some c.unwrap-reversion.result.now = ap (λ xs. get_or xs c.args.key None) (sym c.deref.ensures.value) ∙ sym c.pending_of.ensures ∙ ap option_copied c.unwrap-reversion.ensures in
    let r = c.unwrap-reversion.result.now in
    pending-room' c.args.n c.args.last c.args.tables.now c.args.tables.now c.args.key c.unwrap-reversion.result.now c.args.told.now.items (vec_capacity c.args.told.now) c.args.touched.now c.requires.passable there

pub last_turn-reached-requires-clause-start : goal.last_turn-reached-requires-clause-start
last_turn-reached-requires-clause-start c =
    let there : get_or c.args.tables.now.pending.items c.args.key None ≡ Some c.unwrap-reversion.result.now = ap (λ xs. get_or xs c.args.key None) (sym c.deref.ensures.value) ∙ sym c.pending_of.ensures ∙ ap option_copied c.unwrap-reversion.ensures in
    let r = c.unwrap-reversion.result.now in
    (turn-playable c.args.n c.args.last c.args.tables.now c.args.tables.now c.args.key c.unwrap-reversion.result.now c.args.told.now.items (vec_capacity c.args.told.now) c.args.touched.now c.requires.passable there).0.0

pub last_turn-reached-requires-clause-steps : goal.last_turn-reached-requires-clause-steps
last_turn-reached-requires-clause-steps c =
    let there : get_or c.args.tables.now.pending.items c.args.key None ≡ Some c.unwrap-reversion.result.now = ap (λ xs. get_or xs c.args.key None) (sym c.deref.ensures.value) ∙ sym c.pending_of.ensures ∙ ap option_copied c.unwrap-reversion.ensures in
    let r = c.unwrap-reversion.result.now in
    rw c.slice.ensures ((turn-playable c.args.n c.args.last c.args.tables.now c.args.tables.now c.args.key c.unwrap-reversion.result.now c.args.told.now.items (vec_capacity c.args.told.now) c.args.touched.now c.requires.passable there).0.1)

pub set-requires : goal.set-requires
set-requires c =
    let there : get_or c.args.tables.now.pending.items c.args.key None ≡ Some c.unwrap-reversion.result.now = ap (λ xs. get_or xs c.args.key None) (sym c.deref.ensures.value) ∙ sym c.pending_of.ensures ∙ ap option_copied c.unwrap-reversion.ensures in
    let r = c.unwrap-reversion.result.now in
    let at = turn-in c.args.n c.args.last c.args.tables.now c.args.tables.now c.args.key c.unwrap-reversion.result.now c.args.told.now.items (vec_capacity c.args.told.now) c.args.touched.now c.requires.passable there in
    let a = at.0 in let flags = c.requires.passable.flags in omega arith

pub go_on-requires-clause-playable : goal.go_on-requires-clause-playable
go_on-requires-clause-playable c reversion is =
    let there : get_or c.args.tables.now.pending.items c.args.key None ≡ Some c.unwrap-reversion.result.now = ap (λ xs. get_or xs c.args.key None) (sym c.deref.ensures.value) ∙ sym c.pending_of.ensures ∙ ap option_copied c.unwrap-reversion.ensures in
    let r = c.unwrap-reversion.result.now in
    let it : r ≡ reversion = cc in
    turn-playable c.args.n c.args.last c.args.tables.now c.args.tables.now c.args.key reversion c.args.told.now.items (vec_capacity c.args.told.now) c.args.touched.now c.requires.passable is

pub returns-clause-passable : goal.returns-clause-passable
returns-clause-passable c =
    let there : get_or c.args.tables.now.pending.items c.args.key None ≡ Some c.unwrap-reversion.result.now = ap (λ xs. get_or xs c.args.key None) (sym c.deref.ensures.value) ∙ sym c.pending_of.ensures ∙ ap option_copied c.unwrap-reversion.ensures in
    let r = c.unwrap-reversion.result.now in
    let s = c.requires.passable in
    let later = last_turn-later r.start r.steps c.args.last c.args.n in
    let timed2 = c.go_on.ensures.timed (last_turn r.start r.steps c.args.last c.args.n) r there (last_turn-by r.start r.steps c.args.last c.args.n) (timed-later c.args.last (last_turn r.start r.steps c.args.last c.args.n) c.args.tables.now later s.timed) in
    let reached : c.last_turn-reached.result ≡ last_turn r.start r.steps c.args.last c.args.n = c.last_turn-reached.ensures ∙ ap (λ xs. last_turn r.start xs c.args.last c.args.n) c.slice.ensures in
    rw (reached, c.tell_pending.ensures.told, c.tell_pending.ensures.room, c.set.ensures) (passable-pending c.args.n c.args.last c.args.tables.now c.go_on.new.tables c.args.key c.unwrap-reversion.result.now c.args.told.now.items (vec_capacity c.args.told.now) c.args.touched.now c.requires.passable there c.go_on.ensures.kept timed2 (c.go_on.ensures.moved r there))

pub returns-clause-passing : goal.returns-clause-passing
returns-clause-passing c began first said_before marks_before e =
    let there : get_or c.args.tables.now.pending.items c.args.key None ≡ Some c.unwrap-reversion.result.now = ap (λ xs. get_or xs c.args.key None) (sym c.deref.ensures.value) ∙ sym c.pending_of.ensures ∙ ap option_copied c.unwrap-reversion.ensures in
    let r = c.unwrap-reversion.result.now in
    let s = c.requires.passable in
    let later = last_turn-later r.start r.steps c.args.last c.args.n in
    let timed2 = c.go_on.ensures.timed (last_turn r.start r.steps c.args.last c.args.n) r there (last_turn-by r.start r.steps c.args.last c.args.n) (timed-later c.args.last (last_turn r.start r.steps c.args.last c.args.n) c.args.tables.now later s.timed) in
    let reached : c.last_turn-reached.result ≡ last_turn r.start r.steps c.args.last c.args.n = c.last_turn-reached.ensures ∙ ap (λ xs. last_turn r.start xs c.args.last c.args.n) c.slice.ensures in
    let at = turn-in c.args.n c.args.last c.args.tables.now c.go_on.new.tables c.args.key c.unwrap-reversion.result.now c.args.told.now.items (vec_capacity c.args.told.now) c.args.touched.now c.requires.passable there in
    rw (reached, c.tell_pending.ensures.told, c.set.ensures) (passing-pending c.args.n c.args.last c.args.tables.now c.go_on.new.tables c.args.key c.unwrap-reversion.result.now c.args.told.now.items (vec_capacity c.args.told.now) c.args.touched.now c.requires.passable there c.go_on.ensures.kept timed2 (c.go_on.ensures.moved r there) began first said_before marks_before e
    (λ a b differs low high.
    let points = (c.go_on.ensures.moved r there).points in
    let its : c.args.key ≡ number r.point r.priority = (s.kept.kept c.args.key r there).1 in
    let away : 16 * length c.args.tables.now.arrays.items + number a b ≢ 16 * length c.args.tables.now.arrays.items + c.args.key =
    λ same. differs (number-apart r.point r.priority a b at.1 at.2 low high (omega arith)).0 in
    ap (λ k. get_or c.go_on.new.tables.timers (16 * k + number a b) None) points ∙ c.go_on.ensures.others (16 * length c.args.tables.now.arrays.items + number a b) away))
