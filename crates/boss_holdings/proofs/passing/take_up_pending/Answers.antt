use Rattle.std.proofs.Common.{◌≡◌, ◌≢◌, ◌∙◌, ◌+◌, ◌*◌, None, length, get_or, set, vec_capacity, ap, sym, subst, arith}
use Rattle.std.proofs.lemmas.List.{get_or-set_other, length-set}
use Rattle.boss_slots.specs.Tables.{IsTimed, number}
use Rattle.boss_slots.proofs.Kept.{copied-none, number-key, timed-pending_timer}
use Rattle.boss_holdings.proofs.Passed.{passable-retimed, passing-retimed}
use Rattle.boss_holdings.proofs.passing.take_up_pending.Goals as goal

pub returns-clause-passable : goal.returns-clause-passable
returns-clause-passable c =
    let s = c.requires.passable in
    let none : get_or c.args.tables.now.pending.items c.args.key None ≡ None = ap (λ xs. get_or xs c.args.key None) (sym c.deref.ensures.value) ∙ sym c.pending_of.ensures ∙ copied-none c.pending_of.result (sym c.is_some.ensures ∙ c.if-is_some.false) in
    let place : c.keys.result + c.args.key ≡ 16 * length c.args.tables.now.arrays.items + c.args.key = ap (λ k. k + c.args.key) (c.keys.ensures ∙ s.kept.keys) in
    let timers : c.remove_timer.new.timers ≡ set c.args.tables.now.timers (16 * length c.args.tables.now.arrays.items + c.args.key) None = c.remove_timer.ensures ∙ ap (λ k. set c.args.tables.now.timers k None) place in
    let timed = timed-pending_timer c.args.last c.args.tables.now s.kept s.timed c.args.key None c.requires.key (λ r is. cc) in
    passable-retimed c.args.n c.args.last c.args.tables.now c.remove_timer.new.timers c.args.told.now.items (vec_capacity c.args.told.now) c.args.touched.now s
    (ap length timers ∙ length-set c.args.tables.now.timers (16 * length c.args.tables.now.arrays.items + c.args.key) None) (subst (λ ts. IsTimed c.args.last (record c.args.tables.now { timers = ts })) (sym timers) timed)

pub returns-clause-passing : goal.returns-clause-passing
returns-clause-passing c began first said_before marks_before e =
    let s = c.requires.passable in
    let none : get_or c.args.tables.now.pending.items c.args.key None ≡ None = ap (λ xs. get_or xs c.args.key None) (sym c.deref.ensures.value) ∙ sym c.pending_of.ensures ∙ copied-none c.pending_of.result (sym c.is_some.ensures ∙ c.if-is_some.false) in
    let place : c.keys.result + c.args.key ≡ 16 * length c.args.tables.now.arrays.items + c.args.key = ap (λ k. k + c.args.key) (c.keys.ensures ∙ s.kept.keys) in
    let timers : c.remove_timer.new.timers ≡ set c.args.tables.now.timers (16 * length c.args.tables.now.arrays.items + c.args.key) None = c.remove_timer.ensures ∙ ap (λ k. set c.args.tables.now.timers k None) place in
    let timed = timed-pending_timer c.args.last c.args.tables.now s.kept s.timed c.args.key None c.requires.key (λ r is. cc) in
    passing-retimed c.args.n c.args.last c.args.tables.now c.remove_timer.new.timers c.args.told.now.items (vec_capacity c.args.told.now) c.args.touched.now s
    (ap length timers ∙ length-set c.args.tables.now.timers (16 * length c.args.tables.now.arrays.items + c.args.key) None) (subst (λ ts. IsTimed c.args.last (record c.args.tables.now { timers = ts })) (sym timers) timed)
    began first said_before marks_before e
    (λ p q r is.
    let there = number-key c.args.tables.now p q r s.kept is in
    let away : 16 * length c.args.tables.now.arrays.items + number p q ≢ 16 * length c.args.tables.now.arrays.items + c.args.key =
    λ same. let it : number p q ≡ c.args.key = omega arith in let now : get_or c.args.tables.now.pending.items (number p q) None ≡ None = ap (λ k. get_or c.args.tables.now.pending.items k None) it ∙ none in cc in
    ap (λ ts. get_or ts (16 * length c.args.tables.now.arrays.items + number p q) None) timers ∙ get_or-set_other c.args.tables.now.timers (16 * length c.args.tables.now.arrays.items + c.args.key) (16 * length c.args.tables.now.arrays.items + number p q) None None away)
