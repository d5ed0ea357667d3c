use Rattle.std.proofs.Common.{◌≡◌, ◌≢◌, ◌∙◌, ◌+◌, ◌*◌, nat_lt, true, false, Some, None, length, get_or, set, refl, ap, sym, subst, arith}
use Rattle.std.proofs.lemmas.Bool.Decides.{nat_tests}
use Rattle.std.proofs.lemmas.List.{get_or-set_other, length-set}
use Rattle.boss_array.specs.declared.array.Entry.TheVariants as entry
use Rattle.boss_model.specs.declared.state.Pending.{Pending}
use Rattle.boss_model.specs.Reversions.{end_of}
use Rattle.boss_slots.specs.Ending.{AreBy, is_due}
use Rattle.boss_slots.specs.Tables.{IsAwaited, IsBy, IsMoved, IsTimed, number}
use Rattle.std.specs.Option.{option_copied}
use Rattle.boss_slots.proofs.Kept.{kept-retimed, moved-retimed, pending-of_key, timed-pending_timer, within-of}
use Rattle.boss_slots.proofs.Turns.{awaits-next, next-least, next-none}
use Rattle.boss_holdings.proofs.Passed.{fewer-due}
use Rattle.boss_holdings.proofs.passing.go_on.Goals as goal

pub next_boundary-requires : goal.next_boundary-requires
next_boundary-requires c =
    let there : get_or c.args.tables.now.pending.items c.args.key None ≡ Some c.unwrap-reversion.result.now = ap (λ xs. get_or xs c.args.key None) (sym c.deref.ensures.value) ∙ sym c.pending_of.ensures ∙ ap option_copied c.unwrap-reversion.ensures in
    let r = c.unwrap-reversion.result.now in
    (c.requires.playable r there).0

pub returns-in-Some-clause-kept : goal.returns-in-Some-clause-kept
returns-in-Some-clause-kept c =
    kept-retimed c.args.tables.now c.set_timer.new.timers c.requires.kept (ap length c.set_timer.ensures ∙ length-set c.args.tables.now.timers (c.keys.result + c.args.key) (Some c.in-Some.next))

pub returns-in-Some-clause-moved : goal.returns-in-Some-clause-moved
returns-in-Some-clause-moved c reversion is =
    let there : get_or c.args.tables.now.pending.items c.args.key None ≡ Some c.unwrap-reversion.result.now = ap (λ xs. get_or xs c.args.key None) (sym c.deref.ensures.value) ∙ sym c.pending_of.ensures ∙ ap option_copied c.unwrap-reversion.ensures in
    let r = c.unwrap-reversion.result.now in
    let found = sym c.in-Some.ensures in
    let least = next-least r.start c.args.n c.in-Some.next r.steps found in
    let one = least.0 in let two = least.1 in
    let place : c.keys.result + c.args.key ≡ 16 * length c.args.tables.now.arrays.items + c.args.key = ap (λ k. k + c.args.key) (c.keys.ensures ∙ c.requires.kept.keys) in
    let timers : c.set_timer.new.timers ≡ set c.args.tables.now.timers (16 * length c.args.tables.now.arrays.items + c.args.key) (Some c.in-Some.next) = c.set_timer.ensures ∙ ap (λ k. set c.args.tables.now.timers k (Some c.in-Some.next)) place in
    let it : r ≡ reversion = cc in
    let at = pending-of_key c.args.tables.now c.args.key reversion c.requires.kept is in
    let runs' : nat_lt c.args.n (end_of r) ≡ true = grind (arith, nat_tests) in
    let runs : nat_lt c.args.n (end_of reversion) ≡ true = ap (λ (x : Pending). nat_lt c.args.n (end_of x)) (sym it) ∙ runs' in
    rw runs (moved-retimed c.args.tables.now c.set_timer.new.timers c.requires.kept (ap length c.set_timer.ensures ∙ length-set c.args.tables.now.timers (c.keys.result + c.args.key) (Some c.in-Some.next)) reversion.point reversion.priority None (Some reversion) at.0 at.1)

pub returns-in-Some-clause-timed : goal.returns-in-Some-clause-timed
returns-in-Some-clause-timed c last reversion is by timed =
    let there : get_or c.args.tables.now.pending.items c.args.key None ≡ Some c.unwrap-reversion.result.now = ap (λ xs. get_or xs c.args.key None) (sym c.deref.ensures.value) ∙ sym c.pending_of.ensures ∙ ap option_copied c.unwrap-reversion.ensures in
    let r = c.unwrap-reversion.result.now in
    let found = sym c.in-Some.ensures in
    let least = next-least r.start c.args.n c.in-Some.next r.steps found in
    let one = least.0 in let two = least.1 in
    let place : c.keys.result + c.args.key ≡ 16 * length c.args.tables.now.arrays.items + c.args.key = ap (λ k. k + c.args.key) (c.keys.ensures ∙ c.requires.kept.keys) in
    let timers : c.set_timer.new.timers ≡ set c.args.tables.now.timers (16 * length c.args.tables.now.arrays.items + c.args.key) (Some c.in-Some.next) = c.set_timer.ensures ∙ ap (λ k. set c.args.tables.now.timers k (Some c.in-Some.next)) place in
    let it : r ≡ reversion = cc in
    subst (λ ts. IsTimed last (record c.args.tables.now { timers = ts })) (sym timers)
    (timed-pending_timer last c.args.tables.now c.requires.kept timed c.args.key (Some c.in-Some.next) (within-of c.args.tables.now.pending.items c.args.key reversion is)
    (λ x same. let mine : r ≡ x = cc in subst (λ (y : Pending). IsAwaited last y (Some c.in-Some.next)) mine (awaits-next c.args.n last c.in-Some.next r (subst (λ (y : Pending). AreBy c.args.n last y.start y.steps) (sym it) by) found)))

pub returns-in-Some-clause-others : goal.returns-in-Some-clause-others
returns-in-Some-clause-others c slot differs =
    let there : get_or c.args.tables.now.pending.items c.args.key None ≡ Some c.unwrap-reversion.result.now = ap (λ xs. get_or xs c.args.key None) (sym c.deref.ensures.value) ∙ sym c.pending_of.ensures ∙ ap option_copied c.unwrap-reversion.ensures in
    let r = c.unwrap-reversion.result.now in
    let found = sym c.in-Some.ensures in
    let least = next-least r.start c.args.n c.in-Some.next r.steps found in
    let one = least.0 in let two = least.1 in
    let place : c.keys.result + c.args.key ≡ 16 * length c.args.tables.now.arrays.items + c.args.key = ap (λ k. k + c.args.key) (c.keys.ensures ∙ c.requires.kept.keys) in
    let timers : c.set_timer.new.timers ≡ set c.args.tables.now.timers (16 * length c.args.tables.now.arrays.items + c.args.key) (Some c.in-Some.next) = c.set_timer.ensures ∙ ap (λ k. set c.args.tables.now.timers k (Some c.in-Some.next)) place in
    rw timers (get_or-set_other c.args.tables.now.timers (16 * length c.args.tables.now.arrays.items + c.args.key) slot (Some c.in-Some.next) None differs)

pub returns-in-Some-clause-fewer : goal.returns-in-Some-clause-fewer
returns-in-Some-clause-fewer c =
    let there : get_or c.args.tables.now.pending.items c.args.key None ≡ Some c.unwrap-reversion.result.now = ap (λ xs. get_or xs c.args.key None) (sym c.deref.ensures.value) ∙ sym c.pending_of.ensures ∙ ap option_copied c.unwrap-reversion.ensures in
    let r = c.unwrap-reversion.result.now in
    let found = sym c.in-Some.ensures in
    let least = next-least r.start c.args.n c.in-Some.next r.steps found in
    let one = least.0 in let two = least.1 in
    let place : c.keys.result + c.args.key ≡ 16 * length c.args.tables.now.arrays.items + c.args.key = ap (λ k. k + c.args.key) (c.keys.ensures ∙ c.requires.kept.keys) in
    let timers : c.set_timer.new.timers ≡ set c.args.tables.now.timers (16 * length c.args.tables.now.arrays.items + c.args.key) (Some c.in-Some.next) = c.set_timer.ensures ∙ ap (λ k. set c.args.tables.now.timers k (Some c.in-Some.next)) place in
    let later : is_due c.args.n (Some c.in-Some.next) ≡ false = grind (arith, nat_tests) in
    rw timers (fewer-due c.args.n (16 * length c.args.tables.now.arrays.items + c.args.key) c.args.tables.now.timers (Some c.in-Some.next) c.requires.due later)

pub take_pending-requires-clause-there : goal.take_pending-requires-clause-there
take_pending-requires-clause-there c =
    let there : get_or c.args.tables.now.pending.items c.args.key None ≡ Some c.unwrap-reversion.result.now = ap (λ xs. get_or xs c.args.key None) (sym c.deref.ensures.value) ∙ sym c.pending_of.ensures ∙ ap option_copied c.unwrap-reversion.ensures in
    let r = c.unwrap-reversion.result.now in
    let kept = c.requires.kept.kept c.args.key r there in
    let its = kept.1 in
    let over = next-none r.start c.args.n r.steps (c.requires.playable r there).1 (sym c.in-None.ensures) in
    kept.0 ∙ ap (λ k. Some (entry.Pending k)) its

pub returns-in-None-clause-moved : goal.returns-in-None-clause-moved
returns-in-None-clause-moved c reversion is =
    let there : get_or c.args.tables.now.pending.items c.args.key None ≡ Some c.unwrap-reversion.result.now = ap (λ xs. get_or xs c.args.key None) (sym c.deref.ensures.value) ∙ sym c.pending_of.ensures ∙ ap option_copied c.unwrap-reversion.ensures in
    let r = c.unwrap-reversion.result.now in
    let kept = c.requires.kept.kept c.args.key r there in
    let its = kept.1 in
    let over = next-none r.start c.args.n r.steps (c.requires.playable r there).1 (sym c.in-None.ensures) in
    let it : r ≡ reversion = cc in
    let ends' : nat_lt c.args.n (end_of r) ≡ false = grind (arith, nat_tests) in
    let ends : nat_lt c.args.n (end_of reversion) ≡ false = ap (λ (x : Pending). nat_lt c.args.n (end_of x)) (sym it) ∙ ends' in
    rw ends (subst (λ (x : Pending). IsMoved c.args.tables.now c.take_pending.new.tables x.point x.priority None None) it c.take_pending.ensures.moved)

pub returns-in-None-clause-others : goal.returns-in-None-clause-others
returns-in-None-clause-others c slot differs =
    let there : get_or c.args.tables.now.pending.items c.args.key None ≡ Some c.unwrap-reversion.result.now = ap (λ xs. get_or xs c.args.key None) (sym c.deref.ensures.value) ∙ sym c.pending_of.ensures ∙ ap option_copied c.unwrap-reversion.ensures in
    let r = c.unwrap-reversion.result.now in
    let kept = c.requires.kept.kept c.args.key r there in
    let its = kept.1 in
    let over = next-none r.start c.args.n r.steps (c.requires.playable r there).1 (sym c.in-None.ensures) in
    let differs' : slot ≢ 16 * length c.args.tables.now.arrays.items + number r.point r.priority = subst (λ k. slot ≢ 16 * length c.args.tables.now.arrays.items + k) its differs in
    rw c.take_pending.ensures.timers (get_or-set_other c.args.tables.now.timers (16 * length c.args.tables.now.arrays.items + number r.point r.priority) slot None None differs')

pub returns-in-None-clause-fewer : goal.returns-in-None-clause-fewer
returns-in-None-clause-fewer c =
    let there : get_or c.args.tables.now.pending.items c.args.key None ≡ Some c.unwrap-reversion.result.now = ap (λ xs. get_or xs c.args.key None) (sym c.deref.ensures.value) ∙ sym c.pending_of.ensures ∙ ap option_copied c.unwrap-reversion.ensures in
    let r = c.unwrap-reversion.result.now in
    let kept = c.requires.kept.kept c.args.key r there in
    let its = kept.1 in
    let over = next-none r.start c.args.n r.steps (c.requires.playable r there).1 (sym c.in-None.ensures) in
    rw c.take_pending.ensures.timers (fewer-due c.args.n (16 * length c.args.tables.now.arrays.items + number r.point r.priority) c.args.tables.now.timers None
    (subst (λ k. IsBy c.args.n (get_or c.args.tables.now.timers (16 * length c.args.tables.now.arrays.items + k) None)) its c.requires.due) refl)
