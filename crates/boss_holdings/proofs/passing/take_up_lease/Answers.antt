use Rattle.std.proofs.Common.{◌≡◌, ◌≢◌, ◌∙◌, ◌+◌, ◌*◌, ◌≤◌, Some, None, length, get_or, vec_capacity, ap, sym, subst, arith}
use Rattle.std.specs.Option.{option_copied}
use Rattle.std.proofs.lemmas.List.{get_or-set_other, length-set}
use Rattle.boss_model.specs.declared.state.Lease.{Lease}
use Rattle.boss_slots.specs.Tables.{IsTimed, number}
use Rattle.boss_slots.proofs.Kept.{timed-lease_timer}
use Rattle.boss_holdings.proofs.Passed.{passable-retimed, passing-retimed}
use Rattle.boss_holdings.proofs.passing.take_up_lease.Goals as goal

pub returns-in_default-clause-passable : goal.returns-in_default-clause-passable
returns-in_default-clause-passable c =
    let s = c.requires.passable in
    let none : get_or c.args.tables.now.leases c.args.key None ≡ None = sym c.get.ensures ∙ ap option_copied c.in_default.is in
    let timed = timed-lease_timer c.args.last c.args.tables.now s.kept s.timed c.args.key None c.requires.key (λ lease is. cc) in
    let timers = c.remove_timer.ensures in
    passable-retimed c.args.n c.args.last c.args.tables.now c.remove_timer.new.timers c.args.told.now.items (vec_capacity c.args.told.now) c.args.touched.now s
    (ap length timers ∙ length-set c.args.tables.now.timers c.args.key None) (subst (λ ts. IsTimed c.args.last (record c.args.tables.now { timers = ts })) (sym timers) timed)

pub returns-in_default-clause-passing : goal.returns-in_default-clause-passing
returns-in_default-clause-passing c began first said_before marks_before e =
    let s = c.requires.passable in
    let none : get_or c.args.tables.now.leases c.args.key None ≡ None = sym c.get.ensures ∙ ap option_copied c.in_default.is in
    let timed = timed-lease_timer c.args.last c.args.tables.now s.kept s.timed c.args.key None c.requires.key (λ lease is. cc) in
    let timers = c.remove_timer.ensures in
    let keys = s.kept.keys in let key-in = c.requires.key in
    passing-retimed c.args.n c.args.last c.args.tables.now c.remove_timer.new.timers c.args.told.now.items (vec_capacity c.args.told.now) c.args.touched.now s
    (ap length timers ∙ length-set c.args.tables.now.timers c.args.key None) (subst (λ ts. IsTimed c.args.last (record c.args.tables.now { timers = ts })) (sym timers) timed)
    began first said_before marks_before e
    (λ p q r _. let past : 16 * length c.args.tables.now.arrays.items + number p q ≢ c.args.key = λ same. omega arith in
    ap (λ ts. get_or ts (16 * length c.args.tables.now.arrays.items + number p q) None) timers ∙ get_or-set_other c.args.tables.now.timers c.args.key (16 * length c.args.tables.now.arrays.items + number p q) None None past)

pub returns-then-n-until-clause-passable : goal.returns-then-n-until-clause-passable
returns-then-n-until-clause-passable c =
    let s = c.requires.passable in
    let there : get_or c.args.tables.now.leases c.args.key None ≡ Some c.in-Some.lease.now = sym c.get.ensures ∙ ap option_copied c.in-Some.is in
    let timed = timed-lease_timer c.args.last c.args.tables.now s.kept s.timed c.args.key (Some c.in-Some.lease.now.until) c.requires.key (λ lease is. let same : c.in-Some.lease.now ≡ lease = cc in subst (λ (x : Lease). c.in-Some.lease.now.until ≤ x.until) same (omega arith)) in
    let timers = c.set_timer.ensures in
    passable-retimed c.args.n c.args.last c.args.tables.now c.set_timer.new.timers c.args.told.now.items (vec_capacity c.args.told.now) c.args.touched.now s
    (ap length timers ∙ length-set c.args.tables.now.timers c.args.key (Some c.in-Some.lease.now.until)) (subst (λ ts. IsTimed c.args.last (record c.args.tables.now { timers = ts })) (sym timers) timed)

pub returns-then-n-until-clause-passing : goal.returns-then-n-until-clause-passing
returns-then-n-until-clause-passing c began first said_before marks_before e =
    let s = c.requires.passable in
    let there : get_or c.args.tables.now.leases c.args.key None ≡ Some c.in-Some.lease.now = sym c.get.ensures ∙ ap option_copied c.in-Some.is in
    let timed = timed-lease_timer c.args.last c.args.tables.now s.kept s.timed c.args.key (Some c.in-Some.lease.now.until) c.requires.key (λ lease is. let same : c.in-Some.lease.now ≡ lease = cc in subst (λ (x : Lease). c.in-Some.lease.now.until ≤ x.until) same (omega arith)) in
    let timers = c.set_timer.ensures in
    let keys = s.kept.keys in let key-in = c.requires.key in
    passing-retimed c.args.n c.args.last c.args.tables.now c.set_timer.new.timers c.args.told.now.items (vec_capacity c.args.told.now) c.args.touched.now s
    (ap length timers ∙ length-set c.args.tables.now.timers c.args.key (Some c.in-Some.lease.now.until)) (subst (λ ts. IsTimed c.args.last (record c.args.tables.now { timers = ts })) (sym timers) timed)
    began first said_before marks_before e
    (λ p q r _. let past : 16 * length c.args.tables.now.arrays.items + number p q ≢ c.args.key = λ same. omega arith in
    ap (λ ts. get_or ts (16 * length c.args.tables.now.arrays.items + number p q) None) timers ∙ get_or-set_other c.args.tables.now.timers c.args.key (16 * length c.args.tables.now.arrays.items + number p q) (Some c.in-Some.lease.now.until) None past)
