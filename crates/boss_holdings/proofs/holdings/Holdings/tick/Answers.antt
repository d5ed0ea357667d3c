use Rattle.std.proofs.Common.{◌≤◌, [], vec_capacity, subst}
use Rattle.boss_slots.specs.Ending.{IsPassing, dues}
use Rattle.boss_holdings.proofs.Ticked.{passable-first, started-first, ticked-last, ticked-leases, ticked-pending, ticked-told, ticked-untouched}
use Rattle.boss_holdings.proofs.holdings.Holdings.tick.Goals as goal

pub pass_to-self-inside-requires-clause-passable : goal.pass_to-self-inside-requires-clause-passable
pass_to-self-inside-requires-clause-passable c =
    let moment : c.self.inside.moment ≤ c.args.n = rw (← c.self.view_is) at c.requires.moment.0 in
    rw (c.clear.ensures.items, c.clear.ensures.capacity) (passable-first c.args.n c.self.inside.moment c.self.inside.tables (vec_capacity c.args.told.now) c.self.inside.touched c.self.invariant.kept c.self.invariant.timed c.self.invariant.flags moment
    (rw (← c.self.view_is) at c.requires.leases) (rw (← c.self.view_is) at c.requires.pending) (rw (← c.self.view_is) at c.requires.started) (rw (← c.self.view_is) at c.requires.room))

pub returns-clause-leases : goal.returns-clause-leases
returns-clause-leases c =
    let started = started-first c.self.inside.moment c.self.inside.tables c.self.invariant.kept (rw (← c.self.view_is) at c.requires.started) in
    let moment : c.self.inside.moment ≤ c.args.n = rw (← c.self.view_is) at c.requires.moment.0 in
    let passing = subst (λ said. IsPassing c.args.n c.self.inside.moment c.pass_to-self-inside.result c.self.inside.tables c.pass_to-self-inside.new.tables said c.pass_to-self-inside.new.told.items c.self.inside.touched c.pass_to-self-inside.new.touched) c.clear.ensures.items c.pass_to-self-inside.ensures.passing in
    rw (← c.self.view_is) (ticked-leases c.args.n c.self.inside.moment c.pass_to-self-inside.result c.self.inside.tables c.pass_to-self-inside.new.tables [] c.pass_to-self-inside.new.told.items (vec_capacity c.pass_to-self-inside.new.told) c.self.inside.touched c.pass_to-self-inside.new.touched c.self.invariant.kept c.pass_to-self-inside.ensures.passable passing c.pass_to-self-inside.ensures.none moment started)

pub returns-clause-pending : goal.returns-clause-pending
returns-clause-pending c =
    let started = started-first c.self.inside.moment c.self.inside.tables c.self.invariant.kept (rw (← c.self.view_is) at c.requires.started) in
    let moment : c.self.inside.moment ≤ c.args.n = rw (← c.self.view_is) at c.requires.moment.0 in
    let passing = subst (λ said. IsPassing c.args.n c.self.inside.moment c.pass_to-self-inside.result c.self.inside.tables c.pass_to-self-inside.new.tables said c.pass_to-self-inside.new.told.items c.self.inside.touched c.pass_to-self-inside.new.touched) c.clear.ensures.items c.pass_to-self-inside.ensures.passing in
    rw (← c.self.view_is) (ticked-pending c.args.n c.self.inside.moment c.pass_to-self-inside.result c.self.inside.tables c.pass_to-self-inside.new.tables [] c.pass_to-self-inside.new.told.items (vec_capacity c.pass_to-self-inside.new.told) c.self.inside.touched c.pass_to-self-inside.new.touched c.self.invariant.kept c.pass_to-self-inside.ensures.passable passing c.pass_to-self-inside.ensures.none moment started)

pub returns-clause-now : goal.returns-clause-now
returns-clause-now c =
    let started = started-first c.self.inside.moment c.self.inside.tables c.self.invariant.kept (rw (← c.self.view_is) at c.requires.started) in
    let moment : c.self.inside.moment ≤ c.args.n = rw (← c.self.view_is) at c.requires.moment.0 in
    let passing = subst (λ said. IsPassing c.args.n c.self.inside.moment c.pass_to-self-inside.result c.self.inside.tables c.pass_to-self-inside.new.tables said c.pass_to-self-inside.new.told.items c.self.inside.touched c.pass_to-self-inside.new.touched) c.clear.ensures.items c.pass_to-self-inside.ensures.passing in
    rw (← c.self.view_is) (ticked-last c.args.n c.self.inside.moment c.pass_to-self-inside.result c.self.inside.tables c.pass_to-self-inside.new.tables [] c.pass_to-self-inside.new.told.items (vec_capacity c.pass_to-self-inside.new.told) c.self.inside.touched c.pass_to-self-inside.new.touched c.self.invariant.kept c.pass_to-self-inside.ensures.passable passing c.pass_to-self-inside.ensures.none moment started)

pub returns-clause-told : goal.returns-clause-told
unfolding dues
returns-clause-told c =
    let started = started-first c.self.inside.moment c.self.inside.tables c.self.invariant.kept (rw (← c.self.view_is) at c.requires.started) in
    let moment : c.self.inside.moment ≤ c.args.n = rw (← c.self.view_is) at c.requires.moment.0 in
    let passing = subst (λ said. IsPassing c.args.n c.self.inside.moment c.pass_to-self-inside.result c.self.inside.tables c.pass_to-self-inside.new.tables said c.pass_to-self-inside.new.told.items c.self.inside.touched c.pass_to-self-inside.new.touched) c.clear.ensures.items c.pass_to-self-inside.ensures.passing in
    rw (← c.self.view_is) (ticked-told c.args.n c.self.inside.moment c.pass_to-self-inside.result c.self.inside.tables c.pass_to-self-inside.new.tables [] c.pass_to-self-inside.new.told.items (vec_capacity c.pass_to-self-inside.new.told) c.self.inside.touched c.pass_to-self-inside.new.touched c.self.invariant.kept c.pass_to-self-inside.ensures.passable passing c.pass_to-self-inside.ensures.none moment started)

pub returns-clause-untouched : goal.returns-clause-untouched
returns-clause-untouched c default point m unset from up =
    let started = started-first c.self.inside.moment c.self.inside.tables c.self.invariant.kept (rw (← c.self.view_is) at c.requires.started) in
    let moment : c.self.inside.moment ≤ c.args.n = rw (← c.self.view_is) at c.requires.moment.0 in
    let passing = subst (λ said. IsPassing c.args.n c.self.inside.moment c.pass_to-self-inside.result c.self.inside.tables c.pass_to-self-inside.new.tables said c.pass_to-self-inside.new.told.items c.self.inside.touched c.pass_to-self-inside.new.touched) c.clear.ensures.items c.pass_to-self-inside.ensures.passing in
    let from' : c.self.inside.moment ≤ m = rw (← c.self.view_is) at from in
    rw (← c.self.view_is) (ticked-untouched c.args.n c.self.inside.moment c.pass_to-self-inside.result c.self.inside.tables c.pass_to-self-inside.new.tables [] c.pass_to-self-inside.new.told.items (vec_capacity c.pass_to-self-inside.new.told) c.self.inside.touched c.pass_to-self-inside.new.touched c.self.invariant.kept c.pass_to-self-inside.ensures.passable passing c.pass_to-self-inside.ensures.none moment started default point m unset from' up)
