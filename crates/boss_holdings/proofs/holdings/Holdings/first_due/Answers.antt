use Rattle.std.proofs.Common.{◌≤◌, ◌+◌, ◌*◌, length, [], sym, arith}
use Rattle.boss_slots.specs.Slots.{all}
use Rattle.boss_slots.specs.Tables.{lease_at, pending_at}
use Rattle.boss_holdings.proofs.Passed.{passing-begins}
use Rattle.boss_holdings.proofs.Ticked.{passable-first, started-first, ticked-last}
use Rattle.boss_holdings.proofs.holdings.Holdings.first_due.Goals as goal

pub returns : goal.returns
returns c n from before =
    let t = c.self.inside.tables in
    let now = c.self.inside.moment in
    let marks = c.self.inside.touched in
    let points = length t.arrays.items in
    let most = 2 * length (all (lease_at t) points) + length (all (pending_at t) points) in
    let from' : now ≤ n = rw (← c.self.view_is) at from in
    let started = rw (← c.self.view_is) at c.requires.started in
    let passable = passable-first n now t most marks c.self.invariant.kept c.self.invariant.timed c.self.invariant.flags from'
    (rw (← c.self.view_is) at c.requires.leases) (rw (← c.self.view_is) at c.requires.pending) started (omega arith) in
    let passing = passing-begins n now t [] marks c.self.invariant.kept c.self.invariant.timed in
    rw (← c.self.view_is) (sym (ticked-last n now now t t [] [] most marks marks c.self.invariant.kept passable passing (λ slot. c.first_moment.ensures n slot before) from'
    (started-first now t c.self.invariant.kept started)))
