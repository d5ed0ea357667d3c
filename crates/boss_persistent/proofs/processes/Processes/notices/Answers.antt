use Rattle.std.proofs.Common.{◌≡◌, ◌<◌, length, arith}
use Rattle.boss_persistent.proofs.Side.{length-processes_of, process_at-there}
use Rattle.boss_persistent.proofs.processes.Processes.notices.Goals as goal

pub from-requires-clause-owner : goal.from-requires-clause-owner
from-requires-clause-owner c =
    let all : length c.args.self.now ≡ length c.self.inside.entries.items = rw (← c.self.view_is) (length-processes_of c.self.inside.entries.items c.self.inside.rings c.self.invariant.0) in
    omega arith

pub returns-clause-first : goal.returns-clause-first
returns-clause-first c =
    let all : length c.args.self.now ≡ length c.self.inside.entries.items = rw (← c.self.view_is) (length-processes_of c.self.inside.entries.items c.self.inside.rings c.self.invariant.0) in
    let inside : c.args.process < length c.self.inside.entries.items = omega arith in
    rw (← c.self.view_is, process_at-there c.self.inside.entries.items c.self.inside.rings c.args.process c.self.invariant.0 inside) c.from.ensures.first

pub returns-clause-next : goal.returns-clause-next
returns-clause-next c =
    let all : length c.args.self.now ≡ length c.self.inside.entries.items = rw (← c.self.view_is) (length-processes_of c.self.inside.entries.items c.self.inside.rings c.self.invariant.0) in
    let inside : c.args.process < length c.self.inside.entries.items = omega arith in
    rw (← c.self.view_is, process_at-there c.self.inside.entries.items c.self.inside.rings c.args.process c.self.invariant.0 inside) c.from.ensures.next

pub returns-clause-list : goal.returns-clause-list
returns-clause-list c =
    let all : length c.args.self.now ≡ length c.self.inside.entries.items = rw (← c.self.view_is) (length-processes_of c.self.inside.entries.items c.self.inside.rings c.self.invariant.0) in
    let inside : c.args.process < length c.self.inside.entries.items = omega arith in
    rw (← c.self.view_is, process_at-there c.self.inside.entries.items c.self.inside.rings c.args.process c.self.invariant.0 inside) c.from.ensures.list
