use Rattle.std.proofs.Common.{◌≡◌, ◌<◌, ◌+◌, length, sym, ◌∙◌, ap, arith}
use Rattle.boss_persistent.proofs.Side.{length-processes_of, next-there}
use Rattle.boss_persistent.proofs.processes.Processes.next_notice.Goals as goal

pub count-requires : goal.count-requires
count-requires c =
    let all : length c.args.self.now ≡ length c.self.inside.entries.items = rw (← c.self.view_is) (length-processes_of c.self.inside.entries.items c.self.inside.rings c.self.invariant.0) in
    omega arith

pub returns : goal.returns
returns c =
    let all : length c.args.self.now ≡ length c.self.inside.entries.items = rw (← c.self.view_is) (length-processes_of c.self.inside.entries.items c.self.inside.rings c.self.invariant.0) in
    let inside : c.args.process < length c.self.inside.entries.items = omega arith in
    ap (λ count. count + 1) c.count.ensures.number ∙ rw (← c.self.view_is) (sym (next-there c.self.inside.entries.items c.self.inside.rings c.args.process c.self.invariant.0 inside))
