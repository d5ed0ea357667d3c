use Rattle.std.proofs.Common.{◌≡◌, ◌<◌, ◌==◌, not, length, sym, ◌∙◌, ap, arith}
use Rattle.boss_model.specs.Limits.{last_number}
use Rattle.boss_persistent.proofs.Side.{length-processes_of, told-more-there}
use Rattle.boss_persistent.proofs.processes.Processes.may_be_told.Goals as goal

pub count-requires : goal.count-requires
count-requires c =
    let all : length c.args.self.now ≡ length c.self.inside.entries.items = rw (← c.self.view_is) (length-processes_of c.self.inside.entries.items c.self.inside.rings c.self.invariant.0) in
    omega arith

pub returns : goal.returns
returns c =
    let all : length c.args.self.now ≡ length c.self.inside.entries.items = rw (← c.self.view_is) (length-processes_of c.self.inside.entries.items c.self.inside.rings c.self.invariant.0) in
    let inside : c.args.process < length c.self.inside.entries.items = omega arith in
    ap (λ count. not (count == last_number)) c.count.ensures.number
    ∙ rw (← c.self.view_is) (sym (told-more-there c.self.inside.entries.items c.self.inside.rings c.args.process c.self.invariant.0 inside))
