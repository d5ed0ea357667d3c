use Rattle.std.proofs.Common.{◌≡◌, ◌<◌, length, ap, ◌∙◌, arith}
use Rattle.boss_persistent.specs.Processes.{processes_of}
use Rattle.boss_persistent.proofs.Side.{length-processes_of}
use Rattle.boss_persistent.proofs.processes.Processes.next_noticed.Goals as goal

pub name-requires : goal.name-requires
name-requires c =
    let all : length (processes_of c.self.inside.entries.items c.next_noticed.new.self) ≡ length c.self.inside.entries.items =
    ap (λ rings. length (processes_of c.self.inside.entries.items rings)) c.next_noticed.ensures.same
    ∙ length-processes_of c.self.inside.entries.items c.self.inside.rings c.self.invariant.0 in
    let inside : c.in_ok-process.process < length c.self.inside.rings = c.in_ok-process.ensures.known in
    omega (arith, all, inside, c.self.invariant.0)
