use Rattle.std.proofs.Common.{◌≡◌, ◌+◌, [], ◌∷◌, ◌++◌, length, length-append, None, ap, ◌∙◌, arith}
use Rattle.boss_persistent.specs.Processes.{process_of, processes_of}
use Rattle.boss_persistent.proofs.Side.{length-processes_of, processes_of-more}
use Rattle.boss_persistent.proofs.processes.Processes.enrol.Goals as goal

pub push_reserved-requires : goal.push_reserved-requires
push_reserved-requires c =
    let all : length c.args.self.now ≡ length c.self.inside.entries.items = rw (← c.self.view_is) (length-processes_of c.self.inside.entries.items c.self.inside.rings c.self.invariant.0) in
    omega arith

pub add-requires : goal.add-requires
add-requires c =
    let all : length c.args.self.now ≡ length c.self.inside.entries.items = rw (← c.self.view_is) (length-processes_of c.self.inside.entries.items c.self.inside.rings c.self.invariant.0) in
    omega arith

pub invariant_of-self : goal.invariant_of-self
invariant_of-self c =
    let all : length c.args.self.now ≡ length c.self.inside.entries.items = rw (← c.self.view_is) (length-processes_of c.self.inside.entries.items c.self.inside.rings c.self.invariant.0) in
    let names : length c.push_reserved.new.self.items ≡ length c.self.inside.entries.items + 1 = ap length c.push_reserved.ensures.items ∙ length-append c.self.inside.entries.items (record { name = c.args.name; reply = None } ∷ []) in
    let rings : length c.add.new.self ≡ length c.self.inside.rings + 1 = ap length c.add.ensures ∙ length-append c.self.inside.rings (c.args.ring ∷ []) in
    (omega arith, omega arith, omega arith)

pub returns : goal.returns
returns c =
    rw (c.push_reserved.ensures.items, c.add.ensures, ← c.self.view_is)
    (processes_of-more c.self.inside.entries.items c.self.inside.rings (record { name = c.args.name; reply = None }) c.args.ring c.self.invariant.0
    ∙ ap (λ ring. processes_of c.self.inside.entries.items c.self.inside.rings ++ process_of (record { name = c.args.name; reply = None }) ring ∷ []) c.requires.empty)
