use Rattle.std.proofs.Common.{◌≡◌, ◌+◌, [], ◌∷◌, ◌++◌, length, length-append, ap, ◌∙◌, arith}
use Rattle.boss_persistent.specs.Processes.{processes_of}
use Rattle.boss_persistent.proofs.Side.{length-processes_of, processes_of-more}
use Rattle.boss_persistent.proofs.processes.Processes.put_back.Goals as goal

pub put_back-requires-clause-processes : goal.put_back-requires-clause-processes
put_back-requires-clause-processes c =
    let all : length c.args.self.now ≡ length c.self.inside.entries.items = rw (← c.self.view_is) (length-processes_of c.self.inside.entries.items c.self.inside.rings c.self.invariant.0) in
    omega arith

pub put_back-requires-clause-count : goal.put_back-requires-clause-count
put_back-requires-clause-count c = c.requires.sound.2.count

pub put_back-requires-clause-few : goal.put_back-requires-clause-few
put_back-requires-clause-few c = (c.requires.sound.2.few, c.requires.sound.2.sent)

pub put_back-requires-clause-numbers : goal.put_back-requires-clause-numbers
put_back-requires-clause-numbers c = c.requires.sound.2.numbers

pub push_reserved-requires : goal.push_reserved-requires
push_reserved-requires c =
    let all : length c.args.self.now ≡ length c.self.inside.entries.items = rw (← c.self.view_is) (length-processes_of c.self.inside.entries.items c.self.inside.rings c.self.invariant.0) in
    omega arith

pub invariant_of-self-2 : goal.invariant_of-self-2
invariant_of-self-2 c =
    let all : length c.args.self.now ≡ length c.self.inside.entries.items = rw (← c.self.view_is) (length-processes_of c.self.inside.entries.items c.self.inside.rings c.self.invariant.0) in
    let entries : length c.push_reserved.new.self.items ≡ length c.self.inside.entries.items + 1 =
    ap length c.push_reserved.ensures.items ∙ length-append c.self.inside.entries.items (record { name = c.copied.result; reply = c.args.kept.now.reply } ∷ []) in
    let rings : length c.put_back.new.self ≡ length c.self.inside.rings + 1 =
    ap length c.in_ok-put_back.ensures.ok ∙ length-append c.self.inside.rings (record { count = c.args.kept.now.count; kept = c.args.kept.now.notices } ∷ []) in
    (omega arith, omega arith, omega arith)

pub returns : goal.returns
returns c =
    let entries = c.self.inside.entries.items in
    let rings = c.self.inside.rings in
    let kept = c.args.kept.now in
    rw (c.push_reserved.ensures.items, c.in_ok-put_back.ensures.ok, ← c.self.view_is)
    (processes_of-more entries rings (record { name = c.copied.result; reply = kept.reply }) (record { count = kept.count; kept = kept.notices }) c.self.invariant.0
    ∙ ap (λ name. processes_of entries rings ++ (record { name = name; count = kept.count; kept = kept.notices; reply = kept.reply }) ∷ []) c.copied.ensures)
