use Rattle.std.proofs.Common.{get_or, take, refl}
use Rattle.boss_shared.proofs.Together.{all_stopped, one_stopped, some_same, stopped_made, stopped_replied}
use Rattle.boss_shared.specs.declared.asked.Asked.{Asked}
use Rattle.boss_shared.proofs.asked.stop_all.Goals as goal

pub loop-asked-preserved : goal.loop-asked-preserved
loop-asked-preserved c =
    let item = c.asked-item.result in
    let found : Asked = get_or c.loop-asked.group c.loop-asked.asked-index item in
    one_stopped c.loop-asked.asked-index c.args.group.now c.loop-asked.group item found c.undo.new.self c.loop-asked.invariant c.loop-asked-test.true refl
    (record { none = c.undo.ensures.answers.0; outcomes = c.undo.ensures.outcomes })
    (record { session = c.undo.ensures.asked.0; commands = c.undo.ensures.asked.1; room = c.undo.ensures.answers.1 })
    (λ i. record { session = c.undo.ensures.asked.0 i; commands = take (c.undo.ensures.asked.2 i) (c.undo.ensures.asked.1 i) })

pub returns-clause-asked : goal.returns-clause-asked
returns-clause-asked c = (all_stopped c.loop-asked.asked-index c.args.group.now c.loop-asked.group c.loop-asked.invariant c.loop-asked-test.false).same

pub returns-clause-tried : goal.returns-clause-tried
returns-clause-tried c = (all_stopped c.loop-asked.asked-index c.args.group.now c.loop-asked.group c.loop-asked.invariant c.loop-asked-test.false).tried

pub returns-clause-told : goal.returns-clause-told
returns-clause-told c =
    let all = all_stopped c.loop-asked.asked-index c.args.group.now c.loop-asked.group c.loop-asked.invariant c.loop-asked-test.false in
    stopped_replied c.loop-asked.group (some_same c.args.group.now c.loop-asked.group all.same c.requires.some) all.undone

pub returns-clause-nothing : goal.returns-clause-nothing
returns-clause-nothing c = stopped_made c.loop-asked.group (all_stopped c.loop-asked.asked-index c.args.group.now c.loop-asked.group c.loop-asked.invariant c.loop-asked-test.false).undone
