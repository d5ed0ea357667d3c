use Rattle.std.proofs.Common.{ap, sym, ◌∙◌, arith}
use Rattle.law_records.proofs.Own.{own}
use Rattle.boss_persistent.specs.Lasting.{persistent_of}
use Rattle.boss_persistent.specs.Meant.{meant_places}
use Rattle.boss_persistent.proofs.Recorded.{is-found, is-unknown}
use Rattle.boss_persistent.proofs.lasting.Lasting.fill_slots.Goals as goal

pub gather_slots-requires-clause-parts : goal.gather_slots-requires-clause-parts
gather_slots-requires-clause-parts c =
    let k = c.in-Some.transaction.now in
    let few = (own c.requires.sound.0 (persistent_of c.args.self.now) c.requires.sound.2 c.args.txn k.transaction
    (is-found c.args.self.now.stages.kept c.args.txn k (sym c.in-Some.ensures))).few_parts in
    omega (arith, few, c.requires.kept.slots, c.clear.ensures.capacity)

pub returns-in-Some-clause-slots : goal.returns-in-Some-clause-slots
returns-in-Some-clause-slots c =
    c.gather_slots.ensures.slots
    ∙ ap (meant_places c.args.points.now) (sym (is-found c.args.self.now.stages.kept c.args.txn c.in-Some.transaction.now (sym c.in-Some.ensures)))

pub returns-in_default-clause-slots : goal.returns-in_default-clause-slots
returns-in_default-clause-slots c =
    c.clear.ensures.items ∙ ap (meant_places c.args.points.now) (sym (is-unknown c.args.self.now.stages.kept c.args.txn (sym c.in_default.ensures)))
