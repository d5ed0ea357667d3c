use Rattle.std.proofs.Common.{◌≡◌, ◌∙◌, ◌+◌, ◌*◌, nat_lt, true, false, Some, None, length, sym, arith}
use Rattle.std.proofs.lemmas.Bool.Decides.{nat_tests}
use Rattle.std.proofs.lemmas.List.{get_or-set_other}
use Rattle.boss_model.specs.Reversions.{end_of}
use Rattle.boss_slots.specs.Ending.{is_due}
use Rattle.boss_slots.specs.Tables.{number}
use Rattle.boss_slots.proofs.Kept.{moved-not, number-within}
use Rattle.boss_slots.proofs.Turns.{awaits-next, next-least, next-none}
use Rattle.boss_holdings.proofs.Passed.{no-more-due}
use Rattle.boss_holdings.proofs.passing.start_reversion.Goals as goal

pub returns-in-Some-clause-moved : goal.returns-in-Some-clause-moved
returns-in-Some-clause-moved c =
    let least = next-least c.args.reversion.start c.args.n c.in-Some.next c.args.reversion.steps (sym c.in-Some.ensures) in
    let one = least.0 in let two = least.1 in
    let runs : nat_lt c.args.n (end_of c.args.reversion) ≡ true = grind (arith, nat_tests) in
    rw runs c.put_pending.ensures.moved

pub returns-in-Some-clause-timed : goal.returns-in-Some-clause-timed
returns-in-Some-clause-timed c last up by timed = c.put_pending.ensures.timed last timed (awaits-next c.args.n last c.in-Some.next c.args.reversion by (sym c.in-Some.ensures))

pub returns-in-Some-clause-others : goal.returns-in-Some-clause-others
returns-in-Some-clause-others c slot differs = rw c.put_pending.ensures.timers (get_or-set_other c.args.tables.now.timers (16 * length c.args.tables.now.arrays.items + number c.args.reversion.point c.args.reversion.priority) slot (Some c.in-Some.next) None differs)

pub returns-in-Some-clause-fewer : goal.returns-in-Some-clause-fewer
returns-in-Some-clause-fewer c =
    let least = next-least c.args.reversion.start c.args.n c.in-Some.next c.args.reversion.steps (sym c.in-Some.ensures) in
    let one = least.0 in
    let few = number-within c.args.reversion.point c.args.reversion.priority (length c.args.tables.now.arrays.items) c.requires.point c.requires.level.0 c.requires.level.1 in
    let timers = c.requires.kept.timers in
    let later : is_due c.args.n (Some c.in-Some.next) ≡ false = grind (arith, nat_tests) in
    rw c.put_pending.ensures.timers (no-more-due c.args.n (16 * length c.args.tables.now.arrays.items + number c.args.reversion.point c.args.reversion.priority) c.args.tables.now.timers (Some c.in-Some.next) (omega arith) later)

pub returns-in_default-clause-moved : goal.returns-in_default-clause-moved
returns-in_default-clause-moved c =
    let over = next-none c.args.reversion.start c.args.n c.args.reversion.steps c.requires.started (sym c.next_boundary.ensures ∙ c.in_default.is) in
    let ends : nat_lt c.args.n (end_of c.args.reversion) ≡ false = grind (arith, nat_tests) in
    rw ends (moved-not c.args.tables.now c.args.reversion.point c.args.reversion.priority c.requires.empty)
