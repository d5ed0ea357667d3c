use Rattle.std.proofs.Common.{◌+◌, ◌≤◌, List, [], ◌∷◌, ◌++◌, length, get_or, false, refl, sym, ap, ◌∙◌, subst, arith}
use Rattle.std.specs.List.{AllByRecursion}
use Rattle.boss_model.specs.declared.state.Actuator.{Actuator}
use Rattle.boss_shared.specs.declared.asked.Asked.{Asked}
use Rattle.boss_shared.specs.Together.{commands_in, AreReplied, MayAsk}
use Rattle.boss_shared.proofs.Along.{along_at, along_end, along_few, along_made, along_next, along_nothing, same_length, same_may}
use Rattle.boss_shared.proofs.Together.{answered, asks_some, replied_fine, same_commands, same_then}
use Rattle.def_history.specs.declared.entry.Entry.{Entry}
use Rattle.def_history.specs.Made.{done_by}
use Rattle.boss_durable.specs.Taken.{Taken}
use Rattle.boss_durable.specs.Words.{Does, RunsThrough}
use Rattle.boss_durable.proofs.Groups.{answered_few, failed_together, failed_together_runs, has_tried_more, together_does, together_runs, tried_nothing}
use Rattle.boss_durable.proofs.Takings.{taken_short}
use Rattle.boss_durable.proofs.durable.Durable.take_together.Goals as goal

pub loop-asked-init : goal.loop-asked-init
loop-asked-init g c = (
  refl,
  refl,
  refl,
  refl,
  [],
  along_nothing c.args.group.now,
  tried_nothing c.args.self.now.engine.plant c.args.self.now.engine.state c.clear.new.self (ap (λ b. b.bytes.bytes) c.clear.ensures) (ap (λ b. b.events) c.clear.ensures),
)

pub try_one-requires-clause-few : goal.try_one-requires-clause-few
try_one-requires-clause-few g c =
    let so = c.loop-asked.invariant in (
      answered so.4,
      c.args.self.now.engine.state,
      subst (λ (p : List Actuator). Taken p (answered so.4) c.args.self.now.engine.state c.loop-asked.self.engine.state c.loop-asked.self.batch) (sym so.0) so.6.taken,
      omega (arith, answered_few so.4, along_few _ _ _ _ so.5 c.asked-item.result c.loop-asked-test.true, c.requires.few),
    )

pub try_one-requires-clause-may : goal.try_one-requires-clause-may
try_one-requires-clause-may g c =
    let so = c.loop-asked.invariant in
    subst (λ (p : List Actuator). MayAsk p (get_or c.loop-asked.group c.loop-asked.asked-index c.asked-item.result)) (sym so.0)
    (along_at _ _ _ _ so.5 c.asked-item.result c.loop-asked-test.true (MayAsk c.args.self.now.engine.plant) c.requires.may)

pub loop-asked-preserved : goal.loop-asked-preserved
loop-asked-preserved g c =
    let so = c.loop-asked.invariant in
    let tried = c.try_one.ensures in
    let new : Asked = c.try_one.new.asked in
    let start = c.args.self.now.engine.state in
    let made : List Entry = answered so.4 ++ done_by new.session new.commands new.answers.items in (
      tried.plant ∙ so.0,
      tried.disks ∙ so.1,
      tried.limit ∙ so.2,
      tried.confirmed ∙ so.3,
      so.4 ++ new ∷ [],
      along_next _ _ _ _ so.5 c.asked-item.result c.loop-asked-test.true new tried.asked,
      has_tried_more c.args.self.now.engine.plant start c.loop-asked.self.engine.state c.try_one.new.self.engine.state c.loop-asked.self.batch c.try_one.new.self.batch so.4 new so.6
          (λ held. subst (λ (p : List Actuator). Taken p made start c.try_one.new.self.engine.state c.try_one.new.self.batch) so.0
          (tried.taken (answered so.4) start
          (subst (λ (p : List Actuator). Taken p (answered so.4) start c.loop-asked.self.engine.state c.loop-asked.self.batch) (sym so.0) held)))
          tried.fine tried.told tried.tried,
    )

pub append_to-requires-clause-within : goal.append_to-requires-clause-within
append_to-requires-clause-within g c =
    let so = c.loop-asked.invariant in
    omega (arith, taken_short _ _ _ _ _ so.6.taken, answered_few so.4, ap commands_in (along_end _ _ _ _ so.5 c.loop-asked-test.false), same_commands _ _ so.5.same, c.requires.few)

pub fail_all-requires-clause-first : goal.fail_all-requires-clause-first
fail_all-requires-clause-first g c = omega (arith, same_length _ _ c.loop-asked.invariant.5.same, c.requires.some)

pub fail_all-requires-clause-some : goal.fail_all-requires-clause-some
fail_all-requires-clause-some g c =
    asks_some c.args.self.now.engine.plant _ (same_may c.args.self.now.engine.plant _ _ c.loop-asked.invariant.5.same c.requires.may)

-- ---- all was kept

pub returns-in-Ok-clause-kept : goal.returns-in-Ok-clause-kept
returns-in-Ok-clause-kept g c =
    let so = c.loop-asked.invariant in
    let few : length (answered so.4) ≤ 16 =
    omega (arith, answered_few so.4, ap commands_in (along_end _ _ _ _ so.5 c.loop-asked-test.false), same_commands _ _ so.5.same, c.requires.few) in
    subst (Does c.args.self.now _) (sym (along_made _ _ _ _ so.5 c.loop-asked-test.false so.6.fine))
    (together_does c.args.self.now _ c.loop-asked.self.disks so.1 c.loop-asked.self.batch so.4 so.6 (λ count at. c.append_to.ensures.passes _ _ _ _ count at so.6.taken few)
    c.requires.going c.in-Ok.ensures.fine so.0 c.in-Ok.ensures.cause.1 (λ count at. c.in-Ok.ensures.rests _ _ _ _ count at so.6.taken few))

pub returns-in-Ok-clause-images : goal.returns-in-Ok-clause-images
returns-in-Ok-clause-images g c =
    let so = c.loop-asked.invariant in
    let few : length (answered so.4) ≤ 16 =
    omega (arith, answered_few so.4, ap commands_in (along_end _ _ _ _ so.5 c.loop-asked-test.false), same_commands _ _ so.5.same, c.requires.few) in
    subst (RunsThrough c.args.self.now _) (sym (along_made _ _ _ _ so.5 c.loop-asked-test.false so.6.fine))
    (together_runs c.args.self.now _ c.loop-asked.self.disks so.1 c.loop-asked.self.batch so.4 so.6 (λ count at. c.append_to.ensures.passes _ _ _ _ count at so.6.taken few))

pub returns-in-Ok-clause-asked : goal.returns-in-Ok-clause-asked
returns-in-Ok-clause-asked g c = c.loop-asked.invariant.5.same

pub returns-in-Ok-clause-told : goal.returns-in-Ok-clause-told
returns-in-Ok-clause-told g c =
    let so = c.loop-asked.invariant in
    subst (AreReplied false) (sym (along_end _ _ _ _ so.5 c.loop-asked-test.false)) (replied_fine so.4 so.6.told so.6.fine)

-- ---- a disk failed

pub returns-in-Err-clause-kept : goal.returns-in-Err-clause-kept
returns-in-Err-clause-kept g c =
    let so = c.loop-asked.invariant in
    let mark = c.fail_all.ensures.mark in
    let all = along_end _ _ _ _ so.5 c.loop-asked-test.false in
    let few : length (answered so.4) ≤ 16 = omega (arith, answered_few so.4, ap commands_in all, same_commands _ _ so.5.same, c.requires.few) in
    subst (Does c.args.self.now _) (sym mark.3)
    (failed_together c.args.self.now _ c.loop-asked.self.disks so.1 c.loop-asked.self.batch so.4 so.6 (λ count at. c.append_to.ensures.passes _ _ _ _ count at so.6.taken few)
    mark.0 mark.1 (sym all ∙ mark.2) c.requires.going c.in-Err.ensures.stops c.in-Err.ensures.cause
    (subst (AllByRecursion (MayAsk c.args.self.now.engine.plant)) all (same_may c.args.self.now.engine.plant _ _ so.5.same c.requires.may)) so.0)

pub returns-in-Err-clause-images : goal.returns-in-Err-clause-images
returns-in-Err-clause-images g c =
    let so = c.loop-asked.invariant in
    let mark = c.fail_all.ensures.mark in
    let all = along_end _ _ _ _ so.5 c.loop-asked-test.false in
    let few : length (answered so.4) ≤ 16 = omega (arith, answered_few so.4, ap commands_in all, same_commands _ _ so.5.same, c.requires.few) in
    subst (RunsThrough c.args.self.now _) (sym mark.3)
    (failed_together_runs c.args.self.now _ c.loop-asked.self.disks so.1 c.loop-asked.self.batch so.4 so.6 (λ count at. c.append_to.ensures.passes _ _ _ _ count at so.6.taken few)
    mark.0 mark.1 (sym all ∙ mark.2))

pub returns-in-Err-clause-asked : goal.returns-in-Err-clause-asked
returns-in-Err-clause-asked g c = same_then _ _ _ c.loop-asked.invariant.5.same c.fail_all.ensures.asked
