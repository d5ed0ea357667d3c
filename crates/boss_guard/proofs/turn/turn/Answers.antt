use mir.Val.{SFits}
use Rattle.std.proofs.lemmas.Int.{to_z-of_z}
use Rattle.std.proofs.Common.{w64, rules, None, Some, [], ◌∷◌, ◌++◌, refl, ap, sym, subst, ◌∙◌}
use Rattle.boss_model.specs.declared.command.Command.TheVariants.{Next}
use Rattle.def_history.specs.declared.entry.Entry.TheVariants.{Did}
use Rattle.boss_lock.specs.Places.{entries_at}
use Rattle.boss_drive.specs.Wants.{answer_to}
use Rattle.def_guards.specs.declared.guard.Due.{Due}
use Rattle.def_guards.specs.Acts.{due_from}
use Rattle.boss_guard.specs.Trying.{Swept, SweptCut}
use Rattle.boss_guard.proofs.Trials.{stand, watch}
use Rattle.boss_guard.proofs.Turning.{cut_first, cut_next, turn_at, turn_cut_at, looked_turn_at, cut_look_at}
use Rattle.boss_guard.proofs.turn.turn.Goals as goal

-- the clock failed
pub returns-in_default-clause-cut : goal.returns-in_default-clause-cut
returns-in_default-clause-cut g c =
    let own = entries_at (g.G.Desk.seen c.args.pass.now) (g.G.Desk.mine c.args.pass.now) in
    cut_first (g.G.Desk.plant c.args.desk.now) c.args.driver g.C.Clock.tells g.A.Actuators.tells own own (g.C.Clock.given c.args.clock.now) (g.C.Clock.given c.now.new.self)
    (g.A.Actuators.whole c.args.devices.now) (g.A.Actuators.calls c.args.devices.now) (watch c.args.now.now c.args.guards.now) c.in_default.ensures.moments

-- the disk failed at the Next
pub returns-in-Err-clause-cut : goal.returns-in-Err-clause-cut
returns-in-Err-clause-cut g c =
    let own = entries_at (g.G.Desk.seen c.args.pass.now) (g.G.Desk.mine c.args.pass.now) in
    let own' = entries_at (g.G.Desk.seen c.next.new.pass) (g.G.Desk.mine c.next.new.pass) in
    cut_next (g.G.Desk.plant c.args.desk.now) c.args.driver g.C.Clock.tells g.A.Actuators.tells own own' (g.C.Clock.given c.args.clock.now) (g.C.Clock.given c.now.new.self)
    (g.A.Actuators.whole c.args.devices.now) (g.A.Actuators.calls c.args.devices.now) (watch c.args.now.now c.args.guards.now)
    c.in-Ok.reading c.max.result (g.G.Desk.seen c.next.new.pass) c.in-Err.end c.max.ensures c.in-Err.ensures.cut c.in-Ok.ensures.moments

-- the clock or the disk ended the work at a want that was held
pub returns-in-Err-sweep-clause-cut : goal.returns-in-Err-sweep-clause-cut
returns-in-Err-sweep-clause-cut g c =
    let own = entries_at (g.G.Desk.seen c.args.pass.now) (g.G.Desk.mine c.args.pass.now) in
    let own' = entries_at (g.G.Desk.seen c.next.new.pass) (g.G.Desk.mine c.next.new.pass) in
    let new = stand (entries_at (g.G.Desk.seen c.sweep.new.pass) (g.G.Desk.mine c.sweep.new.pass)) (g.C.Clock.given c.sweep.new.clock)
    (g.A.Actuators.whole c.sweep.new.devices) (g.A.Actuators.calls c.sweep.new.devices) in
    turn_cut_at (g.G.Desk.plant c.args.desk.now) c.args.driver g.C.Clock.tells g.A.Actuators.tells own own' (g.C.Clock.given c.args.clock.now) (g.C.Clock.given c.now.new.self)
    (g.A.Actuators.whole c.args.devices.now) (g.A.Actuators.calls c.args.devices.now) (watch c.args.now.now c.args.guards.now)
    c.in-Ok.reading c.max.result None c.max.ensures
    (c.in-Ok-None.ensures.done ∙ ap (λ want. own ++ Did 0 (Next c.args.driver) c.max.result (answer_to want) ∷ []) c.in-Ok-None.field-0-is)
    c.in-Ok.ensures.moments new c.in-Err-sweep.end c.in-Err-sweep.ensures.cut

-- one that was held was written
pub returns-in-Ok-true-clause-taken : goal.returns-in-Ok-true-clause-taken
returns-in-Ok-true-clause-taken g c =
    let own = entries_at (g.G.Desk.seen c.args.pass.now) (g.G.Desk.mine c.args.pass.now) in
    let own' = entries_at (g.G.Desk.seen c.next.new.pass) (g.G.Desk.mine c.next.new.pass) in
    let new = stand (entries_at (g.G.Desk.seen c.sweep.new.pass) (g.G.Desk.mine c.sweep.new.pass)) (g.C.Clock.given c.sweep.new.clock)
    (g.A.Actuators.whole c.sweep.new.devices) (g.A.Actuators.calls c.sweep.new.devices) in
    turn_at (g.G.Desk.plant c.args.desk.now) c.args.driver g.C.Clock.tells g.A.Actuators.tells own own' (g.C.Clock.given c.args.clock.now) (g.C.Clock.given c.now.new.self)
    (g.A.Actuators.whole c.args.devices.now) (g.A.Actuators.calls c.args.devices.now) (watch c.args.now.now c.args.guards.now)
    c.in-Ok.reading c.max.result None c.max.ensures
    (c.in-Ok-None.ensures.done ∙ ap (λ want. own ++ Did 0 (Next c.args.driver) c.max.result (answer_to want) ∷ []) c.in-Ok-None.field-0-is)
    c.in-Ok.ensures.moments new (watch c.sweep.new.now c.sweep.new.guards) c.in-Ok-true.field-0 None (sym c.in-Ok-true.field-0-test) c.in-Ok-true.ensures.swept

-- the disk ended the work at the doubt
pub returns-in-Err-look_after-clause-cut : goal.returns-in-Err-look_after-clause-cut
returns-in-Err-look_after-clause-cut g c =
    let own = entries_at (g.G.Desk.seen c.args.pass.now) (g.G.Desk.mine c.args.pass.now) in
    let own' = entries_at (g.G.Desk.seen c.next.new.pass) (g.G.Desk.mine c.next.new.pass) in
    let new = stand (entries_at (g.G.Desk.seen c.sweep.new.pass) (g.G.Desk.mine c.sweep.new.pass)) (g.C.Clock.given c.sweep.new.clock)
    (g.A.Actuators.whole c.sweep.new.devices) (g.A.Actuators.calls c.sweep.new.devices) in
    let own'' = entries_at (g.G.Desk.seen c.look_after.new.pass) (g.G.Desk.mine c.look_after.new.pass) in
    cut_look_at (g.G.Desk.plant c.args.desk.now) c.args.driver g.C.Clock.tells g.A.Actuators.tells own own' (g.C.Clock.given c.args.clock.now) (g.C.Clock.given c.now.new.self)
    (g.A.Actuators.whole c.args.devices.now) (g.A.Actuators.calls c.args.devices.now) (watch c.args.now.now c.args.guards.now)
    c.in-Ok.reading c.max.result None c.max.ensures
    (c.in-Ok-None.ensures.done ∙ ap (λ want. own ++ Did 0 (Next c.args.driver) c.max.result (answer_to want) ∷ []) c.in-Ok-None.field-0-is)
    c.in-Ok.ensures.moments new refl (watch c.sweep.new.now c.sweep.new.guards) c.in-Ok-false.field-0 c.in-Ok-false.field-0-test c.in-Ok-false.ensures.swept
    own'' (g.A.Actuators.whole c.look_after.new.devices) (g.A.Actuators.calls c.look_after.new.devices) c.look_after.ensures.calls c.look_after.ensures.whole c.in-Err-look_after.end c.in-Err-look_after.ensures.cut

-- none was written, and its devices looked
pub returns-in-Ok-look_after-clause-taken : goal.returns-in-Ok-look_after-clause-taken
returns-in-Ok-look_after-clause-taken g c =
    let own = entries_at (g.G.Desk.seen c.args.pass.now) (g.G.Desk.mine c.args.pass.now) in
    let own' = entries_at (g.G.Desk.seen c.next.new.pass) (g.G.Desk.mine c.next.new.pass) in
    let new = stand (entries_at (g.G.Desk.seen c.sweep.new.pass) (g.G.Desk.mine c.sweep.new.pass)) (g.C.Clock.given c.sweep.new.clock)
    (g.A.Actuators.whole c.sweep.new.devices) (g.A.Actuators.calls c.sweep.new.devices) in
    let own'' = entries_at (g.G.Desk.seen c.look_after.new.pass) (g.G.Desk.mine c.look_after.new.pass) in
    looked_turn_at (g.G.Desk.plant c.args.desk.now) c.args.driver g.C.Clock.tells g.A.Actuators.tells own own' (g.C.Clock.given c.args.clock.now) (g.C.Clock.given c.now.new.self)
    (g.A.Actuators.whole c.args.devices.now) (g.A.Actuators.calls c.args.devices.now) (watch c.args.now.now c.args.guards.now)
    c.in-Ok.reading c.max.result None c.max.ensures
    (c.in-Ok-None.ensures.done ∙ ap (λ want. own ++ Did 0 (Next c.args.driver) c.max.result (answer_to want) ∷ []) c.in-Ok-None.field-0-is)
    c.in-Ok.ensures.moments new refl (watch c.sweep.new.now c.sweep.new.guards) c.in-Ok-false.field-0 c.in-Ok-false.field-0-test c.in-Ok-false.ensures.swept
    own'' (g.A.Actuators.whole c.look_after.new.devices) (g.A.Actuators.calls c.look_after.new.devices) c.look_after.ensures.calls c.look_after.ensures.whole c.min.result c.in-Ok-look_after.ensures.looked

-- a want was given
pub returns-in-Err-try_given-clause-cut : goal.returns-in-Err-try_given-clause-cut
returns-in-Err-try_given-clause-cut g c =
    let own = entries_at (g.G.Desk.seen c.args.pass.now) (g.G.Desk.mine c.args.pass.now) in
    let own' = entries_at (g.G.Desk.seen c.next.new.pass) (g.G.Desk.mine c.next.new.pass) in
    let new = stand (entries_at (g.G.Desk.seen c.try_given.new.pass) (g.G.Desk.mine c.try_given.new.pass)) (g.C.Clock.given c.try_given.new.clock)
    (g.A.Actuators.whole c.try_given.new.devices) (g.A.Actuators.calls c.try_given.new.devices) in
    let mid = stand own' (g.C.Clock.given c.now.new.self) (g.A.Actuators.whole c.args.devices.now) (g.A.Actuators.calls c.args.devices.now) in
    let fits : SFits w64 c.in-Ok-Some.want.value = search rules in
    let want : Due = record { point = c.in-Ok-Some.want.point; version = c.in-Ok-Some.want.version; value = c.in-Ok-Some.want.value } in
    turn_cut_at (g.G.Desk.plant c.args.desk.now) c.args.driver g.C.Clock.tells g.A.Actuators.tells own own' (g.C.Clock.given c.args.clock.now) (g.C.Clock.given c.now.new.self)
    (g.A.Actuators.whole c.args.devices.now) (g.A.Actuators.calls c.args.devices.now) (watch c.args.now.now c.args.guards.now)
    c.in-Ok.reading c.max.result (Some want) c.max.ensures
    (c.in-Ok-Some.ensures.done ∙ ap (λ want. own ++ Did 0 (Next c.args.driver) c.max.result (answer_to want) ∷ []) c.in-Ok-Some.field-0-is)
    c.in-Ok.ensures.moments new c.in-Err-try_given.end
    (subst (λ value. SweptCut g.C.Clock.tells g.A.Actuators.tells mid new (watch c.max.result c.args.guards.now)
    (record { point = want.point; version = want.version; value = value } ∷ due_from 0 (Some want.point) c.args.guards.now) c.in-Err-try_given.end)
    (to_z-of_z w64 want.value fits) c.in-Err-try_given.ensures.cut)

pub returns-in-Ok-true-try_given-clause-taken : goal.returns-in-Ok-true-try_given-clause-taken
returns-in-Ok-true-try_given-clause-taken g c =
    let own = entries_at (g.G.Desk.seen c.args.pass.now) (g.G.Desk.mine c.args.pass.now) in
    let own' = entries_at (g.G.Desk.seen c.next.new.pass) (g.G.Desk.mine c.next.new.pass) in
    let new = stand (entries_at (g.G.Desk.seen c.try_given.new.pass) (g.G.Desk.mine c.try_given.new.pass)) (g.C.Clock.given c.try_given.new.clock)
    (g.A.Actuators.whole c.try_given.new.devices) (g.A.Actuators.calls c.try_given.new.devices) in
    let mid = stand own' (g.C.Clock.given c.now.new.self) (g.A.Actuators.whole c.args.devices.now) (g.A.Actuators.calls c.args.devices.now) in
    let fits : SFits w64 c.in-Ok-Some.want.value = search rules in
    let want : Due = record { point = c.in-Ok-Some.want.point; version = c.in-Ok-Some.want.version; value = c.in-Ok-Some.want.value } in
    turn_at (g.G.Desk.plant c.args.desk.now) c.args.driver g.C.Clock.tells g.A.Actuators.tells own own' (g.C.Clock.given c.args.clock.now) (g.C.Clock.given c.now.new.self)
    (g.A.Actuators.whole c.args.devices.now) (g.A.Actuators.calls c.args.devices.now) (watch c.args.now.now c.args.guards.now)
    c.in-Ok.reading c.max.result (Some want) c.max.ensures
    (c.in-Ok-Some.ensures.done ∙ ap (λ want. own ++ Did 0 (Next c.args.driver) c.max.result (answer_to want) ∷ []) c.in-Ok-Some.field-0-is)
    c.in-Ok.ensures.moments new (watch c.try_given.new.now c.try_given.new.guards) c.in-Ok-true-try_given.field-0 None (sym c.in-Ok-true-try_given.field-0-test)
    (subst (λ value. Swept g.C.Clock.tells g.A.Actuators.tells mid new (watch c.max.result c.args.guards.now)
    (record { point = want.point; version = want.version; value = value } ∷ due_from 0 (Some want.point) c.args.guards.now)
    (watch c.try_given.new.now c.try_given.new.guards) [] c.in-Ok-true-try_given.field-0) (to_z-of_z w64 want.value fits) c.in-Ok-true-try_given.ensures.swept)

pub returns-in-Ok-false-try_given-clause-taken : goal.returns-in-Ok-false-try_given-clause-taken
returns-in-Ok-false-try_given-clause-taken g c =
    let own = entries_at (g.G.Desk.seen c.args.pass.now) (g.G.Desk.mine c.args.pass.now) in
    let own' = entries_at (g.G.Desk.seen c.next.new.pass) (g.G.Desk.mine c.next.new.pass) in
    let new = stand (entries_at (g.G.Desk.seen c.try_given.new.pass) (g.G.Desk.mine c.try_given.new.pass)) (g.C.Clock.given c.try_given.new.clock)
    (g.A.Actuators.whole c.try_given.new.devices) (g.A.Actuators.calls c.try_given.new.devices) in
    let mid = stand own' (g.C.Clock.given c.now.new.self) (g.A.Actuators.whole c.args.devices.now) (g.A.Actuators.calls c.args.devices.now) in
    let fits : SFits w64 c.in-Ok-Some.want.value = search rules in
    let want : Due = record { point = c.in-Ok-Some.want.point; version = c.in-Ok-Some.want.version; value = c.in-Ok-Some.want.value } in
    turn_at (g.G.Desk.plant c.args.desk.now) c.args.driver g.C.Clock.tells g.A.Actuators.tells own own' (g.C.Clock.given c.args.clock.now) (g.C.Clock.given c.now.new.self)
    (g.A.Actuators.whole c.args.devices.now) (g.A.Actuators.calls c.args.devices.now) (watch c.args.now.now c.args.guards.now)
    c.in-Ok.reading c.max.result (Some want) c.max.ensures
    (c.in-Ok-Some.ensures.done ∙ ap (λ want. own ++ Did 0 (Next c.args.driver) c.max.result (answer_to want) ∷ []) c.in-Ok-Some.field-0-is)
    c.in-Ok.ensures.moments new (watch c.try_given.new.now c.try_given.new.guards) c.in-Ok-false-try_given.field-0 (Some c.rest_of-in-Ok-false-try_given.result) (sym c.in-Ok-false-try_given.field-0-test)
    (subst (λ value. Swept g.C.Clock.tells g.A.Actuators.tells mid new (watch c.max.result c.args.guards.now)
    (record { point = want.point; version = want.version; value = value } ∷ due_from 0 (Some want.point) c.args.guards.now)
    (watch c.try_given.new.now c.try_given.new.guards) [] c.in-Ok-false-try_given.field-0) (to_z-of_z w64 want.value fits) c.in-Ok-false-try_given.ensures.swept)
