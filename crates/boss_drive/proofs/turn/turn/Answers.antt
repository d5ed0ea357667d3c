use mir.Val.{SFits}
use Rattle.std.proofs.lemmas.Int.{to_z-of_z}
use Rattle.std.proofs.Common.{w64, is_ok, rules, [], ◌∷◌, ◌++◌, ap, sym, ◌∙◌}
use Rattle.boss_model.specs.declared.command.Command.TheVariants.{Next}
use Rattle.boss_lock.specs.Places.{entries_at}
use Rattle.def_history.specs.declared.entry.Entry.TheVariants.{Did}
use Rattle.boss_drive.specs.Wants.{answer_to}
use Rattle.boss_drive.specs.Driving.{Write}
use Rattle.boss_drive.proofs.Turns.{cut_next, looked_turn, cut_look, cut_reading, cut_report, served_turn}
use Rattle.boss_drive.proofs.turn.turn.Goals as goal

-- the disk failed at the Next
pub returns-in-Err-clause-cut : goal.returns-in-Err-clause-cut
returns-in-Err-clause-cut g c =
    let own = entries_at (g.G.Desk.seen c.args.pass.now) (g.G.Desk.mine c.args.pass.now) in
    let own' = entries_at (g.G.Desk.seen c.next.new.pass) (g.G.Desk.mine c.next.new.pass) in
    let given = g.C.Clock.given c.args.clock.now in
    let given' = g.C.Clock.given c.now.new.self in
    let whole = g.A.Actuators.whole c.args.devices.now in
    let calls = g.A.Actuators.calls c.args.devices.now in
    cut_next (g.G.Desk.plant c.args.desk.now) c.args.driver g.C.Clock.tells g.A.Actuators.tells own own' own' given given' given' whole whole calls calls c.in-Ok.moment (g.G.Desk.seen c.next.new.pass) c.in-Err.end c.in-Err.ensures.cut c.in-Ok.ensures.moments

-- there was no want, and its devices looked
pub returns-in-Ok-look_after-clause-served : goal.returns-in-Ok-look_after-clause-served
returns-in-Ok-look_after-clause-served g c =
    let own = entries_at (g.G.Desk.seen c.args.pass.now) (g.G.Desk.mine c.args.pass.now) in
    let own' = entries_at (g.G.Desk.seen c.next.new.pass) (g.G.Desk.mine c.next.new.pass) in
    let own'' = entries_at (g.G.Desk.seen c.look_after.new.pass) (g.G.Desk.mine c.look_after.new.pass) in
    let given = g.C.Clock.given c.args.clock.now in
    let given' = g.C.Clock.given c.now.new.self in
    let whole = g.A.Actuators.whole c.args.devices.now in
    let calls = g.A.Actuators.calls c.args.devices.now in
    let whole' = g.A.Actuators.whole c.look_after.new.devices in
    let calls' = g.A.Actuators.calls c.look_after.new.devices in
    looked_turn (g.G.Desk.plant c.args.desk.now) c.args.driver g.C.Clock.tells g.A.Actuators.tells own own' own'' given given' given' whole whole' calls calls' c.in-Ok.moment
    (c.in-Ok-None.ensures.done ∙ ap (λ want. own ++ Did 0 (Next c.args.driver) c.in-Ok.moment (answer_to want) ∷ []) c.in-Ok-None.field-0-is) c.in-Ok.ensures.moments c.look_after.ensures.calls c.look_after.ensures.whole
    c.in-Ok-look_after.rest c.in-Ok-look_after.ensures.looked

-- the disk failed at the doubt
pub returns-in-Err-look_after-clause-cut : goal.returns-in-Err-look_after-clause-cut
returns-in-Err-look_after-clause-cut g c =
    let own = entries_at (g.G.Desk.seen c.args.pass.now) (g.G.Desk.mine c.args.pass.now) in
    let own' = entries_at (g.G.Desk.seen c.next.new.pass) (g.G.Desk.mine c.next.new.pass) in
    let own'' = entries_at (g.G.Desk.seen c.look_after.new.pass) (g.G.Desk.mine c.look_after.new.pass) in
    let given = g.C.Clock.given c.args.clock.now in
    let given' = g.C.Clock.given c.now.new.self in
    let whole = g.A.Actuators.whole c.args.devices.now in
    let calls = g.A.Actuators.calls c.args.devices.now in
    let whole' = g.A.Actuators.whole c.look_after.new.devices in
    let calls' = g.A.Actuators.calls c.look_after.new.devices in
    cut_look (g.G.Desk.plant c.args.desk.now) c.args.driver g.C.Clock.tells g.A.Actuators.tells own own' own'' given given' given' whole whole' calls calls' c.in-Ok.moment
    (c.in-Ok-None.ensures.done ∙ ap (λ want. own ++ Did 0 (Next c.args.driver) c.in-Ok.moment (answer_to want) ∷ []) c.in-Ok-None.field-0-is) c.in-Ok.ensures.moments c.look_after.ensures.calls c.look_after.ensures.whole
    c.in-Err-look_after.end c.in-Err-look_after.ensures.cut

-- the clock failed after the write
pub returns-in_default-now-clause-cut : goal.returns-in_default-now-clause-cut
returns-in_default-now-clause-cut g c =
    let own = entries_at (g.G.Desk.seen c.args.pass.now) (g.G.Desk.mine c.args.pass.now) in
    let own' = entries_at (g.G.Desk.seen c.next.new.pass) (g.G.Desk.mine c.next.new.pass) in
    let given = g.C.Clock.given c.args.clock.now in
    let given' = g.C.Clock.given c.now.new.self in
    let whole = g.A.Actuators.whole c.args.devices.now in
    let calls = g.A.Actuators.calls c.args.devices.now in
    let whole' = g.A.Actuators.whole c.write.new.self in
    let calls' = g.A.Actuators.calls c.write.new.self in
    let given'' = g.C.Clock.given c.now-2.new.self in
    let w : Write = record { moment = c.in-Ok.moment; point = c.in-Ok-Some.want.point; version = c.in-Ok-Some.want.version; value = c.in-Ok-Some.want.value; ok = c.is_ok-ok.result } in
    cut_reading (g.G.Desk.plant c.args.desk.now) c.args.driver g.C.Clock.tells g.A.Actuators.tells own own' own' given given' given'' whole whole' calls calls' w (c.in-Ok-Some.ensures.done ∙ ap (λ want. own ++ Did 0 (Next c.args.driver) c.in-Ok.moment (answer_to want) ∷ []) c.in-Ok-Some.field-0-is) c.in-Ok.ensures.moments
    (λ tells is. let fits : SFits w64 c.in-Ok-Some.want.value = search rules in let noted = c.write.ensures.recorded tells is in (noted.0, noted.1 ∙ ap (λ value. calls ++ record { point = c.in-Ok-Some.want.point; value = value; ok = is_ok c.write.result } ∷ []) (to_z-of_z w64 c.in-Ok-Some.want.value fits) ∙ ap (λ ok. calls ++ record { point = c.in-Ok-Some.want.point; value = c.in-Ok-Some.want.value; ok = ok } ∷ []) (sym c.is_ok-ok.ensures.value)))
    c.in_default-now.ensures.moments

-- the disk failed at the report
pub returns-in-Err-work-clause-cut : goal.returns-in-Err-work-clause-cut
returns-in-Err-work-clause-cut g c =
    let own = entries_at (g.G.Desk.seen c.args.pass.now) (g.G.Desk.mine c.args.pass.now) in
    let own' = entries_at (g.G.Desk.seen c.next.new.pass) (g.G.Desk.mine c.next.new.pass) in
    let given = g.C.Clock.given c.args.clock.now in
    let given' = g.C.Clock.given c.now.new.self in
    let whole = g.A.Actuators.whole c.args.devices.now in
    let calls = g.A.Actuators.calls c.args.devices.now in
    let whole' = g.A.Actuators.whole c.write.new.self in
    let calls' = g.A.Actuators.calls c.write.new.self in
    let given'' = g.C.Clock.given c.now-2.new.self in
    let w : Write = record { moment = c.in-Ok.moment; point = c.in-Ok-Some.want.point; version = c.in-Ok-Some.want.version; value = c.in-Ok-Some.want.value; ok = c.is_ok-ok.result } in
    let own'' = entries_at (g.G.Desk.seen c.work.new.pass) (g.G.Desk.mine c.work.new.pass) in
    cut_report (g.G.Desk.plant c.args.desk.now) c.args.driver g.C.Clock.tells g.A.Actuators.tells own own' own'' given given' given'' whole whole' calls calls' w (c.in-Ok-Some.ensures.done ∙ ap (λ want. own ++ Did 0 (Next c.args.driver) c.in-Ok.moment (answer_to want) ∷ []) c.in-Ok-Some.field-0-is) c.in-Ok.ensures.moments
    (λ tells is. let fits : SFits w64 c.in-Ok-Some.want.value = search rules in let noted = c.write.ensures.recorded tells is in (noted.0, noted.1 ∙ ap (λ value. calls ++ record { point = c.in-Ok-Some.want.point; value = value; ok = is_ok c.write.result } ∷ []) (to_z-of_z w64 c.in-Ok-Some.want.value fits) ∙ ap (λ ok. calls ++ record { point = c.in-Ok-Some.want.point; value = c.in-Ok-Some.want.value; ok = ok } ∷ []) (sym c.is_ok-ok.ensures.value)))
    c.in-Ok-now.told (g.G.Desk.seen c.work.new.pass) c.in-Err-work.end c.in-Err-work.ensures.cut c.in-Ok-now.ensures.moments

pub returns-clause-served : goal.returns-clause-served
returns-clause-served g c =
    let own = entries_at (g.G.Desk.seen c.args.pass.now) (g.G.Desk.mine c.args.pass.now) in
    let own' = entries_at (g.G.Desk.seen c.next.new.pass) (g.G.Desk.mine c.next.new.pass) in
    let given = g.C.Clock.given c.args.clock.now in
    let given' = g.C.Clock.given c.now.new.self in
    let whole = g.A.Actuators.whole c.args.devices.now in
    let calls = g.A.Actuators.calls c.args.devices.now in
    let whole' = g.A.Actuators.whole c.write.new.self in
    let calls' = g.A.Actuators.calls c.write.new.self in
    let given'' = g.C.Clock.given c.now-2.new.self in
    let w : Write = record { moment = c.in-Ok.moment; point = c.in-Ok-Some.want.point; version = c.in-Ok-Some.want.version; value = c.in-Ok-Some.want.value; ok = c.is_ok-ok.result } in
    let own'' = entries_at (g.G.Desk.seen c.work.new.pass) (g.G.Desk.mine c.work.new.pass) in
    served_turn (g.G.Desk.plant c.args.desk.now) c.args.driver g.C.Clock.tells g.A.Actuators.tells own own' own'' given given' given'' whole whole' calls calls' w (c.in-Ok-Some.ensures.done ∙ ap (λ want. own ++ Did 0 (Next c.args.driver) c.in-Ok.moment (answer_to want) ∷ []) c.in-Ok-Some.field-0-is) c.in-Ok.ensures.moments
    (λ tells is. let fits : SFits w64 c.in-Ok-Some.want.value = search rules in let noted = c.write.ensures.recorded tells is in (noted.0, noted.1 ∙ ap (λ value. calls ++ record { point = c.in-Ok-Some.want.point; value = value; ok = is_ok c.write.result } ∷ []) (to_z-of_z w64 c.in-Ok-Some.want.value fits) ∙ ap (λ ok. calls ++ record { point = c.in-Ok-Some.want.point; value = c.in-Ok-Some.want.value; ok = ok } ∷ []) (sym c.is_ok-ok.ensures.value)))
    c.in-Ok-now.told c.in-Ok-work.field-0 c.in-Ok-work.ensures.done c.in-Ok-now.ensures.moments
