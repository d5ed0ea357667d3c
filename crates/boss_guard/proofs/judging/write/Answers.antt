use mir.Val.{SFits}
use Rattle.std.proofs.lemmas.Int.{to_z-of_z}
use Rattle.std.proofs.Common.{w64, is_ok, rules, [], ◌∷◌, ◌++◌, ap, sym, ◌∙◌, subst}
use Rattle.boss_model.specs.declared.command.Command.TheVariants.{Report}
use Rattle.boss_expiry.specs.Ends.{IsCut}
use Rattle.boss_lock.specs.Places.{entries_at}
use Rattle.def_guards.specs.Acts.{decided}
use Rattle.boss_guard.proofs.Verdicts.{cut_clock, cut_report}
use Rattle.boss_guard.proofs.judging.write.Goals as goal

-- the clock failed after the write
pub returns-in_default-clause-cut : goal.returns-in_default-clause-cut
returns-in_default-clause-cut g c =
    let own = entries_at (g.G.Desk.seen c.args.pass.now) (g.G.Desk.mine c.args.pass.now) in
    let calls = g.A.Actuators.calls c.args.devices.now in
    let want = c.args.want.now in
    cut_clock g.C.Clock.tells g.A.Actuators.tells own own (g.C.Clock.given c.args.clock.now) (g.C.Clock.given c.now.new.self)
    (g.A.Actuators.whole c.args.devices.now) (g.A.Actuators.whole c.write.new.self) calls (g.A.Actuators.calls c.write.new.self) (decided want c.args.now.now) c.is_ok-ok.result
    (λ tells is. let fits : SFits w64 want.value = search rules in let noted = c.write.ensures.recorded tells is in (
      noted.0,
      noted.1
          ∙ ap (λ value. calls ++ record { point = want.point; value = value; ok = is_ok c.write.result } ∷ []) (to_z-of_z w64 want.value fits)
          ∙ ap (λ ok. calls ++ record { point = want.point; value = want.value; ok = ok } ∷ []) (sym c.is_ok-ok.ensures.value),
    ))
    c.in_default.ensures.moments

-- the disk failed at the report
pub returns-in-Err-clause-cut : goal.returns-in-Err-clause-cut
returns-in-Err-clause-cut g c =
    let own = entries_at (g.G.Desk.seen c.args.pass.now) (g.G.Desk.mine c.args.pass.now) in
    let own' = entries_at (g.G.Desk.seen c.work.new.pass) (g.G.Desk.mine c.work.new.pass) in
    let calls = g.A.Actuators.calls c.args.devices.now in
    let want = c.args.want.now in
    cut_report g.C.Clock.tells g.A.Actuators.tells own own' (g.C.Clock.given c.args.clock.now) (g.C.Clock.given c.now.new.self)
    (g.A.Actuators.whole c.args.devices.now) (g.A.Actuators.whole c.write.new.self) calls (g.A.Actuators.calls c.write.new.self) (decided want c.args.now.now) c.is_ok-ok.result
    (λ tells is. let fits : SFits w64 want.value = search rules in let noted = c.write.ensures.recorded tells is in (
      noted.0,
      noted.1
          ∙ ap (λ value. calls ++ record { point = want.point; value = value; ok = is_ok c.write.result } ∷ []) (to_z-of_z w64 want.value fits)
          ∙ ap (λ ok. calls ++ record { point = want.point; value = want.value; ok = ok } ∷ []) (sym c.is_ok-ok.ensures.value),
    ))
    c.in-Ok.told (g.G.Desk.seen c.work.new.pass) c.in-Err.end
    (subst (λ moment. IsCut (Report want.point want.version c.is_ok-ok.result) moment own own' (g.G.Desk.seen c.work.new.pass) c.in-Err.end) c.max.ensures c.in-Err.ensures.cut) c.in-Ok.ensures.moments
