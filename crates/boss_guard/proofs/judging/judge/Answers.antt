use mir.Val.{SFits}
use Rattle.std.proofs.lemmas.Int.{to_z-of_z}
use Rattle.std.proofs.Common.{w64, rules, ap, sym, ◌∙◌}
use Rattle.boss_lock.specs.Places.{entries_at}
use Rattle.def_guards.specs.Guards.{is_free, shown_by}
use Rattle.def_guards.specs.Acts.{decided}
use Rattle.boss_guard.proofs.Verdicts.{judged_by}
use Rattle.boss_guard.proofs.judging.judge.Goals as goal

-- the point was read
pub returns-clause-judged : goal.returns-clause-judged
returns-clause-judged g c =
    let want = c.args.want.now in
    let fits : SFits w64 want.value = search rules in
    judged_by c.args.guard.now (decided want c.args.now) (entries_at (g.G.Desk.seen c.args.pass.now) (g.G.Desk.mine c.args.pass.now))
    (entries_at (g.G.Desk.seen c.work.new.pass) (g.G.Desk.mine c.work.new.pass)) c.in-Ok.answer c.shows.result
    (sym (c.if-is_free.ensures ∙ ap (λ value. is_free c.args.guard.now value c.args.now) (to_z-of_z w64 want.value fits)))
    c.in-Ok.ensures.done (c.shows.ensures ∙ ap (shown_by c.in-Ok.answer) (to_z-of_z w64 want.value fits))
