use Rattle.std.proofs.Common.{Result, sym, subst, ◌∙◌}
use Rattle.std.proofs.lemmas.Result.{err_from_is_err_and}
use Rattle.boss_following.specs.Moves.{Steps}
use Rattle.boss_following.specs.declared.stop.Stop.{Stop}
use Rattle.boss_following.proofs.Moving.{state-steps}
use Rattle.boss_following.proofs.Stepping.{no-state-there}
use Rattle.boss_model.specs.Seen.{seen}
use Rattle.def_feed.specs.Followers.{Whole}
use Rattle.boss_following.proofs.following.Following.take_state.Goals as goal

pub returns-in_err-kept : goal.returns-in_err-kept
returns-in_err-kept g c =
    let p = err_from_is_err_and c.from_residual.result c.from_residual.ensures.1 in
    rw (p.1, p.2)
    (no-state-there c.args.durable.now.engine.plant c.args.durable.now c.args.self.now c.read_state.new.self c.requires.going c.args.number c.args.self.now.state.items c.in_err-kept.field-0.0
    c.in_err-kept.ensures.wrong)

pub returns : goal.returns
returns g c =
    let old = c.args.durable.now in
    let new = c.take_state.new.self in
    let from = c.args.self.now in
    let to = c.read_state.new.self in
    let done = c.take_state.ensures in
    subst (λ (r : Result (Unit {0}) Stop). Steps old.engine.plant (Whole c.args.number from.state.items) old from new to r) (sym c.done.ensures)
    (state-steps old new from to (seen c.in_ok-kept.kept) c.args.number from.state.items c.in_ok-kept.ensures.is c.in_ok-kept.ensures.place c.requires.few c.take_state.result
    (done.stopped ∙ c.requires.going) done.count done.takes done.passes done.cause done.stops done.plant done.limit done.digest)
