use Rattle.std.proofs.Common.{Result, sym, subst, ◌∙◌}
use Rattle.std.proofs.lemmas.Result.{err_from_is_err_and}
use Rattle.boss_following.specs.Moves.{Steps}
use Rattle.boss_following.specs.declared.stop.Stop.{Stop}
use Rattle.boss_following.proofs.Moving.{event-steps}
use Rattle.boss_following.proofs.Stepping.{no-event-there}
use Rattle.def_feed.specs.Followers.{Next}
use Rattle.boss_following.proofs.following.Following.append.Goals as goal

pub returns-in_err-event : goal.returns-in_err-event
returns-in_err-event g c =
    let p = err_from_is_err_and c.from_residual.result c.from_residual.ensures.1 in
    rw (p.1, p.2)
    (no-event-there c.args.durable.now.engine.plant c.args.durable.now c.args.self.now c.args.self.now c.requires.going c.bytes.result.now c.args.self.now.reader.told c.in_err-event.field-0.0
    c.bytes.ensures c.in_err-event.ensures.wrong)

pub returns : goal.returns
returns g c =
    let old = c.args.durable.now in
    let new = c.follow_event.new.self in
    let from = c.args.self.now in
    let done = c.follow_event.ensures in
    subst (λ (r : Result (Unit {0}) Stop). Steps old.engine.plant (Next from.reader.told) old from new from r) (sym c.done.ensures)
    (event-steps old new from from c.in_ok-event.event from.reader.told c.in_ok-event.ensures.fits (sym c.bytes.ensures ∙ c.in_ok-event.ensures.is) c.requires.place c.requires.few
    c.follow_event.result (done.stopped ∙ c.requires.going) done.events done.follows done.passes done.cause done.stops done.plant done.limit done.digest)
