use Rattle.std.proofs.Common.{Some, None, refl, sym, ◌∙◌}
use Rattle.boss_feed_lines.specs.Told.{item_with}
use Rattle.boss_following.specs.Places.{spot}
use Rattle.boss_following.proofs.Lines.{blank-step, other-step}
use Rattle.boss_following.proofs.Stepping.{at-fault, goes-on, steps-from}
use Rattle.def_feed.specs.Followers.{Fault, On, step_of}
use Rattle.boss_following.proofs.following.Following.take_line.Goals as goal

pub returns-then-is_blank : goal.returns-then-is_blank
returns-then-is_blank g c =
    let old = c.args.durable.now in
    let self = c.args.self.now in (
      On (spot old self),
      blank-step (spot old self) c.args.line.now (On (spot old self)) (sym c.is_blank.ensures ∙ c.if-is_blank.true) refl,
      goes-on old.engine.plant old self self c.requires.going (On (spot old self)) refl,
    )

pub returns-in-None : goal.returns-in-None
returns-in-None g c =
    let old = c.args.durable.now in
    let self = c.args.self.now in (
      Fault,
      other-step (spot old self) c.args.line.now Fault None (sym c.is_blank.ensures ∙ c.if-is_blank.false) c.in-None.ensures refl,
      at-fault old.engine.plant old self _ c.requires.going Fault refl,
    )

pub returns-in-Some : goal.returns-in-Some
returns-in-Some g c =
    let old = c.args.durable.now in
    let self = c.args.self.now in
    let item = item_with c.read.new.self.told c.in-Some.item in
    let step = step_of (spot old self) item in (
      step,
      other-step (spot old self) c.args.line.now step (Some item) (sym c.is_blank.ensures ∙ c.if-is_blank.false) c.in-Some.ensures refl,
      steps-from old.engine.plant step old self _ c.take_item.new.durable c.take_item.new.self c.take_item.result c.take_item.ensures,
    )
