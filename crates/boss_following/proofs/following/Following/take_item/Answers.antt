use Rattle.std.proofs.Common.{inl, inr}
use Rattle.boss_durable.specs.Words.{lasting}
use Rattle.boss_feed_lines.specs.Told.{item_with}
use Rattle.boss_following.specs.Places.{place_of, spot}
use Rattle.boss_following.proofs.Moving.{idle}
use Rattle.boss_following.proofs.Stepping.{at-fault, steps-as}
use Rattle.def_feed.specs.Followers as feed
use Rattle.def_feed.specs.Followers.{step_at, step_of}
use Rattle.def_feed.specs.Items.{PartLine}
use Rattle.boss_following.proofs.following.Following.take_item.Goals as goal

pub returns-in-Part : goal.returns-in-Part
returns-in-Part g c =
    let old = c.args.durable.now in
    let self = c.args.self.now in
    at-fault old.engine.plant old self self c.requires.going (step_of (spot old self) (item_with self.reader.told c.args.item))
    (λ i. step_at (spot old self) (place_of (c.in-Between.is i) self.state.items) (item_with self.reader.told (c.in-Part.is i)))

pub returns-in-Part-item : goal.returns-in-Part-item
returns-in-Part-item g c =
    let old = c.args.durable.now in
    let self = c.args.self.now in
    let to = c.pass_part.new.self in
    let step = step_at (spot old self) (feed.Passing c.in-Passing.left) (PartLine self.reader.told) in
    steps-as old.engine.plant (step_of (spot old self) (item_with self.reader.told c.args.item)) step old self old to c.pass_part.result
    (λ i. step_at (spot old self) (place_of (c.in-Passing.is i) self.state.items) (item_with self.reader.told (c.in-Part-item.is i)))
    (idle old.engine.plant step old self to c.pass_part.result c.requires.going c.pass_part.ensures.fine (c.pass_part.ensures.moves old.engine.plant (lasting old) old.disks.events))

pub returns-in-State-item : goal.returns-in-State-item
returns-in-State-item g c =
    let old = c.args.durable.now in
    let self = c.args.self.now in
    at-fault old.engine.plant old self self c.requires.going (step_of (spot old self) (item_with self.reader.told c.args.item))
    (elim c.in-State-item.is [
      | inl state ↦ λ i. step_at (spot old self) (place_of (c.in-Passing.is i) self.state.items) (item_with self.reader.told (state.2 i))
      | inr event ↦ λ i. step_at (spot old self) (place_of (c.in-Passing.is i) self.state.items) (item_with self.reader.told (event.1 i))
    ])

pub returns-in-State-item-2 : goal.returns-in-State-item-2
returns-in-State-item-2 g c =
    let old = c.args.durable.now in
    let self = c.args.self.now in
    at-fault old.engine.plant old self self c.requires.going (step_of (spot old self) (item_with self.reader.told c.args.item))
    (elim c.in-State-item-2.is [
      | inl state ↦ λ i. step_at (spot old self) (place_of (c.in-Taking.is i) self.state.items) (item_with self.reader.told (state.2 i))
      | inr event ↦ λ i. step_at (spot old self) (place_of (c.in-Taking.is i) self.state.items) (item_with self.reader.told (event.1 i))
    ])
