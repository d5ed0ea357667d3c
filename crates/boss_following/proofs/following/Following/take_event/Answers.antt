use Rattle.std.proofs.Common.{◌+◌, ◌<◌, ◌≤◌, sym, ap, ◌∙◌, arith}
use Rattle.boss_following.specs.Places.{spot}
use Rattle.boss_following.proofs.Stepping.{at-fault, event-known, event-missing, event-next, event-numbered, goes-on, is-late, steps-as}
use Rattle.def_feed.specs.Followers.{Gap, Next, of_event}
use Rattle.boss_following.proofs.following.Following.take_event.Goals as goal

pub returns-then-number-have : goal.returns-then-number-have
returns-then-number-have g c =
    let old = c.args.durable.now in
    let self = c.args.self.now in
    let known : c.args.number ≤ old.disks.events = omega (arith, c.if-number-have.true, c.events-have.ensures.is) in
    goes-on old.engine.plant old self self c.requires.going (of_event (spot old self) c.args.number self.reader.told) (event-known (spot old self) c.args.number self.reader.told known)

pub returns-then-number-have-gt1 : goal.returns-then-number-have-gt1
returns-then-number-have-gt1 g c =
    let old = c.args.durable.now in
    let self = c.args.self.now in
    let late : old.disks.events + 1 < c.args.number = omega (arith, c.if-number-have-gt1.true, c.events-have.ensures.is) in
    is-late old.engine.plant old self self c.requires.going (of_event (spot old self) c.args.number self.reader.told) c.events-have.result c.args.number
    (event-missing (spot old self) c.args.number self.reader.told late ∙ ap (λ n. Gap n c.args.number) (sym c.events-have.ensures.is))

pub returns-then-number-gt-LAST_NUMBER : goal.returns-then-number-gt-LAST_NUMBER
returns-then-number-gt-LAST_NUMBER g c =
    let old = c.args.durable.now in
    let self = c.args.self.now in
    let after : old.disks.events < c.args.number = omega (arith, c.if-number-have.false, c.events-have.ensures.is) in
    let one : c.args.number ≤ old.disks.events + 1 = omega (arith, c.if-number-have-gt1.false, c.events-have.ensures.is) in
    at-fault old.engine.plant old self self c.requires.going (of_event (spot old self) c.args.number self.reader.told)
    (event-numbered (spot old self) c.args.number self.reader.told after one c.if-number-gt-LAST_NUMBER.true)

pub returns : goal.returns
returns g c =
    let old = c.args.durable.now in
    let self = c.args.self.now in
    let after : old.disks.events < c.args.number = omega (arith, c.if-number-have.false, c.events-have.ensures.is) in
    let one : c.args.number ≤ old.disks.events + 1 = omega (arith, c.if-number-have-gt1.false, c.events-have.ensures.is) in
    steps-as old.engine.plant (of_event (spot old self) c.args.number self.reader.told) (Next self.reader.told) old self c.append.new.durable c.append.new.self c.append.result
    (event-next (spot old self) c.args.number self.reader.told after one c.if-number-gt-LAST_NUMBER.false) c.append.ensures
