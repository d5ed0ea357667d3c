use Rattle.std.proofs.Common.{◌<◌, ◌≤◌, length, arith}
use Rattle.boss_following.specs.Places.{spot}
use Rattle.boss_following.proofs.Stepping.{goes-on, steps-as, taking-on, taking-whole}
use Rattle.def_feed.specs.Followers.{taking, Whole}
use Rattle.boss_following.proofs.following.Following.take_if_whole.Goals as goal

pub returns-then-len-size : goal.returns-then-len-size
returns-then-len-size g c =
    let old = c.args.durable.now in
    let self = c.args.self.now in
    let less : length self.state.items < c.args.size = omega (arith, c.if-len-size.true, c.len.ensures) in
    goes-on old.engine.plant old self _ c.requires.going (taking (spot old self) c.args.number c.args.size self.state.items)
    (taking-on (spot old self) c.args.number c.args.size self.state.items less)

pub returns : goal.returns
returns g c =
    let old = c.args.durable.now in
    let self = c.args.self.now in
    let least : c.args.size ≤ length self.state.items = omega (arith, c.if-len-size.false, c.len.ensures) in
    steps-as old.engine.plant (taking (spot old self) c.args.number c.args.size self.state.items) (Whole c.args.number self.state.items) old self c.take_state.new.durable c.take_state.new.self c.take_state.result
    (taking-whole (spot old self) c.args.number c.args.size self.state.items c.requires.within least) c.take_state.ensures
