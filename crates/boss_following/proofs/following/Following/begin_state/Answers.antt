use Rattle.std.proofs.Common.{ℕ, ◌<◌, ◌≤◌, [], List, sym, ap, ◌∙◌, subst, arith}
use Rattle.boss_durable.specs.Words.{lasting}
use Rattle.boss_following.specs.Moves.{Steps}
use Rattle.boss_following.specs.Places.{spot}
use Rattle.boss_following.proofs.Stepping.{at-fault, goes-on, state-known, state-new, state-refused, steps-as, steps-from}
use Rattle.def_feed.specs.Followers as feed
use Rattle.def_feed.specs.Followers.{of_state, On, taking}
use Rattle.boss_following.proofs.following.Following.begin_state.Goals as goal

pub returns-then-not-may_be : goal.returns-then-not-may_be
returns-then-not-may_be g c =
    let old = c.args.durable.now in
    let self = c.args.self.now in
    at-fault old.engine.plant old self self c.requires.going (of_state (spot old self) c.args.number c.args.size)
    (state-refused (spot old self) c.args.number c.args.size (sym c.may_be.ensures ∙ c.if-not-may_be.true))

pub invariant_of-self : goal.invariant_of-self
invariant_of-self g c = record { within = c.passing-self.ensures.within c.args.self.now.state.items }

pub returns-then-number-events : goal.returns-then-number-events
returns-then-number-events g c =
    let old = c.args.durable.now in
    let self = c.args.self.now in
    let known : c.args.number ≤ old.disks.events = omega (arith, c.if-number-events.true, c.events.ensures.is) in
    goes-on old.engine.plant old self _ c.requires.going (of_state (spot old self) c.args.number c.args.size)
    (state-known (spot old self) c.args.number c.args.size (sym c.may_be.ensures ∙ c.if-not-may_be.false) known
    ∙ ap (λ (p : feed.Place). On (record { lasting = lasting old; count = old.disks.events; place = p })) (sym (c.passing-self.ensures.place self.state.items)))

pub returns : goal.returns
returns g c =
    let old = c.args.durable.now in
    let self = c.args.self.now in
    let new = c.take_if_whole.new.durable in
    let to = c.take_if_whole.new.self in
    let after : old.disks.events < c.args.number = omega (arith, c.if-number-events.false, c.events.ensures.is) in
    steps-as old.engine.plant (of_state (spot old self) c.args.number c.args.size) (taking (spot old self) c.args.number c.args.size []) old self new to c.take_if_whole.result
    (state-new (spot old self) c.args.number c.args.size (sym c.may_be.ensures ∙ c.if-not-may_be.false) after)
    (subst (λ (b : List ℕ). Steps old.engine.plant (taking (spot old self) c.args.number c.args.size b) old self new to c.take_if_whole.result) c.clear.ensures.items
    (steps-from old.engine.plant (taking (spot old self) c.args.number c.args.size c.clear.new.self.items) old self _ new to c.take_if_whole.result c.take_if_whole.ensures))
