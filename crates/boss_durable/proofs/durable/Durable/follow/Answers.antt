use Rattle.std.proofs.Common.{refl, ap}
use Rattle.boss_durable.proofs.Doing.{unmoved_keeps}
use Rattle.boss_durable.proofs.Followings.{followed_gains, followed_leaves, followed_passes, passed_left, still_leaves, still_passes}
use Rattle.boss_durable.proofs.durable.Durable.follow.Goals as goal

pub returns-in-Ok-append_event-clause-follows : goal.returns-in-Ok-append_event-clause-follows
returns-in-Ok-append_event-clause-follows g c =
    let done = rw c.if-done.true at c.in-Ok.ensures.redoes in
    record {
      leads = done.0;
      opens = done.1;
      gained = followed_gains c.args.self.now _ c.args.event.now c.in-Ok.ensures.plant (λ count at. c.in-Ok-append_event.ensures.rests _ _ _ count at done.0);
    }

pub returns-in-Ok-append_event-clause-passes : goal.returns-in-Ok-append_event-clause-passes
returns-in-Ok-append_event-clause-passes g c =
    let done = rw c.if-done.true at c.in-Ok.ensures.redoes in
    followed_passes c.args.self.now _ c.args.event.now c.replay.new.self.state.persistent done.0 (λ count at. c.append_event.ensures.passes _ _ _ count at done.0)

pub returns-in-Ok-append_event-clause-leaves : goal.returns-in-Ok-append_event-clause-leaves
returns-in-Ok-append_event-clause-leaves g c = followed_leaves c.args.self.now _ c.args.event.now (returns-in-Ok-append_event-clause-follows g c)

pub returns-in-Err-append_event-clause-passes : goal.returns-in-Err-append_event-clause-passes
returns-in-Err-append_event-clause-passes g c =
    let done = rw c.if-done.true at c.in-Ok.ensures.redoes in
    followed_passes c.args.self.now _ c.args.event.now c.replay.new.self.state.persistent done.0 (λ count at. c.append_event.ensures.passes _ _ _ count at done.0)

pub returns-in-Err-append_event-clause-leaves : goal.returns-in-Err-append_event-clause-leaves
returns-in-Err-append_event-clause-leaves g c before held =
    passed_left c.args.self.now _ _ _ c.in-Ok.ensures.plant (returns-in-Err-append_event-clause-passes g c before held)

pub returns-else-done-clause-follows : goal.returns-else-done-clause-follows
returns-else-done-clause-follows g c =
    let done = rw c.if-done.false at c.in-Ok.ensures.redoes in
    (done.0, record { engine = done.1; stays = unmoved_keeps c.args.self.now _ done.1 refl })

pub returns-else-done-clause-passes : goal.returns-else-done-clause-passes
returns-else-done-clause-passes g c = still_passes c.args.self.now _ _ refl

pub returns-else-done-clause-leaves : goal.returns-else-done-clause-leaves
returns-else-done-clause-leaves g c = still_leaves c.args.self.now _ c.in-Ok.ensures.plant refl

pub returns-in-Err-clause-follows : goal.returns-in-Err-clause-follows
returns-in-Err-clause-follows g c = record { engine = c.in-Err.ensures.err; stays = unmoved_keeps c.args.self.now _ c.in-Err.ensures.err refl }

pub returns-in-Err-clause-passes : goal.returns-in-Err-clause-passes
returns-in-Err-clause-passes g c = still_passes c.args.self.now _ _ refl

pub returns-in-Err-clause-leaves : goal.returns-in-Err-clause-leaves
returns-in-Err-clause-leaves g c = still_leaves c.args.self.now _ (ap (λ e. e.plant) c.in-Err.ensures.err) refl
