use Rattle.std.proofs.Common.{◌≡◌, ◌==◌, max, not, ◌||◌, true, is_some, Some, sym, ap, subst, ◌∙◌}
use Rattle.std.specs.Prelude.{unwrap_or}
use Rattle.boss_model.specs.Acts.{act_on, replay}
use Rattle.boss_model.specs.State.{Persistent}
use Rattle.boss_model.specs.Time.{tick_to}
use Rattle.law_effects.specs.Early.{early}
use Rattle.boss_engine.specs.Again.{IsReadyAgain}
use Rattle.boss_engine.specs.Inside.{CanAct}
use Rattle.boss_persistent.specs.Lasting.{persistent_of}
use Rattle.boss_engine.proofs.Again.{again-none, again-moment, again-sound, again-at, again-allowed, again-effective, again-after, again-still, readied-again}
use Rattle.boss_engine.proofs.machine.Machine.replay.Goals as goal
use Rattle.boss_engine.proofs.machine.Machine.replay.Goals.{After-act_again-changed}

pub returns-then-not-is_allowed-clause-effective : goal.returns-then-not-is_allowed-clause-effective
returns-then-not-is_allowed-clause-effective c =
    let plant = c.args.plant.now in
    let event = c.args.event.now in
    let d = persistent_of c.args.self.now.lasting in
    let n = c.max-n.result in
    let at : n ≡ max d.now event.moment = c.max-n.ensures ∙ ap (λ k. max k event.moment) c.now-before.ensures in
    let sound = c.requires.can_act.sound in
    sym (ap is_some (again-none plant event d sound c.requires.spelled n at (sym c.is_allowed.ensures ∙ c.if-not-is_allowed.true)))

pub returns-then-not-is_allowed-clause-after : goal.returns-then-not-is_allowed-clause-after
returns-then-not-is_allowed-clause-after c =
    let plant = c.args.plant.now in
    let event = c.args.event.now in
    let d = persistent_of c.args.self.now.lasting in
    let n = c.max-n.result in
    let at : n ≡ max d.now event.moment = c.max-n.ensures ∙ ap (λ k. max k event.moment) c.now-before.ensures in
    let sound = c.requires.can_act.sound in
    sym (ap (λ done. unwrap_or done d) (again-none plant event d sound c.requires.spelled n at (sym c.is_allowed.ensures ∙ c.if-not-is_allowed.true)))

pub act_again-changed-requires-clause-passed : goal.act_again-changed-requires-clause-passed
act_again-changed-requires-clause-passed c =
    let plant = c.args.plant.now in
    let event = c.args.event.now in
    let d = persistent_of c.args.self.now.lasting in
    let n = c.max-n.result in
    let at : n ≡ max d.now event.moment = c.max-n.ensures ∙ ap (λ k. max k event.moment) c.now-before.ensures in
    let sound = c.requires.can_act.sound in
    let ticked = persistent_of c.tick.new.self.lasting in
    let is : ticked ≡ tick_to n d = c.tick.ensures.after ∙ ap (tick_to n) c.in_ok-ready.ensures.same in
    let passed = again-at plant event d sound c.requires.spelled n at ticked is in
    record { reached = passed.reached; live = passed.live; running = passed.running }

pub act_again-changed-requires-clause-moment : goal.act_again-changed-requires-clause-moment
act_again-changed-requires-clause-moment c =
    let plant = c.args.plant.now in
    let event = c.args.event.now in
    let d = persistent_of c.args.self.now.lasting in
    let n = c.max-n.result in
    let at : n ≡ max d.now event.moment = c.max-n.ensures ∙ ap (λ k. max k event.moment) c.now-before.ensures in
    let sound = c.requires.can_act.sound in
    let ticked = persistent_of c.tick.new.self.lasting in
    let is : ticked ≡ tick_to n d = c.tick.ensures.after ∙ ap (tick_to n) c.in_ok-ready.ensures.same in
    ((again-at plant event d sound c.requires.spelled n at ticked is).reached, (again-moment plant event d sound c.requires.spelled n at).1)

pub act_again-changed-requires-clause-allowed : goal.act_again-changed-requires-clause-allowed
act_again-changed-requires-clause-allowed c =
    let plant = c.args.plant.now in
    let event = c.args.event.now in
    let d = persistent_of c.args.self.now.lasting in
    let n = c.max-n.result in
    let at : n ≡ max d.now event.moment = c.max-n.ensures ∙ ap (λ k. max k event.moment) c.now-before.ensures in
    let sound = c.requires.can_act.sound in
    let ticked = persistent_of c.tick.new.self.lasting in
    let is : ticked ≡ tick_to n d = c.tick.ensures.after ∙ ap (tick_to n) c.in_ok-ready.ensures.same in
    let asked : early plant n event.act d ≡ true = sym c.is_allowed.ensures ∙ c.if-not-is_allowed.false in
    let can : CanAct plant c.tick.new.self = record {
      sound = again-sound plant event d sound c.requires.spelled n at ticked is;
      places = c.tick.ensures.places plant c.in_ok-ready.ensures.can_act.places;
    } in
    (plant, can, again-allowed plant event d sound c.requires.spelled n at ticked is asked)

pub act_again-changed-requires-clause-ready : goal.act_again-changed-requires-clause-ready
act_again-changed-requires-clause-ready c =
    let plant = c.args.plant.now in
    let event = c.args.event.now in
    let d = persistent_of c.args.self.now.lasting in
    let n = c.max-n.result in
    let ticked = persistent_of c.tick.new.self.lasting in
    let is : ticked ≡ tick_to n d = c.tick.ensures.after ∙ ap (tick_to n) c.in_ok-ready.ensures.same in
    subst (λ (t : Persistent). IsReadyAgain n event.act c.in_ok-ready.ready t) (sym is) (readied-again n event.act c.in_ok-ready.ready d c.in_ok-ready.ensures.ready)

-- ---- the act was done again, which made of the state up to its moment what lasts now

at : (c : After-act_again-changed) → c.max-n.result ≡ max (persistent_of c.args.self.now.lasting).now c.args.event.now.moment
at c = c.max-n.ensures ∙ ap (λ k. max k c.args.event.now.moment) c.now-before.ensures

ticked : (c : After-act_again-changed) → persistent_of c.tick.new.self.lasting ≡ tick_to c.max-n.result (persistent_of c.args.self.now.lasting)
ticked c = c.tick.ensures.after ∙ ap (tick_to c.max-n.result) c.in_ok-ready.ensures.same

can : (c : After-act_again-changed) → CanAct c.args.plant.now c.tick.new.self
can c = record {
  sound = again-sound c.args.plant.now c.args.event.now (persistent_of c.args.self.now.lasting) c.requires.can_act.sound c.requires.spelled c.max-n.result (at c) _ (ticked c);
  places = c.tick.ensures.places c.args.plant.now c.in_ok-ready.ensures.can_act.places;
}

made : (c : After-act_again-changed) →
    act_on c.args.plant.now c.max-n.result c.args.event.now.act (persistent_of c.tick.new.self.lasting) ≡ Some (persistent_of c.act_again-changed.new.self.lasting)
made c =
    let d = persistent_of c.args.self.now.lasting in
    let asked : early c.args.plant.now c.max-n.result c.args.event.now.act d ≡ true = sym c.is_allowed.ensures ∙ c.if-not-is_allowed.false in
    c.act_again-changed.ensures.after c.args.plant.now (can c)
    (again-allowed c.args.plant.now c.args.event.now d c.requires.can_act.sound c.requires.spelled c.max-n.result (at c) (persistent_of c.tick.new.self.lasting) (ticked c) asked)

-- whether that changed something, or time did
effective : (c : After-act_again-changed) →
    (c.act_again-changed.result || not ((persistent_of c.tick.new.self.lasting).now == (persistent_of c.args.self.now.lasting).now))
    ≡ is_some (replay c.args.plant.now c.args.event.now (persistent_of c.args.self.now.lasting))
effective c =
    let d = persistent_of c.args.self.now.lasting in
    let now = (persistent_of c.tick.new.self.lasting).now in
    ap (λ b. b || not (now == d.now)) c.act_again-changed.ensures.changed
    ∙ again-effective c.args.plant.now c.args.event.now d c.requires.can_act.sound c.requires.spelled c.max-n.result (at c) _ (ticked c) _ (made c)

after : (c : After-act_again-changed) → persistent_of c.act_again-changed.new.self.lasting
    ≡ unwrap_or (replay c.args.plant.now c.args.event.now (persistent_of c.args.self.now.lasting)) (persistent_of c.args.self.now.lasting)
after c = again-after c.args.plant.now c.args.event.now _ c.requires.can_act.sound c.requires.spelled c.max-n.result (at c) _ (ticked c) _ (made c)

still : (c : After-act_again-changed) → CanAct c.args.plant.now c.act_again-changed.new.self
still c = record {
  sound = again-still c.args.plant.now c.args.event.now _ c.requires.can_act.sound c.requires.spelled c.max-n.result (at c) _ (ticked c) _ (made c);
  places = c.act_again-changed.ensures.places c.args.plant.now (can c).places;
}

pub returns-then-changed-clause-effective : goal.returns-then-changed-clause-effective
returns-then-changed-clause-effective c =
    c.if-changed.true
    ∙ ap (λ b. b || not ((persistent_of c.tick.new.self.lasting).now == (persistent_of c.args.self.now.lasting).now)) (sym c.if-changed.true)
    ∙ effective (goal.at.returns-then-changed-clause-effective c).After-act_again-changed

pub returns-then-changed-clause-after : goal.returns-then-changed-clause-after
returns-then-changed-clause-after c = after (goal.at.returns-then-changed-clause-after c).After-act_again-changed

pub returns-then-changed-clause-can_act : goal.returns-then-changed-clause-can_act
returns-then-changed-clause-can_act c = still (goal.at.returns-then-changed-clause-can_act c).After-act_again-changed

pub returns-else-changed-clause-effective : goal.returns-else-changed-clause-effective
returns-else-changed-clause-effective c =
    let moved : not (c.now-passed.result == c.now-before.result) ≡ not ((persistent_of c.tick.new.self.lasting).now == (persistent_of c.args.self.now.lasting).now) =
    (λ i. not (c.now-passed.ensures i == c.now-before.ensures i)) in
    moved
    ∙ ap (λ b. b || not ((persistent_of c.tick.new.self.lasting).now == (persistent_of c.args.self.now.lasting).now)) (sym c.if-changed.false)
    ∙ effective (goal.at.returns-else-changed-clause-effective c).After-act_again-changed

pub returns-else-changed-clause-after : goal.returns-else-changed-clause-after
returns-else-changed-clause-after c = after (goal.at.returns-else-changed-clause-after c).After-act_again-changed

pub returns-else-changed-clause-can_act : goal.returns-else-changed-clause-can_act
returns-else-changed-clause-can_act c = still (goal.at.returns-else-changed-clause-can_act c).After-act_again-changed
