use Rattle.std.proofs.Common.{◌≡◌, ◌≤◌, ◌∙◌, length, sym, subst, ap, arith}
use Rattle.std.proofs.lemmas.List.{length-map}
use Rattle.boss_model.specs.declared.state.Actuator.{Actuator}
use Rattle.boss_model.specs.Catalogue.{default_of}
use Rattle.boss_model.specs.Devices.{proxy_of}
use Rattle.boss_model.specs.Reversions.{courses}
use Rattle.boss_model.specs.Sound.{IsSoundPersistent}
use Rattle.boss_model.specs.State.{Persistent}
use Rattle.boss_model.specs.Time.{due, tick_to}
use Rattle.law_time.proofs.Coming.{later-first, now_after-within}
use Rattle.law_time.proofs.TickSound.{tick-sound}
use Rattle.boss_marks.specs.Marks.{Marks}
use Rattle.boss_persistent.specs.declared.lasting.Lasting.{Lasting}
use Rattle.boss_engine.specs.Inside.{state_of}
use Rattle.boss_persistent.specs.Lasting.{IsKept, persistent_of}
use Rattle.boss_engine.specs.Settling.{settled_by}
use Rattle.boss_engine.specs.Waiting as waiting
use Rattle.law_due.proofs.DueLemmas.{IsNoMore, few-after}
use Rattle.boss_persistent.proofs.Current.{all-current, commanded-retried}
use Rattle.boss_engine.proofs.Keeping.{kept-flags}
use Rattle.boss_persistent.proofs.Playable.{all-playable}
use Rattle.boss_engine.proofs.Rooms.{room-left}
use Rattle.boss_engine.proofs.Waiting.{length-retried}
use Rattle.boss_engine.proofs.machine.Machine.pass_time.Goals as goal

pub settle-requires-clause-number : goal.settle-requires-clause-number
settle-requires-clause-number c =
    ap (λ marks. length marks.proxies) c.retry_due.ensures ∙ length-retried c.args.n c.args.self.now.marks ∙ c.requires.ready.sound.proxies

pub settle-requires-clause-pending : goal.settle-requires-clause-pending
settle-requires-clause-pending c =
    let plant = c.args.plant.now in
    let sound : IsSoundPersistent plant (persistent_of c.tick.new.self) = subst (IsSoundPersistent plant) (sym c.tick.ensures.after)
    (tick-sound plant (persistent_of c.args.self.now.lasting) c.args.n c.requires.ready.sound.persistent c.requires.moment.0 c.requires.moment.1) in
    all-playable plant (persistent_of c.tick.new.self) sound

pub settle-requires-clause-points : goal.settle-requires-clause-points
settle-requires-clause-points c = c.requires.ready.places.points ∙ sym c.tick.ensures.points

pub settle-requires-clause-drivers : goal.settle-requires-clause-drivers
settle-requires-clause-drivers c =
    ap (λ (m : Marks). length m.drivers) c.retry_due.ensures ∙ ap length c.requires.ready.places.drivers ∙ length-map c.args.plant.now (λ (actuator : Actuator). actuator.driver)

pub settle-requires-clause-few : goal.settle-requires-clause-few
settle-requires-clause-few c = c.requires.ready.places.small

pub settle-requires-clause-current : goal.settle-requires-clause-current
settle-requires-clause-current c = λ k within left.
    let old = c.args.self.now in
    let d = persistent_of old.lasting in
    let now : c.tick.new.self.holdings.now ≡ (tick_to c.args.n d).now = ap (λ (e : Persistent). e.now) c.tick.ensures.after in
    let first : d.now ≤ c.tick.new.self.holdings.now = subst (λ m. d.now ≤ m) (sym now) (later-first d.now (due c.args.n d)) in
    let last : c.tick.new.self.holdings.now ≤ c.args.n = subst (λ m. m ≤ c.args.n) (sym now) (now_after-within c.args.n d.now (courses d.pending d.leases) d.txns c.requires.moment.0) in
    ap (λ (m : Marks). (proxy_of m.proxies k).commanded) c.retry_due.ensures
    ∙ commanded-retried c.args.n old.marks k (omega (arith, within, c.requires.ready.sound.proxies))
    ∙ all-current c.args.plant.now (state_of old) c.requires.ready.sound k within
    ∙ sym (c.tick.ensures.untouched (default_of c.args.plant.now k) k c.tick.new.self.holdings.now left first last)

pub returns-clause-state : goal.returns-clause-state
returns-clause-state c =
    let plant = c.args.plant.now in
    let attached = c.args.self.now.attached.items in
    (λ i. waiting.state_of (persistent_of (c.settle.ensures.others i)) attached (c.settle.ensures.marks i))
    ∙ (λ i. waiting.state_of (c.tick.ensures.after i) attached (settled_by plant (c.tick.ensures.after i) (c.retry_due.ensures i)))

pub returns-clause-places : goal.returns-clause-places
returns-clause-places c =
    let places = c.requires.ready.places in
    record {
      small = places.small;
      drivers = ap (λ marks. marks.drivers) c.settle.ensures.marks ∙ ap (λ marks. marks.drivers) c.retry_due.ensures ∙ places.drivers;
      points = places.points ∙ sym (ap (λ (l : Lasting). l.holdings.points) c.settle.ensures.others ∙ c.tick.ensures.points);
      rows = subst IsKept (sym c.settle.ensures.others) (kept-flags c.tick.new.self c.settle.new.lasting.holdings.touched c.tick.ensures.kept);
      attached = places.attached;
      told = omega (arith, c.tick.ensures.told, places.told);
    }

pub returns-clause-room : goal.returns-clause-room
returns-clause-room c =
    let old = c.args.self.now.lasting in
    let new = c.settle.new.lasting in
    let same : persistent_of new ≡ persistent_of c.tick.new.self = ap persistent_of c.settle.ensures.others in
    let few : IsNoMore (persistent_of old) (persistent_of new) = subst (IsNoMore (persistent_of old)) (sym (same ∙ c.tick.ensures.after)) (few-after c.args.n (persistent_of old)) in
    room-left c.args.self.now _ few (ap (λ (l : Lasting). l.stages.room) c.settle.ensures.others ∙ c.tick.ensures.stages)
