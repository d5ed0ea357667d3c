use Rattle.std.proofs.Common.{◌≡◌, ℕ, suc, Bool, ◌+◌, ◌-◌, ◌≤◌, List, [], ◌∷◌, ◌++◌, length, refl, sym, ap, ◌∙◌, subst, arith, length-append, append-nil, append_assoc, rules}
use Rattle.std.proofs.lemmas.Grind.{common_steps}
use Rattle.std.proofs.lemmas.List.{nil_from_length}
use Rattle.def_lanes.proofs.Lists.{each-append}
use Rattle.boss_outside_server.specs.declared.waited.Waited.{Waited}
use Rattle.boss_worker.specs.Workers.{devices_at, was_at, IsReady}
use Rattle.boss_server.specs.Hosted.{RoseBy}
use Rattle.boss_server.specs.Turns.{devices_of, AllInTurn}
use Rattle.boss_server.proofs.FreshLemmas.{fresh-devices, fresh-faults, fresh-handed, fresh-placed, fresh-served}
use Rattle.boss_server.proofs.ReferenceLemmas.{references-same, references-then}
use Rattle.boss_server.proofs.ReturnedLemmas.{drivers-next, fits-next, put-length, put-next}
use Rattle.boss_server.proofs.TogetherLemmas.{rose-both, rose-none}
use Rattle.boss_server.proofs.returning.return_all.Goals as goal

pub loop-worker-init : goal.loop-worker-init
loop-worker-init g c =
    let same : c.into_iter-worker-iterator.result.rest.items ≡ c.args.workers.items = c.into_iter-worker-iterator.ensures.into_iter_gives.0 in
    record {
      own = c.requires.own;
      parts = omega arith;
      empty = c.requires.empty;
      references = references-same c.args.outside.now;
      sound = c.requires.sound;
      spawner = refl;
      host = record { served = λ told. refl; listens = λ told. refl; faults = refl; handed = rose-none (g.H.Host.handed c.args.outside.now.host.now) };
      clock = record { given = λ told. refl; faults = refl };
      waiter = record { notes = []; noted = λ told. sym (append-nil (g.W.Waiter.waits c.args.outside.now.waiter.now)); unpaused = λ told. tt };
      ready = subst (λ items. AllInTurn items 0 (λ number worker. (worker.server.now ≡ c.args.server.now) × (worker.number ≡ number)
          × IsReady g.G.Desk g.H.Host g.C.Clock g.W.Waiter g.A.Actuators c.args.server.now.catalogue.now c.args.server.now.desk c.args.server.now.workers number worker.pass worker.duty worker.clock worker.waiter worker.flags)) (sym same) c.requires.ready;
      count = omega (arith, ap length same);
      was = [];
      drivers = omega arith;
      devices = refl;
      all_devices = ap (λ items. devices_of items (λ worker. was_at worker.duty)) same;
      room = let e : length (devices_of c.into_iter-worker-iterator.result.rest.items (λ worker. was_at worker.duty)) ≡ length (devices_of c.args.workers.items (λ worker. was_at worker.duty)) =
          ap (λ items. length (devices_of items (λ worker. was_at worker.duty))) same in omega (arith, e, c.requires.room);
    }

pub join_one-requires-clause-own : goal.join_one-requires-clause-own
join_one-requires-clause-own g c =
    let step : c.loop-worker.worker-iterator.rest.items ≡ c.in-Some.worker ∷ c.next.new.self.rest.items = c.in-Some.ensures.steps.0 in
    let all = subst (λ items. AllInTurn items (length c.loop-worker.yielded) (λ number worker. (worker.server.now ≡ c.args.server.now) × (worker.number ≡ number)
    × IsReady g.G.Desk g.H.Host g.C.Clock g.W.Waiter g.A.Actuators c.args.server.now.catalogue.now c.args.server.now.desk c.args.server.now.workers number worker.pass worker.duty worker.clock worker.waiter worker.flags)) step c.loop-worker.invariant.ready in
    (c.loop-worker.invariant.own, all.0.2.own)

pub join_one-requires-clause-place : goal.join_one-requires-clause-place
join_one-requires-clause-place g c =
    let step : c.loop-worker.worker-iterator.rest.items ≡ c.in-Some.worker ∷ c.next.new.self.rest.items = c.in-Some.ensures.steps.0 in
    let all = subst (λ items. AllInTurn items (length c.loop-worker.yielded) (λ number worker. (worker.server.now ≡ c.args.server.now) × (worker.number ≡ number)
    × IsReady g.G.Desk g.H.Host g.C.Clock g.W.Waiter g.A.Actuators c.args.server.now.catalogue.now c.args.server.now.desk c.args.server.now.workers number worker.pass worker.duty worker.clock worker.waiter worker.flags)) step c.loop-worker.invariant.ready in
    let inv = c.loop-worker.invariant in
    fits-next g.A.Actuators c.args.server.now.workers (length c.loop-worker.yielded) c.in-Some.worker.duty inv.was c.args.outside.now.devices.now.items c.loop-worker.outside.devices.now.items
    (fresh-placed g.H.Host c.args.server.now.workers (length c.loop-worker.yielded) c.in-Some.worker.duty all.0.2.fresh) inv.drivers inv.devices

pub join_one-requires-clause-room : goal.join_one-requires-clause-room
join_one-requires-clause-room g c =
    let step : c.loop-worker.worker-iterator.rest.items ≡ c.in-Some.worker ∷ c.next.new.self.rest.items = c.in-Some.ensures.steps.0 in
    let handed : devices_of c.loop-worker.worker-iterator.rest.items (λ worker. was_at worker.duty) ≡ was_at c.in-Some.worker.duty ++ devices_of c.next.new.self.rest.items (λ worker. was_at worker.duty) =
    ap (λ items. devices_of items (λ worker. was_at worker.duty)) step in
    omega (arith, c.loop-worker.invariant.room, ap length handed, length-append (was_at c.in-Some.worker.duty) (devices_of c.next.new.self.rest.items (λ worker. was_at worker.duty)))

pub loop-worker-preserved : goal.loop-worker-preserved
loop-worker-preserved g c =
    let step : c.loop-worker.worker-iterator.rest.items ≡ c.in-Some.worker ∷ c.next.new.self.rest.items = c.in-Some.ensures.steps.0 in
    let all = subst (λ items. AllInTurn items (length c.loop-worker.yielded) (λ number worker. (worker.server.now ≡ c.args.server.now) × (worker.number ≡ number)
    × IsReady g.G.Desk g.H.Host g.C.Clock g.W.Waiter g.A.Actuators c.args.server.now.catalogue.now c.args.server.now.desk c.args.server.now.workers number worker.pass worker.duty worker.clock worker.waiter worker.flags)) step c.loop-worker.invariant.ready in
    let inv = c.loop-worker.invariant in
    let ready = all.0.2 in
    let placed = fresh-placed g.H.Host c.args.server.now.workers (length c.loop-worker.yielded) c.in-Some.worker.duty ready.fresh in
    let fits = fits-next g.A.Actuators c.args.server.now.workers (length c.loop-worker.yielded) c.in-Some.worker.duty inv.was c.args.outside.now.devices.now.items c.loop-worker.outside.devices.now.items placed inv.drivers inv.devices in
    let more : suc (length c.loop-worker.yielded) ≡ length (c.loop-worker.yielded ++ c.in-Some.worker ∷ []) = omega (arith, length-append c.loop-worker.yielded (c.in-Some.worker ∷ [])) in
    let handed : devices_of c.loop-worker.worker-iterator.rest.items (λ worker. was_at worker.duty) ≡ was_at c.in-Some.worker.duty ++ devices_of c.next.new.self.rest.items (λ worker. was_at worker.duty) =
    ap (λ items. devices_of items (λ worker. was_at worker.duty)) step in
    let note : Waited = g.W.Waiter.waited c.in-Some.worker.waiter in
    record {
      own = c.join_one.ensures.own;
      parts = omega (arith, c.join_one.ensures.parts, ready.one, inv.parts, more);
      empty = c.join_one.ensures.nothing inv.empty ready.empty;
      references = references-then c.args.outside.now c.loop-worker.outside c.join_one.new.outside inv.references c.join_one.ensures.references;
      sound = c.join_one.ensures.sound;
      spawner = c.join_one.ensures.spawner ∙ inv.spawner;
      host = record {
        served = λ told. c.join_one.ensures.served told ∙ ap (λ list. g.H.Host.served c.loop-worker.outside.host.now ++ list) (fresh-served g.H.Host c.args.server.now.workers (length c.loop-worker.yielded) c.in-Some.worker.duty ready.fresh told)
            ∙ append-nil (g.H.Host.served c.loop-worker.outside.host.now) ∙ inv.host.served told;
        listens = λ told. c.join_one.ensures.listens told ∙ inv.host.listens told;
        faults = c.join_one.ensures.hosted.fine (fresh-faults g.H.Host c.args.server.now.workers (length c.loop-worker.yielded) c.in-Some.worker.duty ready.fresh) ∙ inv.host.faults;
        handed = rose-both 0 0 (g.H.Host.handed c.args.outside.now.host.now) (g.H.Host.handed c.loop-worker.outside.host.now) (g.H.Host.handed c.join_one.new.outside.host.now) inv.host.handed
            (subst (λ more. RoseBy more (g.H.Host.handed c.loop-worker.outside.host.now) (g.H.Host.handed c.join_one.new.outside.host.now))
            (fresh-handed g.H.Host c.args.server.now.workers (length c.loop-worker.yielded) c.in-Some.worker.duty ready.fresh) c.join_one.ensures.handed);
      };
      clock = record {
        given = λ told. c.join_one.ensures.given told ∙ ap (λ list. g.C.Clock.given c.loop-worker.outside.clock.now ++ list) (ready.given told) ∙ append-nil (g.C.Clock.given c.loop-worker.outside.clock.now) ∙ inv.clock.given told;
        faults = c.join_one.ensures.ticked.fine ready.clock_faults ∙ inv.clock.faults;
      };
      waiter = record {
        notes = inv.waiter.notes ++ note ∷ [];
        noted = λ told. c.join_one.ensures.waited told ∙ ap (λ list. list ++ note ∷ []) (inv.waiter.noted told) ∙ append_assoc (g.W.Waiter.waits c.args.outside.now.waiter.now) inv.waiter.notes (note ∷ []);
        unpaused = λ told. each-append (λ (one : Waited). one.pauses ≡ 0) inv.waiter.notes (note ∷ []) (inv.waiter.unpaused told) (ap (λ (one : Waited). one.pauses) (ready.waited told), tt);
      };
      ready = subst (λ n. AllInTurn c.next.new.self.rest.items n (λ number worker. (worker.server.now ≡ c.args.server.now) × (worker.number ≡ number)
          × IsReady g.G.Desk g.H.Host g.C.Clock g.W.Waiter g.A.Actuators c.args.server.now.catalogue.now c.args.server.now.desk c.args.server.now.workers number worker.pass worker.duty worker.clock worker.waiter worker.flags)) more all.1;
      count = omega (arith, inv.count, ap length step, more);
      was = inv.was ++ was_at c.in-Some.worker.duty;
      drivers = omega (arith, drivers-next g.A.Actuators c.args.server.now.workers (length c.loop-worker.yielded) c.in-Some.worker.duty inv.was placed inv.drivers, more);
      devices = c.join_one.ensures.devices ∙ put-next g.A.Actuators c.args.server.now.workers (length c.loop-worker.yielded) c.in-Some.worker.duty inv.was c.args.outside.now.devices.now.items c.loop-worker.outside.devices.now.items placed inv.drivers inv.devices
          ∙ ap (λ list. (inv.was ++ list) ++ c.args.outside.now.devices.now.items) (fresh-devices g.H.Host c.args.server.now.workers (length c.loop-worker.yielded) c.in-Some.worker.duty ready.fresh);
      all_devices = append_assoc inv.was (was_at c.in-Some.worker.duty) (devices_of c.next.new.self.rest.items (λ worker. was_at worker.duty)) ∙ ap (λ list. inv.was ++ list) (sym handed) ∙ inv.all_devices;
      room = omega (
        arith,
        inv.room,
        ap length handed,
        length-append (was_at c.in-Some.worker.duty) (devices_of c.next.new.self.rest.items (λ worker. was_at worker.duty)),
        put-length c.in-Some.worker.duty c.loop-worker.outside.devices.now.items fits,
        ap length c.join_one.ensures.devices,
        c.join_one.ensures.room,
      );
    }

pub returns-clause-parts : goal.returns-clause-parts
returns-clause-parts g c =
    let all : length c.loop-worker.yielded ≡ length c.args.workers.items =
    first_of (omega (arith, c.in-None.ensures.steps.0, c.loop-worker.invariant.count), search rules, grind (arith, common_steps)) in
    omega (arith, all, c.loop-worker.invariant.parts)

pub returns-clause-devices : goal.returns-clause-devices
returns-clause-devices g c =
    let all : length c.loop-worker.yielded ≡ length c.args.workers.items =
    first_of (omega (arith, c.in-None.ensures.steps.0, c.loop-worker.invariant.count), search rules, grind (arith, common_steps)) in
    let inv = c.loop-worker.invariant in
    let none : c.loop-worker.worker-iterator.rest.items ≡ [] = nil_from_length c.loop-worker.worker-iterator.rest.items (omega (arith, inv.count, all)) in
    let handed : inv.was ≡ devices_of c.args.workers.items (λ worker. was_at worker.duty) =
    sym (append-nil inv.was) ∙ ap (λ items. inv.was ++ devices_of items (λ worker. was_at worker.duty)) (sym none) ∙ inv.all_devices in
    inv.devices ∙ ap (λ list. list ++ c.args.outside.now.devices.now.items) handed
